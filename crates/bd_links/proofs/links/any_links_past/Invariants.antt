use Rattle.std.proofs.Common.{◌≡◌, true, false, drop}
use Rattle.bd_base.specs.Facts.{has}
use Rattle.bd_links.specs.Rows.{any_links, is_later}
use Rattle.bd_links.proofs.links.any_links_past.Given as goal

abbrev pub invariant-loop-i : goal.invariant-loop-i
invariant-loop-i l = record {
  found : has l.deleters l.m ≡ true;
  unordered : is_later l.order l.j l.m ≡ false;
  left : any_links l.order (drop l.i-index l.givers) l.deleters l.j ≡ any_links l.order l.givers l.deleters l.j;
}
