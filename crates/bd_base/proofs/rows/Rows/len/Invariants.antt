use Rattle.std.proofs.Common.{◌≡◌, ◌*◌, ◌≤◌, length, take}
use Rattle.bd_base.specs.Rows.{pairs_of}
use Rattle.bd_base.proofs.rows.Rows.len.Given as goal

abbrev pub invariant-loop-span : goal.invariant-loop-span
invariant-loop-span l = record {
  counted : l.n ≡ length (pairs_of l.self-inside.words.items l.self-inside.first (take l.span-index l.self-inside.spans.items));
  few : l.n ≤ 8192 * l.span-index;
}
