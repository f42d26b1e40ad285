use Rattle.std.proofs.Common.{◌≡◌, take}
use Rattle.bd_window.proofs.families.family.Given as goal

abbrev pub invariant-loop-cut : goal.invariant-loop-cut
invariant-loop-cut l = l.windows.items ≡ take l.cut-index l.cut-items
