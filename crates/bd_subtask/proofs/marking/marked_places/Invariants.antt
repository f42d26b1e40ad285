use Rattle.std.proofs.Common.{◌≡◌, ℕ, Bool, ◌++◌, drop, map, filter}
use Rattle.std.specs.List.{enumerate_from}
use Rattle.bd_subtask.proofs.marking.marked_places.Given as goal

abbrev pub invariant-loop-mark : goal.invariant-loop-mark
invariant-loop-mark l =
    (l.at ≡ l.mark-index)
    × (l.places.items ++ map (λ (k : ℕ × Bool). k.0) (filter (λ (k : ℕ × Bool). k.1) (enumerate_from l.at (drop l.mark-index l.marks))) ≡ map (λ (k : ℕ × Bool). k.0) (filter (λ (k : ℕ × Bool). k.1) (enumerate_from 0 l.marks)))
