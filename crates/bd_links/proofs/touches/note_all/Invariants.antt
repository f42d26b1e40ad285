use Rattle.std.proofs.Common.{◌≡◌, ℕ, cond, [], ◌∷◌, ◌++◌}
use Rattle.bd_base.specs.Facts.{IsRising, has}
use Rattle.bd_links.specs.Rows.{places_of}
use Rattle.bd_links.proofs.touches.note_all.Given as goal

abbrev pub invariant-loop-p : goal.invariant-loop-p
invariant-loop-p l = record {
  rising : IsRising l.p-iterator;
  noted : (q : ℕ) → places_of l.places q ++ cond (has l.p-iterator q) (l.j ∷ []) [] ≡ places_of l.initial.places q ++ cond (has l.facts q) (l.j ∷ []) [];
}
