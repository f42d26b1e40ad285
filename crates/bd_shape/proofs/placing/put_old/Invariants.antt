use Rattle.std.proofs.Common.{◌≡◌, ◌||◌, ◌&&◌, ℕ}
use Rattle.std.specs.List.{list_any}
use Rattle.std.specs.Prelude.{nat_lt}
use Rattle.bd_base.specs.Facts.{has}
use Rattle.bd_shape.specs.Placed.{is_spot}
use Rattle.bd_shape.proofs.placing.put_old.Given as goal

abbrev pub invariant-loop-d : goal.invariant-loop-d
invariant-loop-d l = (q : ℕ) → (has l.row q || list_any (λ d. nat_lt l.at q && is_spot l.spots d q) l.d-iterator) ≡ (has l.initial.row q || list_any (λ d. nat_lt l.at q && is_spot l.spots d q) l.after)
