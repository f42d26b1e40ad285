-- Parts of the products of an order: what its rows and its columns add up to.
use Rattle.std.specs.Prelude.{ℕ, ◌+◌, List, [], ◌∷◌, map, slice_index}
use Rattle.bd_base.specs.Pairs.{before_of}
use Rattle.bd_tree.specs.Tree.{total}

-- for each pair of an order, the first kid's number of steps, added up
abbrev pub first_steps : List (ℕ × ℕ) → List ℕ → ℕ
first_steps [] steps = 0
first_steps (p ∷ order) steps = slice_index steps p.0 + first_steps order steps

-- how many steps the kids before kid k have
abbrev pub steps_before : List (ℕ × ℕ) → List ℕ → ℕ → ℕ
steps_before order steps k = total (map (λ i. slice_index steps i) (before_of order k))
