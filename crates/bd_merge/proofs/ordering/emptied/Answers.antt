use Rattle.std.proofs.Common.{◌≡◌, ℕ, List, [], ◌∷◌, refl, ap, ◌∙◌}
use Rattle.std.specs.List.{filter}
use Rattle.bd_base.specs.Facts.{has}
use Rattle.bd_merge.proofs.ordering.emptied.Goals as goal

filter_none : (xs : List ℕ) → filter (has []) xs ≡ []
filter_none [] = refl
filter_none (x ∷ xs) = filter_none xs

pub returns : goal.returns
returns c = c.meet.ensures ∙ ap (λ (z : List ℕ). filter (has z) c.in_ok-none.none) (c.row-2.ensures.row ∙ c.new.ensures) ∙ filter_none c.in_ok-none.none
