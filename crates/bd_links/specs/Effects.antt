-- What a node needs, gives and deletes, and when the links of a block's kids hold.
use Rattle.std.specs.Prelude.{ℕ, Bool, not, ◌&&◌, ◌||◌, ◌==◌, List, [], ◌∷◌, filter, Option, Some, None}
use Rattle.std.specs.List.{list_any, list_all}
use Rattle.bd_base.specs.Facts.{has, plus}
use Rattle.bd_base.specs.Pairs.{is_before}
use Rattle.bd_task.specs.declared.ground.Action.{Action}
use Rattle.bd_links.specs.declared.parts.Effects.{Effects}
use Rattle.bd_links.specs.Child.{Child}

-- a kid by its position in the block's listing
abbrev pub Kid : Type 0
Kid = ℕ × Child

abbrev pub Order : Type 0
Order = List (ℕ × ℕ)

-- kid i is before j and gives p, and each kid other than the two that deletes p is before i or after j
abbrev pub links : Order → List Kid → ℕ → ℕ → Kid → Bool
links order kids j p i =
    is_before order i.0 j && has i.1.effects.add p
    && list_all (λ d. d.0 == i.0 || d.0 == j || not (has d.1.effects.del p) || is_before order d.0 i.0 || is_before order j d.0) kids

-- kid j is linked for p
abbrev pub is_linked : Order → List Kid → ℕ → ℕ → Bool
is_linked order kids j p = list_any (links order kids j p) kids

-- some kid needs p and isn't linked for it
abbrev pub is_needed : Order → List Kid → ℕ → Bool
is_needed order kids p = list_any (λ j. has j.1.effects.need p && not (is_linked order kids j.0 p)) kids

-- kid i gives p, and each other kid that deletes it is before i
abbrev pub gives : Order → List Kid → ℕ → Kid → Bool
gives order kids p i = has i.1.effects.add p && list_all (λ d. d.0 == i.0 || not (has d.1.effects.del p) || is_before order d.0 i.0) kids

abbrev pub is_given : Order → List Kid → ℕ → Bool
is_given order kids p = list_any (gives order kids p) kids

-- some kid deletes p, and the block doesn't give it
abbrev pub is_deleted : Order → List Kid → ℕ → Bool
is_deleted order kids p = list_any (λ d. has d.1.effects.del p) kids && not (is_given order kids p)

-- a set with the facts of all kids
abbrev pub with_facts : (Effects → List ℕ) → List ℕ → List Kid → List ℕ
with_facts f s [] = s
with_facts f s (k ∷ ks) = with_facts f (plus s (f k.1.effects)) ks

abbrev pub all_facts : (Effects → List ℕ) → List Kid → List ℕ
all_facts f = with_facts f []

-- what a block needs, gives and deletes
abbrev pub block_effects : Order → List Kid → Effects
block_effects order kids = record {
  need = filter (is_needed order kids) (all_facts (λ e. e.need) kids);
  add = filter (is_given order kids) (all_facts (λ e. e.add) kids);
  del = filter (is_deleted order kids) (all_facts (λ e. e.del) kids);
}

-- what a step needs, gives and deletes
abbrev pub step_effects : Option Action → Effects
step_effects None = record { need = []; add = []; del = [] }
step_effects (Some a) = record { need = a.pre; add = a.add; del = a.del }

-- kid j is linked for p, or each other kid that deletes p is after j
abbrev pub is_safe : Order → List Kid → Kid → ℕ → Bool
is_safe order kids j p = is_linked order kids j.0 p || list_all (λ d. d.0 == j.0 || not (has d.1.effects.del p) || is_before order j.0 d.0) kids

-- each kid is safe for each fact that it needs
abbrev pub are_safe : Order → List Kid → Bool
are_safe order kids = list_all (λ j. list_all (is_safe order kids j) j.1.effects.need) kids
