-- A walk over a block's kids that stops at the first fault.
use Rattle.std.proofs.Common.{◌≡◌, ℕ, ◌+◌, ◌<◌, ◌≤◌, List, map, length, get_or, take, drop, Option, Some, None, Result, Ok, Err, IsErrAnd, sym, ap, ◌∙◌, subst}
use Rattle.std.specs.List.{enumerate_from}
use Rattle.std.specs.Option.{option_or}
use Rattle.std.proofs.lemmas.List.{take_all, drop_all}
use Rattle.bd_task.specs.declared.ground.Action.{Action}
use Rattle.bd_tree.specs.declared.node.Node.{Node, Block}
use Rattle.bd_links.specs.declared.parts.Effects.{Effects}
use Rattle.bd_links.specs.Child.{Child}
use Rattle.bd_links.specs.declared.parts.Fault.{Fault}
use Rattle.bd_links.specs.declared.parts.Stop.{Stop}
use Rattle.bd_links.specs.declared.parts.Stop.TheVariants.{Found, NoMemory}
use Rattle.bd_links.specs.Effects.{block_effects}
use Rattle.bd_links.specs.Faults.{first_of, block_fault}
use Rattle.bd_links.specs.Judged.{Judges}
use Rattle.bd_links.specs.Sound.{Summary, summary_of, child_of}
use Rattle.bd_links.proofs.Equations.{fault_of-Block, child_of-Block}
use Rattle.bd_links.proofs.Steps.{drop-at}

-- what stopped an inner walk stops the outer one
pub stops : {A B : Type 0} (f g : Option Fault) (a : A) (b : B) (r : Result B Stop) (s : Stop) → IsErrAnd r (λ x. x ≡ s) → Judges f a (Err s) → ((x : Fault) → f ≡ Some x → g ≡ Some x) → Judges g b r
stops f g a b (Ok y) s h j up = absurd h
stops f g a b (Err x) s h j up = subst (λ z. Judges g b (Err z)) (sym h) (moved s j)
  where
    moved : (s : Stop) → Judges f a (Err s) → Judges g b (Err s)
    moved (Found y) j = up y j
    moved NoMemory j = tt

module _ (actions : List Action) where
  -- the first fault inside some nodes
  abbrev pub first_in : List Node → Option Fault
  first_in kids = first_of (map (λ (k : Summary). k.fault) (map (summary_of actions) kids))

  module _ (items : List Node) (i : ℕ) (kid : Node) (lt : i < length items) (is : kid ≡ get_or items i kid) (before : first_in (drop i items) ≡ first_in items) where
    here : first_in (drop i items) ≡ option_or (summary_of actions kid).fault (first_in (drop (i + 1) items))
    here = ap first_in (drop-at items i kid lt is)

    pub kid_passes : (summary_of actions kid).fault ≡ None → first_in (drop (i + 1) items) ≡ first_in items
    kid_passes none = sym (here ∙ ap (λ z. option_or z (first_in (drop (i + 1) items))) none) ∙ before

    pub kid_stops : (n : Node) (id : ℕ) (kids : List Node) (order : List (ℕ × ℕ)) → n ≡ Block id kids order → items ≡ kids → (x : Fault) → (summary_of actions kid).fault ≡ Some x → (summary_of actions n).fault ≡ Some x
    kid_stops n id kids order opens same x found =
        let rest = block_fault id order (enumerate_from 0 (map (child_of actions) kids)) in
        ap (λ z. (summary_of actions z).fault) opens ∙ fault_of-Block actions id kids order
        ∙ ap (λ z. option_or z rest) (ap first_in (sym same) ∙ sym before ∙ here ∙ ap (λ z. option_or z (first_in (drop (i + 1) items))) found)

  module _ (n : Node) (id : ℕ) (kids : List Node) (order : List (ℕ × ℕ)) (opens : n ≡ Block id kids order) (items : List Node) (same : items ≡ kids)
      (i : ℕ) (le : length items ≤ i) (made : List Child) (all : made ≡ map (child_of actions) (take i items)) where
    made_all : made ≡ map (child_of actions) kids
    made_all = all ∙ ap (map (child_of actions)) (take_all _ _ le ∙ same)

    pub block_child : (e : Effects) → e ≡ block_effects order (enumerate_from 0 made) → record { id = id; effects = e } ≡ child_of actions n
    block_child e is =
        ap (λ z. record { id = id; effects = z }) (is ∙ ap (λ z. block_effects order (enumerate_from 0 z)) made_all)
        ∙ sym (ap (child_of actions) opens ∙ child_of-Block actions id kids order)

    pub block_stops : first_in (drop i items) ≡ first_in items → (summary_of actions n).fault ≡ block_fault id order (enumerate_from 0 made)
    block_stops before =
        let none : first_in kids ≡ None = ap first_in (sym same) ∙ sym before ∙ ap first_in (drop_all _ _ le) in
        ap (λ z. (summary_of actions z).fault) opens ∙ fault_of-Block actions id kids order
        ∙ ap (λ z. option_or z (block_fault id order (enumerate_from 0 (map (child_of actions) kids)))) none
        ∙ ap (λ z. block_fault id order (enumerate_from 0 z)) (sym made_all)
