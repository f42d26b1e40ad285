-- What holds of each kid of a block holds of the one that is found.
use Rattle.std.proofs.Common.{◌≡◌, ℕ, zero, suc, true, false, not, eqb, List, [], ◌∷◌, map, Some, ap, ◌∙◌, subst, inl, inr}
use Rattle.std.specs.List.{list_all, slice_get}
use Rattle.std.proofs.lemmas.Bool.{and_parts, both_ways, cases_Bool, eq-eqb, eqb-true, false_from_ne_true, not-true, or_left, or_right}
use Rattle.bd_base.specs.Facts.{has}
use Rattle.bd_task.specs.declared.ground.Action.{Action}
use Rattle.bd_tree.specs.declared.node.Node.{Node, Block}
use Rattle.bd_tree.specs.declared.node.Node.TheViews.{outs-Block}
use Rattle.bd_tree.specs.WellFormed.{are_distinct}
use Rattle.bd_tree.specs.Tree.{id_of}
use Rattle.bd_links.specs.Sound.{are_below, effects_of}
use Rattle.bd_reason.specs.Reasons.{kid_with, reasons_if, reasons_in, reasons_in_layer, reasons_of}

pub kid_below : (n id : ℕ) (kids : List Node) (kid : Node) → Some kid ≡ kid_with id kids → list_all (λ b. b) (map (are_below n) kids) ≡ true → are_below n kid ≡ true
kid_below n id [] kid e h = absurd (cc)
kid_below n id (k ∷ kids) kid e h =
    let p = and_parts (are_below n k) (list_all (λ b. b) (map (are_below n) kids)) h in
    elim (cases_Bool (eqb (id_of k) id)) [
      | inl found ↦ let same : Some kid ≡ Some k = rw found at e in let one : k ≡ kid = cc in subst (λ z. are_below n z ≡ true) one p.0
      | inr missed ↦ kid_below n id kids kid (rw missed at e) p.1
    ]

-- the kid at a place is the one that its id finds, where ids are distinct
named_at : (kids : List Node) (a : ℕ) (kid : Node) → slice_get kids a ≡ Some kid → has (map id_of kids) (id_of kid) ≡ true
named_at [] a kid e = absurd (cc)
named_at (k ∷ kids) zero kid e = let one : k ≡ kid = cc in or_left _ _ (eq-eqb (id_of k) (id_of kid) (ap id_of one))
named_at (k ∷ kids) (suc a) kid e = or_right _ _ (named_at kids a kid e)

pub kid_at : (kids : List Node) (a : ℕ) (kid : Node) → are_distinct (map id_of kids) ≡ true → slice_get kids a ≡ Some kid → kid_with (id_of kid) kids ≡ Some kid
kid_at [] a kid d e = absurd (cc)
kid_at (k ∷ kids) zero kid d e = let one : k ≡ kid = cc in rw (eq-eqb (id_of k) (id_of kid) (ap id_of one)) (ap Some one)
kid_at (k ∷ kids) (suc a) kid d e =
    let p = and_parts (not (has (map id_of kids) (id_of k))) (are_distinct (map id_of kids)) d in
    let other : eqb (id_of k) (id_of kid) ≡ false = false_from_ne_true (eqb (id_of k) (id_of kid)) (λ same.
    both_ways _ (not-true _ p.0) (ap (has (map id_of kids)) (eqb-true (id_of k) (id_of kid) same) ∙ named_at kids a kid e)) in
    rw other (kid_at kids a kid p.1 e)

pub reasons_at_places : (actions : List Action) (id : ℕ) (kids : List Node) (order : List (ℕ × ℕ)) (a b : ℕ) (first second : Node) → are_distinct (map id_of kids) ≡ true → slice_get kids a ≡ Some first → slice_get kids b ≡ Some second
    → reasons_in actions (Block id kids order) (id_of first) (id_of second) ≡ reasons_of (effects_of actions first) (effects_of actions second)
reasons_at_places actions id kids order a b first second d e f =
    ap (reasons_in_layer actions (id_of first) (id_of second)) (outs-Block id kids order)
    ∙ ap (λ z. reasons_if actions z (kid_with (id_of second) kids)) (kid_at kids a first d e)
    ∙ ap (λ z. reasons_if actions (Some first) z) (kid_at kids b second d f)
