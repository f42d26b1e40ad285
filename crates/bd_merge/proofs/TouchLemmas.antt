-- Which kids go in front of a window, by the positions to which the carried kids are related.
use Rattle.std.proofs.Common.{◌≡◌, ℕ, suc, ◌+◌, ◌<◌, ◌≤◌, Bool, true, false, not, ◌&&◌, ◌||◌, List, [], ◌∷◌, length, map, drop, drop-cons, get_or, add-one, Result, Ok, Err, OnOk, refl, sym, ap, ◌∙◌}
use Rattle.std.specs.List.{list_any, enumerate_from}
use Rattle.std.proofs.lemmas.List.{drop_all}
use Rattle.bd_base.specs.Facts.{has, plus}
use Rattle.bd_base.specs.Pairs.{after_of, before_of}
use Rattle.bd_base.proofs.BeforeLemmas.{has_before}
use Rattle.bd_base.proofs.FactLemmas.{has-plus}
use Rattle.bd_base.proofs.RowLemmas.{before_by_row}
use Rattle.bd_tree.specs.declared.node.Node.{Node}
use Rattle.bd_tree.specs.Convex.{is_member}
use Rattle.bd_tree.specs.Tree.{id_of}
use Rattle.bd_merge.specs.FrontEnd.{IsTouched, TellsSides, EndsFronts, is_related, is_touched, is_told_first}
use Rattle.bd_merge.specs.Merged.{goes_first}
use Rattle.bd_merge.specs.declared.merging.Sides.TheVariants.{Below, Touched}
use Rattle.bd_merge.specs.declared.window.Lean.{Lean}
use Rattle.bd_merge.specs.declared.window.Lean.TheVariants.{Early, Late}
use Rattle.bd_merge.specs.declared.window.Window.{Window}

or_none : (b : Bool) → (b || false) ≡ b
or_none true = refl
or_none false = refl

-- a row with the related positions of one more kid
pub joined_by : {E : Type 0} (r : Result (Unit {0}) E) (row new piece : List ℕ) (t : ℕ → Bool) → OnOk r (new ≡ plus row piece) → ((q : ℕ) → has piece q ≡ t q) → OnOk r ((q : ℕ) → has new q ≡ (t q || has row q))
joined_by (Ok x) row new piece t e h = λ q. ap (λ (z : List ℕ). has z q) e ∙ has-plus row piece q ∙ ap (λ z. z || has row q) (h q)
joined_by (Err x) row new piece t e h = tt

pub early_has : (lean : Lean) (order : List (ℕ × ℕ)) (at : ℕ) (piece : List ℕ) → lean ≡ Early → piece ≡ after_of order at → (q : ℕ) → has piece q ≡ is_related lean order at q
early_has lean order at piece is e q = ap (λ (z : List ℕ). has z q) e ∙ sym (before_by_row order at q) ∙ sym (ap (λ (l : Lean). is_related l order at q) is)

pub late_has : (lean : Lean) (order : List (ℕ × ℕ)) (at : ℕ) (piece : List ℕ) → lean ≡ Late → piece ≡ plus [] (before_of order at) → (q : ℕ) → has piece q ≡ is_related lean order at q
late_has lean order at piece is e q =
    ap (λ (z : List ℕ). has z q) e
    ∙ has-plus [] (before_of order at) q
    ∙ or_none (has (before_of order at) q)
    ∙ has_before order at q
    ∙ sym (ap (λ (l : Lean). is_related l order at q) is)

module _ (lean : Lean) (order : List (ℕ × ℕ)) (ids : List ℕ) where
  abbrev pub rest_touched : ℕ → List Node → ℕ → Bool
  rest_touched i kids q = list_any (λ k. is_member ids k && is_related lean order k.0 q) (enumerate_from i kids)

  -- the positions that are told so far, or by the kids that are left
  abbrev pub Told : List ℕ → ℕ → List Node → Type 0
  Told row i kids = (q : ℕ) → (has row q || rest_touched i (drop i kids) q) ≡ is_touched lean order ids (enumerate_from 0 kids) q

  pub told_start : (row : List ℕ) (kids : List Node) → row ≡ [] → Told row 0 kids
  told_start row kids e q = ap (λ (z : List ℕ). has z q || rest_touched 0 kids q) e

  module _ (row : List ℕ) (i : ℕ) (kids : List Node) (kid : Node) (lt : i < length kids) (is : kid ≡ get_or kids i kid) (told : Told row i kids) where
    next_is : drop i kids ≡ kid ∷ drop (i + 1) kids
    next_is = drop-cons kids i kid lt ∙ ap (λ z. z ∷ drop (suc i) kids) (sym is) ∙ rw add-one refl

    turned : (m r h t : Bool) → m ≡ true → ((r || h) || t) ≡ (h || ((m && r) || t))
    turned true true true t e = refl
    turned true true false t e = refl
    turned true false true t e = refl
    turned true false false t e = refl
    turned false r h t e = absurd (Rattle.std.proofs.lemmas.Bool.both_ways false refl e)

    pub told_carried : (new : List ℕ) → has ids (id_of kid) ≡ true → ((q : ℕ) → has new q ≡ (is_related lean order i q || has row q)) → Told new (i + 1) kids
    told_carried new member joined q =
        ap (λ z. z || rest_touched (i + 1) (drop (i + 1) kids) q) (joined q)
        ∙ turned (has ids (id_of kid)) (is_related lean order i q) (has row q) (rest_touched (i + 1) (drop (i + 1) kids) q) member
        ∙ sym (ap (λ (z : List Node). has row q || rest_touched i z q) next_is)
        ∙ told q

    pub told_passed : (new : List ℕ) → has ids (id_of kid) ≡ false → new ≡ row → Told new (i + 1) kids
    told_passed new out same q =
        ap (λ (z : List ℕ). has z q || rest_touched (i + 1) (drop (i + 1) kids) q) same
        ∙ sym (ap (λ z. has row q || ((z && is_related lean order i q) || rest_touched (i + 1) (drop (i + 1) kids) q)) out)
        ∙ sym (ap (λ (z : List Node). has row q || rest_touched i z q) next_is)
        ∙ told q

  pub told_whole : (row : List ℕ) (i : ℕ) (kids : List Node) → length kids ≤ i → Told row i kids → (q : ℕ) → has row q ≡ is_touched lean order ids (enumerate_from 0 kids) q
  told_whole row i kids past told q =
      sym (or_none (has row q)) ∙ sym (ap (λ (z : List Node). has row q || rest_touched i z q) (drop_all i kids past)) ∙ told q

-- a row of those positions tells the sides
sides_by : (lean : Lean) (order : List (ℕ × ℕ)) (ids row : List ℕ) (kids : List (ℕ × Node)) (j : ℕ) → has row j ≡ is_touched lean order ids kids j → is_told_first lean (Touched row) j ≡ goes_first lean order ids kids j
sides_by Early order ids row kids j e = ap not e
sides_by Late order ids row kids j e = e

pub touched_tells : (window : Window) (order : List (ℕ × ℕ)) (kids : List Node) (row : List ℕ) → IsTouched window order kids row → TellsSides window order kids (Touched row)
touched_tells window order kids row touched j lt = sides_by window.lean order (map id_of window.kids) row (enumerate_from 0 kids) j (touched j)

pub below_tells : (window : Window) (order : List (ℕ × ℕ)) (kids : List Node) (end : ℕ) → EndsFronts window order kids end → TellsSides window order kids (Below end)
below_tells window order kids end ends j lt = sym (ends.first j lt)
