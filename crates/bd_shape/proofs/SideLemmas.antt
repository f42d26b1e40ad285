-- The positions on one side of some kids, one kid after another.
use Rattle.std.proofs.Common.{◌≡◌, ℕ, ◌+◌, ◌<◌, Bool, true, false, ◌&&◌, ◌||◌, List, [], ◌∷◌, length, drop, get_or, refl, sym, ap, ◌∙◌}
use Rattle.std.specs.List.{list_any, enumerate_from}
use Rattle.std.proofs.lemmas.List.{drop_more}
use Rattle.bd_base.specs.Facts.{has, plus}
use Rattle.bd_base.specs.Pairs.{is_before, after_of, before_of}
use Rattle.bd_base.proofs.BeforeLemmas.{has_before}
use Rattle.bd_base.proofs.FactLemmas.{has-plus}
use Rattle.bd_base.proofs.RowLemmas.{before_by_row}
use Rattle.bd_tree.specs.declared.node.Node.{Node}
use Rattle.bd_tree.specs.Convex.{is_member}
use Rattle.bd_tree.specs.Tree.{id_of}

mix : (a b c : Bool) → (a || b || c) ≡ (b || (a || c))
mix true true c = refl
mix true false c = refl
mix false true c = refl
mix false false c = refl

or_false : (a : Bool) → (a || false) ≡ a
or_false true = refl
or_false false = refl

module _ (f : ℕ → ℕ → Bool) (ids : List ℕ) (kids : List Node) (at : ℕ) (kid : Node) (lt : at < length kids) (is : kid ≡ get_or kids at kid) where
  abbrev pub some : List (ℕ × Node) → ℕ → Bool
  some ks q = list_any (λ k. is_member ids k && f k.0 q) ks

  abbrev rest : List (ℕ × Node)
  rest = enumerate_from (at + 1) (drop (at + 1) kids)

  numbered : enumerate_from at (drop at kids) ≡ (at, kid) ∷ rest
  numbered = ap (enumerate_from at) (drop_more kids at kid lt ∙ ap (λ (z : Node). z ∷ drop (at + 1) kids) (sym is))

  module _ (row new : List ℕ) (so_far : (q : ℕ) → (has row q || some (enumerate_from at (drop at kids)) q) ≡ some (enumerate_from 0 kids) q) where
    pub one_member : has ids (id_of kid) ≡ true → ((q : ℕ) → has new q ≡ (f at q || has row q)) → (q : ℕ) → (has new q || some rest q) ≡ some (enumerate_from 0 kids) q
    one_member m grown q =
        ap (λ z. z || some rest q) (grown q)
        ∙ mix (f at q) (has row q) (some rest q)
        ∙ ap (λ z. has row q || (z && f at q || some rest q)) (sym m)
        ∙ ap (λ (z : List (ℕ × Node)). has row q || some z q) (sym numbered)
        ∙ so_far q

    pub no_member : has ids (id_of kid) ≡ false → new ≡ row → (q : ℕ) → (has new q || some rest q) ≡ some (enumerate_from 0 kids) q
    no_member m same q =
        ap (λ (z : List ℕ). has z q || some rest q) same
        ∙ ap (λ z. has row q || (z && f at q || some rest q)) (sym m)
        ∙ ap (λ (z : List (ℕ × Node)). has row q || some z q) (sym numbered)
        ∙ so_far q

pub with_after : (order : List (ℕ × ℕ)) (at : ℕ) (row new : List ℕ) → new ≡ plus row (after_of order at) → (q : ℕ) → has new q ≡ (is_before order at q || has row q)
with_after order at row new e q = ap (λ (z : List ℕ). has z q) e ∙ has-plus row (after_of order at) q ∙ ap (λ z. z || has row q) (sym (before_by_row order at q))

pub with_before : (order : List (ℕ × ℕ)) (at : ℕ) (row new : List ℕ) → new ≡ plus row (plus [] (before_of order at)) → (q : ℕ) → has new q ≡ (is_before order q at || has row q)
with_before order at row new e q =
    ap (λ (z : List ℕ). has z q) e
    ∙ has-plus row (plus [] (before_of order at)) q
    ∙ ap (λ z. z || has row q) (has-plus [] (before_of order at) q ∙ or_false (has (before_of order at) q) ∙ has_before order at q)
