-- Kids between two others, told by the two in turn.
use Rattle.std.proofs.Common.{◌≡◌, ℕ, Bool, true, false, ◌&&◌, ◌||◌, List, [], ◌∷◌, refl, sym, ap, ◌∙◌}
use Rattle.std.specs.List.{list_any, enumerate_from}
use Rattle.bd_base.specs.Pairs.{is_before}
use Rattle.bd_tree.specs.declared.node.Node.{Node, Block}
use Rattle.bd_tree.specs.declared.node.Node.TheOpen.{Node-F}
use Rattle.bd_tree.specs.declared.node.Node.TheViews.{out-Node, outs-Block}
use Rattle.bd_tree.specs.Convex.{is_member}
use Rattle.bd_shape.specs.Hull.{is_between, between_in_layer, has_between}

and_step : (c a b : Bool) → (c && (a || b)) ≡ ((c && a) || (c && b))
and_step true a b = refl
and_step false a b = refl

and_none : (c : Bool) → (c && false) ≡ false
and_none true = refl
and_none false = refl

or_step : (a b c d : Bool) → ((a || b) || (c || d)) ≡ ((a || c) || (b || d))
or_step true b c d = refl
or_step false true true d = refl
or_step false true false d = refl
or_step false false c d = refl

module _ {X : Type 0} where
  pub any_agree : (t u : X → Bool) → ((x : X) → t x ≡ u x) → (xs : List X) → list_any t xs ≡ list_any u xs
  any_agree t u h [] = refl
  any_agree t u h (x ∷ xs) = ap (λ z. z || list_any t xs) (h x) ∙ ap (λ z. u x || z) (any_agree t u h xs)

  -- a test beside one of some element
  pub and_any : (c : Bool) (t : X → Bool) (xs : List X) → (c && list_any t xs) ≡ list_any (λ x. c && t x) xs
  and_any c t [] = and_none c
  and_any c t (x ∷ xs) = and_step c (t x) (list_any t xs) ∙ ap (λ z. (c && t x) || z) (and_any c t xs)

  any_and : (c : Bool) (t : X → Bool) (xs : List X) → (list_any t xs && c) ≡ list_any (λ x. t x && c) xs
  any_and c t [] = refl
  any_and c t (x ∷ xs) = step (t x) (list_any t xs) c ∙ ap (λ z. (t x && c) || z) (any_and c t xs)
    where
      step : (a b c : Bool) → ((a || b) && c) ≡ ((a && c) || (b && c))
      step true b true = refl
      step true true false = refl
      step true false false = refl
      step false b c = refl

  any_or : (t u : X → Bool) (xs : List X) → list_any (λ x. t x || u x) xs ≡ (list_any t xs || list_any u xs)
  any_or t u [] = refl
  any_or t u (x ∷ xs) = ap (λ z. (t x || u x) || z) (any_or t u xs) ∙ or_step (t x) (u x) (list_any t xs) (list_any u xs)

  none : (xs : List X) → list_any (λ x. false) xs ≡ false
  none [] = refl
  none (x ∷ xs) = none xs

  -- which of two is chosen first makes no difference
  any_swap : (t : X → X → Bool) (xs ys : List X) → list_any (λ x. list_any (λ y. t x y) ys) xs ≡ list_any (λ y. list_any (λ x. t x y) xs) ys
  any_swap t [] ys = sym (none ys)
  any_swap t (x ∷ xs) ys = ap (λ z. list_any (λ y. t x y) ys || z) (any_swap t xs ys) ∙ sym (any_or (λ y. t x y) (λ y. list_any (λ w. t w y) xs) ys)

four : (m n p q : Bool) → (m && (n && (p && q))) ≡ ((m && p) && (n && q))
four true true p q = refl
four true false true q = refl
four true false false q = refl
four false n p q = refl

module _ (order : List (ℕ × ℕ)) (i j : ℕ) (all : List (ℕ × Node)) where
  abbrev first : ℕ × Node → Bool
  first a = is_member (i ∷ []) a

  abbrev second : ℕ × Node → Bool
  second b = is_member (j ∷ []) b

  abbrev up : ℕ × Node → ℕ × Node → Bool
  up a k = is_before order a.0 k.0

  abbrev pub in_turn : Bool
  in_turn = list_any (λ (a : ℕ × Node). first a && list_any (λ (b : ℕ × Node). second b && list_any (λ (k : ℕ × Node). up a k && up k b) all) all) all

  abbrev one : ℕ × Node → ℕ × Node → ℕ × Node → Bool
  one a b k = first a && (second b && (up a k && up k b))

  spread : in_turn ≡ list_any (λ (a : ℕ × Node). list_any (λ (b : ℕ × Node). list_any (λ (k : ℕ × Node). one a b k) all) all) all
  spread = any_agree _ _ (λ (a : ℕ × Node).
      and_any (first a) (λ (b : ℕ × Node). second b && list_any (λ (k : ℕ × Node). up a k && up k b) all) all
      ∙ any_agree _ _ (λ (b : ℕ × Node).
      ap (λ z. first a && z) (and_any (second b) (λ (k : ℕ × Node). up a k && up k b) all)
      ∙ and_any (first a) (λ (k : ℕ × Node). second b && (up a k && up k b)) all) all) all

  turned : list_any (λ (a : ℕ × Node). list_any (λ (b : ℕ × Node). list_any (λ (k : ℕ × Node). one a b k) all) all) all ≡ list_any (λ (k : ℕ × Node). list_any (λ (a : ℕ × Node). list_any (λ (b : ℕ × Node). one a b k) all) all) all
  turned =
      any_agree _ _ (λ (a : ℕ × Node). any_swap (λ (b k : ℕ × Node). one a b k) all all) all
      ∙ any_swap (λ (a k : ℕ × Node). list_any (λ (b : ℕ × Node). one a b k) all) all all

  gathered : (k : ℕ × Node) → list_any (λ (a : ℕ × Node). list_any (λ (b : ℕ × Node). one a b k) all) all ≡ is_between order i j all k.0
  gathered k =
      any_agree _ _ (λ (a : ℕ × Node). any_agree _ _ (λ (b : ℕ × Node). four (first a) (second b) (up a k) (up k b)) all ∙ sym (and_any (first a && up a k) (λ (b : ℕ × Node). second b && up k b) all)) all
      ∙ sym (any_and (list_any (λ (b : ℕ × Node). second b && up k b) all) (λ (a : ℕ × Node). first a && up a k) all)

  pub between_in_turn : in_turn ≡ list_any (λ (k : ℕ × Node). is_between order i j all k.0) all
  between_in_turn = spread ∙ turned ∙ any_agree _ _ gathered all

pub of_block : (node : Node) (id : ℕ) (kids ks : List Node) (order : List (ℕ × ℕ)) (i j : ℕ) → node ≡ Block id kids order → ks ≡ kids → in_turn order i j (enumerate_from 0 ks) ≡ has_between node i j
of_block node id kids ks order i j is same =
    between_in_turn order i j (enumerate_from 0 ks)
    ∙ ap (λ (z : List Node). between_in_layer i j (Node-F.Block id z order)) same
    ∙ sym (ap (between_in_layer i j) (ap out-Node is ∙ outs-Block id kids order))
