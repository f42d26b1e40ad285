-- The hull of two positions has the kids of the hull that bd_shape tells by ids.
use Rattle.std.proofs.Common.{◌≡◌, ℕ, zero, suc, ◌+◌, ◌<◌, ◌≤◌, Bool, true, false, cond, eqb, ◌&&◌, ◌||◌, List, [], ◌∷◌, filter, map, length, Some, None, refl, sym, ap, ◌∙◌, subst, inl, inr, arith}
use Rattle.std.specs.List.{slice_get, enumerate_from}
use Rattle.std.proofs.lemmas.Bool.{both_ways, and_parts, and_from, or_cases, or_left, eq-eqb, eqb-true}
use Rattle.bd_base.specs.Bits.{upto}
use Rattle.bd_base.specs.Facts.{has}
use Rattle.bd_base.specs.Pairs.{is_before}
use Rattle.bd_base.proofs.MeetLemmas.{has-filter}
use Rattle.bd_tree.specs.declared.node.Node.{Node}
use Rattle.bd_tree.specs.declared.node.Node.TheViews.{outs-Block}
use Rattle.bd_tree.specs.Convex.{is_member, is_after_some, is_before_some}
use Rattle.bd_tree.specs.Tree.{id_of}
use Rattle.bd_tree.specs.WellFormed.{are_distinct}
use Rattle.bd_shape.specs.Hull.{hull_in_layer, is_in_hull}
use Rattle.bd_window.specs.Family.{hull, is_in_hull as lies_in_hull}
use Rattle.bd_window.specs.Law.{HullsAreShapes}
use Rattle.bd_window.proofs.Members.{In, here, there, any_some, some_any, in_has, in_upto}
use Rattle.bd_window.proofs.Standing.{head_or, same_place}

none_some : {X : Type 0} (x : X) → None ≡ Some x → ⊥
none_some x e = cc

some_same : {X : Type 0} (x y : X) → Some x ≡ Some y → x ≡ y
some_same x y e = cc

same_bool : (b c : Bool) → (b ≡ true → c ≡ true) → (c ≡ true → b ≡ true) → b ≡ c
same_bool true c f g = sym (f refl)
same_bool false true f g = g refl
same_bool false false f g = refl

and_true : (b c : Bool) → c ≡ true → (b && c) ≡ b
and_true true c e = e
and_true false c e = refl

or_end : (b c : Bool) → (b || (c || false)) ≡ (b || c)
or_end true c = refl
or_end false true = refl
or_end false false = refl

get_numbered : (m : ℕ) (xs : List Node) (i : ℕ) (x : Node) → slice_get xs i ≡ Some x → In (m + i, x) (enumerate_from m xs)
get_numbered m [] i x e = absurd (none_some x e)
get_numbered m (y ∷ xs) zero x e =
    let a : m ≡ m + 0 = omega arith in
    subst (λ z. In (z, x) (enumerate_from m (y ∷ xs))) a (subst (λ z. In (m, z) (enumerate_from m (y ∷ xs))) (some_same y x e) here)
get_numbered m (y ∷ xs) (suc i) x e =
    let a : m + 1 + i ≡ m + suc i = omega arith in
    there (subst (λ z. In (z, x) (enumerate_from (m + 1) xs)) a (get_numbered (m + 1) xs i x e))

number_within : (m : ℕ) (xs : List Node) (x : ℕ × Node) → In x (enumerate_from m xs) → (m ≤ x.0) × (x.0 < m + length xs)
number_within m [] x i = elim i [ ]
number_within m (y ∷ xs) x i = let h : ℕ × Node = (m, y) in elim (head_or h (enumerate_from (m + 1) xs) x i) [
  | inl e ↦ let n = ap (λ (z : ℕ × Node). z.0) e in (omega (arith, n), omega (arith, n))
  | inr j ↦ let r = number_within (m + 1) xs x j in (omega (arith, r.0), omega (arith, r.1))
]

same_number : (m : ℕ) (xs : List Node) (x y : ℕ × Node) → In x (enumerate_from m xs) → In y (enumerate_from m xs) → x.0 ≡ y.0 → x ≡ y
same_number m [] x y i j e = elim i [ ]
same_number m (k ∷ xs) x y i j e = let h : ℕ × Node = (m, k) in elim (head_or h (enumerate_from (m + 1) xs) x i) [
  | inl ex ↦ elim (head_or h (enumerate_from (m + 1) xs) y j) [
    | inl ey ↦ ex ∙ sym ey
    | inr jy ↦ absurd (omega (arith, (number_within (m + 1) xs y jy).0, ap (λ (z : ℕ × Node). z.0) ex, e))
  ]
  | inr ix ↦ elim (head_or h (enumerate_from (m + 1) xs) y j) [
    | inl ey ↦ absurd (omega (arith, (number_within (m + 1) xs x ix).0, ap (λ (z : ℕ × Node). z.0) ey, e))
    | inr jy ↦ same_number (m + 1) xs x y ix jy e
  ]
]

filter_same : (t u : ℕ × Node → Bool) (xs : List (ℕ × Node)) → ((x : ℕ × Node) → In x xs → t x ≡ u x) → filter t xs ≡ filter u xs
filter_same t u [] h = refl
filter_same t u (x ∷ xs) h =
    ap (λ b. cond b (x ∷ filter t xs) (filter t xs)) (h x here)
    ∙ ap (λ z. cond (u x) (x ∷ z) z) (filter_same t u xs (λ y i. h y (there i)))

ids_at : (ks : List (ℕ × Node)) → map id_of (map (λ (k : ℕ × Node). k.1) ks) ≡ map (λ (k : ℕ × Node). id_of k.1) ks
ids_at [] = refl
ids_at (k ∷ ks) = ap (λ z. id_of k.1 ∷ z) (ids_at ks)

module _ (kids : List Node) (order : List (ℕ × ℕ)) (apart : are_distinct (map id_of kids) ≡ true) where
  abbrev numbered : List (ℕ × Node)
  numbered = enumerate_from 0 kids

  module _ (i : ℕ) (a : Node) (stands : In (i, a) numbered) where
    alone : (k : ℕ × Node) → has (id_of a ∷ []) (id_of k.1) ≡ true → id_of a ≡ id_of k.1
    alone k e = elim (or_cases (eqb (id_of a) (id_of k.1)) false e) [ inl h ↦ eqb-true (id_of a) (id_of k.1) h | inr h ↦ absurd (both_ways false refl h) ]

    itself : has (id_of a ∷ []) (id_of a) ≡ true
    itself = or_left (eqb (id_of a) (id_of a)) false (eq-eqb (id_of a) (id_of a) refl)

    by_id : (k : ℕ × Node) → In k numbered → eqb (id_of a) (id_of k.1) ≡ eqb k.0 i
    by_id k m = same_bool (eqb (id_of a) (id_of k.1)) (eqb k.0 i)
        (λ e. eq-eqb k.0 i (ap (λ (z : ℕ × Node). z.0) (sym (same_place 0 kids apart (i, a) k stands m (eqb-true (id_of a) (id_of k.1) e)))))
        (λ e. eq-eqb (id_of a) (id_of k.1) (ap (λ (z : ℕ × Node). id_of z.1) (sym (same_number 0 kids k (i, a) m stands (eqb-true k.0 i e)))))

    after_is : (x : ℕ) → is_after_some order (id_of a ∷ []) numbered x ≡ is_before order i x
    after_is x =
        let t : ℕ × Node → Bool = λ k. is_member (id_of a ∷ []) k && is_before order k.0 x in
        same_bool (is_after_some order (id_of a ∷ []) numbered x) (is_before order i x)
        (λ e.
        let m = any_some t numbered e in
        let p = and_parts (is_member (id_of a ∷ []) m.0) (is_before order m.0.0 x) m.2 in
        ap (λ (z : ℕ × Node). is_before order z.0 x) (same_place 0 kids apart (i, a) m.0 stands m.1 (alone m.0 p.0)) ∙ p.1)
        (λ e. some_any t (i, a) numbered stands (and_from (is_member (id_of a ∷ []) (i, a)) (is_before order i x) itself e))

    before_is : (x : ℕ) → is_before_some order (id_of a ∷ []) numbered x ≡ is_before order x i
    before_is x =
        let t : ℕ × Node → Bool = λ k. is_member (id_of a ∷ []) k && is_before order x k.0 in
        same_bool (is_before_some order (id_of a ∷ []) numbered x) (is_before order x i)
        (λ e.
        let m = any_some t numbered e in
        let p = and_parts (is_member (id_of a ∷ []) m.0) (is_before order x m.0.0) m.2 in
        ap (λ (z : ℕ × Node). is_before order x z.0) (same_place 0 kids apart (i, a) m.0 stands m.1 (alone m.0 p.0)) ∙ p.1)
        (λ e. some_any t (i, a) numbered stands (and_from (is_member (id_of a ∷ []) (i, a)) (is_before order x i) itself e))

  module _ (i j : ℕ) (a b : Node) (at_i : In (i, a) numbered) (at_j : In (j, b) numbered) where
    abbrev told : Bool → Bool → Bool → Bool → Bool → Bool → Bool
    told p q c d e f = (p || (q || false)) || (c && d) || (e && f)

    alike : (k : ℕ × Node) → In k numbered → is_in_hull order (id_of a) (id_of b) numbered k ≡ has (hull order (length kids) i j) k.0
    alike k m =
        let x = k.0 in
        let w = number_within 0 kids k m in
        ap (λ z. told z (eqb (id_of b) (id_of k.1)) (is_after_some order (id_of a ∷ []) numbered x) (is_before_some order (id_of b ∷ []) numbered x) (is_after_some order (id_of b ∷ []) numbered x) (is_before_some order (id_of a ∷ []) numbered x)) (by_id i a at_i k m)
        ∙ ap (λ z. told (eqb x i) z (is_after_some order (id_of a ∷ []) numbered x) (is_before_some order (id_of b ∷ []) numbered x) (is_after_some order (id_of b ∷ []) numbered x) (is_before_some order (id_of a ∷ []) numbered x)) (by_id j b at_j k m)
        ∙ ap (λ z. told (eqb x i) (eqb x j) z (is_before_some order (id_of b ∷ []) numbered x) (is_after_some order (id_of b ∷ []) numbered x) (is_before_some order (id_of a ∷ []) numbered x)) (after_is i a at_i x)
        ∙ ap (λ z. told (eqb x i) (eqb x j) (is_before order i x) z (is_after_some order (id_of b ∷ []) numbered x) (is_before_some order (id_of a ∷ []) numbered x)) (before_is j b at_j x)
        ∙ ap (λ z. told (eqb x i) (eqb x j) (is_before order i x) (is_before order x j) z (is_before_some order (id_of a ∷ []) numbered x)) (after_is j b at_j x)
        ∙ ap (λ z. told (eqb x i) (eqb x j) (is_before order i x) (is_before order x j) (is_before order j x) z) (before_is i a at_i x)
        ∙ ap (λ z. z || (is_before order i x && is_before order x j) || (is_before order j x && is_before order x i)) (or_end (eqb x i) (eqb x j))
        ∙ sym (and_true (lies_in_hull order i j x) (has (upto 0 (length kids)) x) (in_has (upto 0 (length kids)) x (in_upto 0 (length kids) x (omega arith) (omega (arith, w.1)))))
        ∙ sym (has-filter (lies_in_hull order i j) (upto 0 (length kids)) x)

pub hull_law : (own : ℕ) (kids : List Node) (order : List (ℕ × ℕ)) (i j : ℕ) (a b : Node) → HullsAreShapes own kids order i j a b
hull_law own kids order i j a b apart ei ej =
    let zero_i : 0 + i ≡ i = omega arith in
    let zero_j : 0 + j ≡ j = omega arith in
    let at_i = subst (λ z. In (z, a) (enumerate_from 0 kids)) zero_i (get_numbered 0 kids i a ei) in
    let at_j = subst (λ z. In (z, b) (enumerate_from 0 kids)) zero_j (get_numbered 0 kids j b ej) in
    ids_at (filter (λ (k : ℕ × Node). has (hull order (length kids) i j) k.0) (enumerate_from 0 kids))
    ∙ ap (map (λ (k : ℕ × Node). id_of k.1)) (sym (filter_same (is_in_hull order (id_of a) (id_of b) (enumerate_from 0 kids)) (λ (k : ℕ × Node). has (hull order (length kids) i j) k.0) (enumerate_from 0 kids) (alike kids order apart i j a b at_i at_j)))
    ∙ sym (ap (hull_in_layer (id_of a) (id_of b)) (outs-Block own kids order))
