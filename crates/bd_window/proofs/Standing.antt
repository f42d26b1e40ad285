-- Each window of the family stands.
use Rattle.std.proofs.Common.{◌≡◌, ℕ, zero, suc, ◌+◌, ◌-◌, ◌<◌, ◌≤◌, Bool, true, false, not, cond, eqb, ◌&&◌, ◌||◌, List, [], ◌∷◌, ◌++◌, filter, map, length, Option, Some, None, refl, sym, ap, ◌∙◌, subst, ◌⊎◌, inl, inr, arith}
use Rattle.std.specs.List.{enumerate_from, list_all}
use Rattle.std.specs.Option.{is_some}
use Rattle.std.proofs.lemmas.Bool.{cond-true, cond-false, both_ways, and_parts, and_from, or_cases, or_left, or_right, eq-eqb, eqb-true, ne_eqb, cases_lt}
use Rattle.std.proofs.lemmas.List.{length-map}
use Rattle.bd_base.specs.Facts.{has}
use Rattle.bd_base.specs.Pairs.{is_before}
use Rattle.bd_base.proofs.MeetLemmas.{has-filter}
use Rattle.bd_tree.specs.declared.node.Node.{Node, Step, Block}
use Rattle.bd_tree.specs.Convex.{is_member, is_after_some, is_before_some, is_aside, are_convex}
use Rattle.bd_tree.specs.Order.{is_order}
use Rattle.bd_tree.specs.Tree.{id_of, ids_of, find_in, first_some, joined}
use Rattle.bd_tree.specs.WellFormed.{are_distinct, has_orders}
use Rattle.bd_tree.proofs.NodeLemmas.{Each, by_node, has_orders-Block, ids_of-Block}
use Rattle.bd_tree.proofs.OrderLemmas.{not_before}
use Rattle.bd_tree.proofs.TreeLemmas.{find_in-Block, is_found, has-append}
use Rattle.bd_shape.proofs.OrderLemmas.{closed_at}
use Rattle.bd_shape.proofs.PairLemmas.{distinct_kids, distinct_in_kids}
use Rattle.bd_merge.specs.declared.window.Window.{Window}
use Rattle.bd_merge.specs.Stands.{IsAmong, AreAmong, AreKids, IsThere}
use Rattle.bd_window.specs.declared.pick.Pick.{Pick}
use Rattle.bd_window.specs.Family.{each_of, segment, sets_of, kids_in, windows_of, family_of}
use Rattle.bd_window.specs.Picks.{takes, set_of, picks_of, AreWithin}
use Rattle.bd_window.specs.Law.{AllStand, FamilyStands}
use Rattle.bd_window.proofs.Layers.{family-Step, family-Block}
use Rattle.bd_window.proofs.Members.{In, here, there, any_some, in_parts, map_in, in_map, each_in, has_in, in_has, in_upto, upto_in}
use Rattle.bd_window.proofs.Sets.{sets_local}
use Rattle.bd_window.proofs.Within.{all_within}

is_false : (b : Bool) → (b ≡ true → ⊥) → b ≡ false
is_false true h = absurd (h refl)
is_false false h = refl

not_true : (b : Bool) → not b ≡ true → b ≡ false
not_true true e = sym e
not_true false e = refl

from_false : (b : Bool) → b ≡ false → not b ≡ true
from_false true e = sym e
from_false false e = refl

module _ {X : Type 0} where
  in_filter : (t : X → Bool) (xs : List X) (x : X) → In x xs → t x ≡ true → In x (filter t xs)
  in_filter t [] x m e = elim m [ ]
  in_filter t (x ∷ xs) y here e = subst (λ b. In x (cond b (x ∷ filter t xs) (filter t xs))) (sym e) here
  in_filter t (y ∷ xs) x (there m) e =
      let rest = in_filter t xs x m e in
      elim (t y) as (λ b. In x (cond b (y ∷ filter t xs) (filter t xs))) [ true ↦ there rest | false ↦ rest ]

  pub head_or : (y : X) (xs : List X) (x : X) → In x (y ∷ xs) → (x ≡ y) ⊎ In x xs
  head_or y xs x here = inl refl
  head_or y xs x (there i) = inr i

  filter_in : (t : X → Bool) (xs : List X) (x : X) → In x (filter t xs) → In x xs × (t x ≡ true)
  filter_in t [] x m = elim m [ ]
  filter_in t (y ∷ xs) x m = by (t y) refl m (filter_in t xs x)
    where
      by : (b : Bool) → t y ≡ b → In x (cond b (y ∷ filter t xs) (filter t xs)) → (In x (filter t xs) → In x xs × (t x ≡ true)) → In x (y ∷ xs) × (t x ≡ true)
      by true e m rest = elim (head_or y (filter t xs) x m) [
        | inl s ↦ (subst (λ z. In z (y ∷ xs)) (sym s) here, ap t s ∙ e)
        | inr k ↦ let r = rest k in (there r.0, r.1)
      ]
      by false e m rest = let r = rest m in (there r.0, r.1)

module _ {X : Type 0} where
  node_in : (m : ℕ) (xs : List X) (x : ℕ × X) → In x (enumerate_from m xs) → In x.1 xs
  node_in m [] x i = elim i [ ]
  node_in m (y ∷ xs) x i = let h : ℕ × X = (m, y) in elim (head_or h (enumerate_from (m + 1) xs) x i) [
    | inl e ↦ subst (λ (z : ℕ × X). In z.1 (y ∷ xs)) (sym e) here
    | inr j ↦ there (node_in (m + 1) xs x j)
  ]

  number_in : (m : ℕ) (xs : List X) (i : ℕ) → i < length xs → (x : X) × In (m + i, x) (enumerate_from m xs)
  number_in m [] i lt = absurd (omega (arith, lt))
  number_in m (y ∷ xs) zero lt = let e : m ≡ m + 0 = omega arith in (y, subst (λ z. In (z, y) (enumerate_from m (y ∷ xs))) e here)
  number_in m (y ∷ xs) (suc i) lt =
      let r = number_in (m + 1) xs i (omega (arith, lt)) in
      let e : m + 1 + i ≡ m + suc i = omega arith in
      (r.0, there (subst (λ z. In (z, r.0) (enumerate_from (m + 1) xs)) e r.1))

  some_long : (xs : List X) (x : X) → In x xs → 0 < length xs
  some_long [] x i = elim i [ ]
  some_long (y ∷ xs) x i = omega arith

all_from : {X : Type 0} (t : X → Bool) (xs : List X) → ((x : X) → In x xs → t x ≡ true) → list_all t xs ≡ true
all_from t [] h = refl
all_from t (x ∷ xs) h = and_from _ _ (h x here) (all_from t xs (λ y i. h y (there i)))

all_at : {X : Type 0} (t : X → Bool) (x : X) (xs : List X) → list_all t xs ≡ true → In x xs → t x ≡ true
all_at t x [] e i = elim i [ ]
all_at t x (y ∷ xs) e here = (and_parts _ _ e).0
all_at t x (y ∷ xs) e (there i) = all_at t x xs (and_parts _ _ e).1 i

among : (kids : List Node) (x : Node) → In x kids → IsAmong kids x
among [] x i = elim i [ ]
among (k ∷ ks) x i = elim (head_or k ks x i) [ inl e ↦ inl (sym e) | inr j ↦ inr (among ks x j) ]

all_among : (kids xs : List Node) → ((x : Node) → In x xs → In x kids) → AreAmong kids xs
all_among kids [] h = tt
all_among kids (x ∷ xs) h = (among kids x (h x here), all_among kids xs (λ y i. h y (there i)))

-- the kids of a set
module _ (t : ℕ × Node → Bool) where
  abbrev part : ℕ → List Node → List Node
  part m kids = map (λ (k : ℕ × Node). k.1) (filter t (enumerate_from m kids))

  part_in : (m : ℕ) (kids : List Node) (x : Node) → In x (part m kids) → (k : ℕ × Node) × In k (enumerate_from m kids) × (t k ≡ true) × (x ≡ k.1)
  part_in m kids x i =
      let r = map_in (λ (k : ℕ × Node). k.1) (filter t (enumerate_from m kids)) x i in
      let f = filter_in t (enumerate_from m kids) r.0 r.1 in
      (r.0, f.0, f.1, r.2)

  part_has : (m : ℕ) (kids : List Node) (q : ℕ) → has (map id_of (part m kids)) q ≡ true → has (map id_of kids) q ≡ true
  part_has m kids q e =
      let x = map_in id_of (part m kids) q (has_in (map id_of (part m kids)) q e) in
      let k = part_in m kids x.0 x.1 in
      in_has (map id_of kids) q (subst (λ z. In z (map id_of kids)) (sym (x.2 ∙ ap id_of k.3)) (in_map id_of kids k.0.1 (node_in m kids k.0 k.1)))

  part_distinct : (m : ℕ) (kids : List Node) → are_distinct (map id_of kids) ≡ true → are_distinct (map id_of (part m kids)) ≡ true
  part_distinct m [] d = refl
  part_distinct m (k ∷ ks) d =
      let parts = and_parts (not (has (map id_of ks) (id_of k))) (are_distinct (map id_of ks)) d in
      let rest = part_distinct (m + 1) ks parts.1 in
      let out : has (map id_of (part (m + 1) ks)) (id_of k) ≡ false = is_false _ (λ e. both_ways (has (map id_of ks) (id_of k)) (not_true _ parts.0) (part_has (m + 1) ks (id_of k) e)) in
      elim (t (m, k)) as (λ b. are_distinct (map id_of (map (λ (k : ℕ × Node). k.1) (cond b ((m, k) ∷ filter t (enumerate_from (m + 1) ks)) (filter t (enumerate_from (m + 1) ks))))) ≡ true) [
        | true ↦ and_from _ _ (from_false _ out) rest
        | false ↦ rest
      ]

pub same_place : (m : ℕ) (kids : List Node) → are_distinct (map id_of kids) ≡ true → (a b : ℕ × Node) → In a (enumerate_from m kids) → In b (enumerate_from m kids) → id_of a.1 ≡ id_of b.1 → a ≡ b
same_place m [] d a b i j e = elim i [ ]
same_place m (k ∷ ks) d a b i j e =
    let h : ℕ × Node = (m, k) in
    let parts = and_parts (not (has (map id_of ks) (id_of k))) (are_distinct (map id_of ks)) d in
    let off : (x : ℕ × Node) → In x (enumerate_from (m + 1) ks) → id_of x.1 ≡ id_of k → ⊥ =
    λ x h s. both_ways (has (map id_of ks) (id_of k)) (not_true _ parts.0) (in_has (map id_of ks) (id_of k) (subst (λ z. In z (map id_of ks)) s (in_map id_of ks x.1 (node_in (m + 1) ks x h)))) in
    elim (head_or h (enumerate_from (m + 1) ks) a i) [
      | inl ea ↦ elim (head_or h (enumerate_from (m + 1) ks) b j) [
        | inl eb ↦ ea ∙ sym eb
        | inr jb ↦ absurd (off b jb (sym e ∙ ap (λ (z : ℕ × Node). id_of z.1) ea))
      ]
      | inr ia ↦ elim (head_or h (enumerate_from (m + 1) ks) b j) [
        | inl eb ↦ absurd (off a ia (e ∙ ap (λ (z : ℕ × Node). id_of z.1) eb))
        | inr jb ↦ same_place (m + 1) ks parts.1 a b ia jb e
      ]
    ]

module _ (kids : List Node) (order : List (ℕ × ℕ)) (good : is_order (length kids) order ≡ true) (apart : are_distinct (map id_of kids) ≡ true) (pick : Pick) (rises : pick.first ≤ pick.last) (within : pick.last < length kids) where
  abbrev numbered : List (ℕ × Node)
  numbered = enumerate_from 0 kids

  abbrev set : List ℕ
  set = set_of order pick

  abbrev test : ℕ × Node → Bool
  test k = has set k.0

  abbrev ids : List ℕ
  ids = map id_of (kids_in kids set)

  member_set : (a : ℕ × Node) → In a numbered → is_member ids a ≡ true → has set a.0 ≡ true
  member_set a i e =
      let x = map_in id_of (kids_in kids set) (id_of a.1) (has_in ids (id_of a.1) e) in
      let k = part_in test 0 kids x.0 x.1 in
      let same : a ≡ k.0 = same_place 0 kids apart a k.0 i k.1 (x.2 ∙ ap id_of k.3) in
      ap (λ (z : ℕ × Node). has set z.0) same ∙ k.2

  set_member : (a : ℕ × Node) → In a numbered → has set a.0 ≡ true → is_member ids a ≡ true
  set_member a i e = in_has ids (id_of a.1) (in_map id_of (kids_in kids set) a.1 (in_map (λ (k : ℕ × Node). k.1) (filter test numbered) a (in_filter test numbered a i e)))

  up : (i j : ℕ) → is_before order i j ≡ true → i < j
  up i j e = elim (cases_lt i j) [ inl lt ↦ lt | inr le ↦ absurd (both_ways _ (not_before (length kids) order i j good le) e) ]

  join : (i j k : ℕ) → is_before order i j ≡ true → is_before order j k ≡ true → is_before order i k ≡ true
  join = closed_at order (and_parts _ _ good).1

  in_segment : (x : ℕ) → has set x ≡ true → (pick.first ≤ x) × (x ≤ pick.last) × (takes order pick x ≡ true)
  in_segment x e =
      let both = and_parts (takes order pick x) (has (segment pick.first pick.last) x) (sym (has-filter (takes order pick) (segment pick.first pick.last) x) ∙ e) in
      let b = upto_in pick.first (pick.last + 1 - pick.first) x (has_in (segment pick.first pick.last) x both.1) in
      (b.0, omega (arith, b.1, rises), both.0)

  back_in : (x : ℕ) → pick.first ≤ x → x ≤ pick.last → takes order pick x ≡ true → has set x ≡ true
  back_in x a b t = has-filter (takes order pick) (segment pick.first pick.last) x ∙ and_from (takes order pick x) _ t (in_has (segment pick.first pick.last) x (in_upto pick.first (pick.last + 1 - pick.first) x a (omega (arith, b, rises))))

  -- what is before a position and after the first
  abbrev Reaches : ℕ → Type 0
  Reaches x = (not pick.is_hull ≡ true) ⊎ ((x ≡ pick.first) ⊎ ((x ≡ pick.last) ⊎ ((is_before order pick.first x ≡ true) × (is_before order x pick.last ≡ true))))

  cases_of : (x : ℕ) → takes order pick x ≡ true → Reaches x
  cases_of x t =
      let h = not pick.is_hull in
      let f = eqb x pick.first in
      let l = eqb x pick.last in
      let b = is_before order pick.first x && is_before order x pick.last in
      elim (or_cases (h || f || l) b t) [
        | inl t2 ↦ elim (or_cases (h || f) l t2) [
          | inl t3 ↦ elim (or_cases h f t3) [ inl e ↦ inl e | inr e ↦ inr (inl (eqb-true x pick.first e)) ]
          | inr e ↦ inr (inr (inl (eqb-true x pick.last e)))
        ]
        | inr e ↦ inr (inr (inr (let p = and_parts (is_before order pick.first x) (is_before order x pick.last) e in (p.0, p.1))))
      ]

  by_hull : (x : ℕ) → not pick.is_hull ≡ true → takes order pick x ≡ true
  by_hull x e =
      let h = not pick.is_hull in
      let f = eqb x pick.first in
      let l = eqb x pick.last in
      let b = is_before order pick.first x && is_before order x pick.last in
      or_left (h || f || l) b (or_left (h || f) l (or_left h f e))

  by_first : takes order pick pick.first ≡ true
  by_first =
      let h = not pick.is_hull in
      let f = eqb pick.first pick.first in
      let l = eqb pick.first pick.last in
      let b = is_before order pick.first pick.first && is_before order pick.first pick.last in
      or_left (h || f || l) b (or_left (h || f) l (or_right h f (eq-eqb pick.first pick.first refl)))

  by_both : (x : ℕ) → is_before order pick.first x ≡ true → is_before order x pick.last ≡ true → takes order pick x ≡ true
  by_both x a c =
      let h = not pick.is_hull in
      let f = eqb x pick.first in
      let l = eqb x pick.last in
      or_right (h || f || l) (is_before order pick.first x && is_before order x pick.last) (and_from (is_before order pick.first x) (is_before order x pick.last) a c)

  -- what is after one of the set and before another is in it
  closed : (a x b : ℕ) → has set a ≡ true → has set b ≡ true → is_before order a x ≡ true → is_before order x b ≡ true → has set x ≡ true
  closed a x b ha hb ax xb =
      let sa = in_segment a ha in
      let sb = in_segment b hb in
      let lo = up a x ax in
      let hi = up x b xb in
      back_in x (omega (arith, sa.0, lo)) (omega (arith, sb.1, hi)) (elim (cases_of a sa.2) [
        | inl e ↦ by_hull x e
        | inr ra ↦
            let first : is_before order pick.first x ≡ true = elim ra [
              | inl e ↦ ap (λ z. is_before order z x) (sym e) ∙ ax
              | inr (inl e) ↦ absurd (omega (arith, e, lo, hi, sb.1))
              | inr (inr p) ↦ join pick.first a x p.0 ax
            ] in
            elim (cases_of b sb.2) [
              | inl e ↦ by_hull x e
              | inr rb ↦
                  let last : is_before order x pick.last ≡ true = elim rb [
                    | inl e ↦ absurd (omega (arith, e, lo, hi, sa.0))
                    | inr (inl e) ↦ ap (λ z. is_before order x z) (sym e) ∙ xb
                    | inr (inr p) ↦ join x b pick.last xb p.1
                  ] in
                  by_both x first last
            ]
      ])

  aside : (k : ℕ × Node) → In k numbered → is_aside order ids numbered k ≡ true
  aside k i = by (is_member ids k) refl
    where
      by : (b : Bool) → is_member ids k ≡ b → (b || not (is_after_some order ids numbered k.0 && is_before_some order ids numbered k.0)) ≡ true
      by true e = refl
      by false e = from_false _ (is_false _ (λ both.
          let p = and_parts (is_after_some order ids numbered k.0) (is_before_some order ids numbered k.0) both in
          let a = any_some (λ (m : ℕ × Node). is_member ids m && is_before order m.0 k.0) numbered p.0 in
          let b = any_some (λ (m : ℕ × Node). is_member ids m && is_before order k.0 m.0) numbered p.1 in
          let am = and_parts (is_member ids a.0) (is_before order a.0.0 k.0) a.2 in
          let bm = and_parts (is_member ids b.0) (is_before order k.0 b.0.0) b.2 in
          both_ways (is_member ids k) e (set_member k i (closed a.0.0 k.0 b.0.0 (member_set a.0 a.1 am.0) (member_set b.0 b.1 bm.0) am.1 bm.1))))

  pub set_convex : are_convex order ids numbered ≡ true
  set_convex = all_from (is_aside order ids numbered) numbered aside

  pub set_kids : AreKids kids (kids_in kids set)
  set_kids = record {
    some =
        let k = number_in 0 kids pick.first (omega (arith, rises, within)) in
        some_long (kids_in kids set) k.0 (in_map (λ (k : ℕ × Node). k.1) (filter test numbered) (0 + pick.first, k.0)
        (in_filter test numbered (0 + pick.first, k.0) k.1 (ap (λ z. has set z) (let e : 0 + pick.first ≡ pick.first = omega arith in e) ∙ back_in pick.first (omega arith) rises by_first)));
    once = part_distinct test 0 kids apart;
    equal = all_among kids (kids_in kids set) (λ x i. let k = part_in test 0 kids x i in subst (λ z. In z kids) (sym k.3) (node_in 0 kids k.0 k.1));
  }

-- a set that stands among those told by their ends
within_at : (n : ℕ) (ps : List Pick) → AreWithin n ps → (p : Pick) → In p ps → (p.first ≤ p.last) × (p.last < n)
within_at n [] w p i = elim i [ ]
within_at n (q ∷ ps) w p here = (w.0, w.1)
within_at n (q ∷ ps) w p (there i) = within_at n ps w.2 p i

-- a window of a block that is found in the node
record Placed (n : Node) (w : Window) : Type 0 where
  kids : List Node
  order : List (ℕ × ℕ)
  found : find_in w.block n ≡ Some (Block w.block kids order)
  carried : AreKids kids w.kids
  convex : are_convex order (map id_of w.kids) (enumerate_from 0 kids) ≡ true

module _ (width : ℕ) where
  own_placed : (own : ℕ) (kids : List Node) (order : List (ℕ × ℕ)) → is_order (length kids) order ≡ true → are_distinct (map id_of kids) ≡ true → (w : Window) → In w (each_of (windows_of own kids) (sets_of width (length kids) order)) → Placed (Block own kids order) w
  own_placed own kids order good apart w i =
      let s = each_in (windows_of own kids) (sets_of width (length kids) order) w i in
      let told = map_in (set_of order) (picks_of width (length kids) order) s.0 (subst (λ z. In s.0 z) (sym (sets_local width (length kids) order good)) s.1) in
      let p = told.0 in
      let ends = within_at (length kids) (picks_of width (length kids) order) (all_within width (length kids) order) p told.1 in
      let same : (w.block ≡ own) × (w.kids ≡ kids_in kids (set_of order p)) = pair_in own kids s.0 w s.2 (set_of order p) told.2 in
      record {
        kids = kids;
        order = order;
        found =
            ap (λ z. find_in z (Block own kids order)) same.0 ∙ find_in-Block own own kids order ∙ cond-true _ _ _ (eq-eqb own own refl)
            ∙ ap (λ z. Some (Block z kids order)) (sym same.0);
        carried = subst (AreKids kids) (sym same.1) (set_kids kids order good apart p ends.0 ends.1);
        convex = ap (λ (z : List Node). are_convex order (map id_of z) (enumerate_from 0 kids)) same.1 ∙ set_convex kids order good apart p ends.0 ends.1;
      }
    where
      pair_in : (own : ℕ) (kids : List Node) (s : List ℕ) (w : Window) → In w (windows_of own kids s) → (t : List ℕ) → s ≡ t → (w.block ≡ own) × (w.kids ≡ kids_in kids t)
      pair_in own kids s w here t e = (refl, ap (kids_in kids) e)
      pair_in own kids s w (there here) t e = (refl, ap (kids_in kids) e)
      pair_in own kids s w (there (there i)) t e = elim i [ ]

distinct_front : (xs ys : List ℕ) → are_distinct (xs ++ ys) ≡ true → (q : ℕ) → has xs q ≡ true → has ys q ≡ false
distinct_front [] ys d q e = absurd (both_ways false refl e)
distinct_front (x ∷ xs) ys d q e =
    let parts = and_parts (not (has (xs ++ ys) x)) (are_distinct (xs ++ ys)) d in
    elim (or_cases (eqb x q) (has xs q) e) [
      | inl s ↦ is_false _ (λ h. both_ways (has (xs ++ ys) x) (not_true _ parts.0) (has-append xs ys x ∙ or_right _ _ (ap (has ys) (eqb-true x q s) ∙ h)))
      | inr h ↦ distinct_front xs ys parts.1 q h
    ]

distinct_back : (xs ys : List ℕ) → are_distinct (xs ++ ys) ≡ true → are_distinct ys ≡ true
distinct_back [] ys d = d
distinct_back (x ∷ xs) ys d = distinct_back xs ys (and_parts (not (has (xs ++ ys) x)) (are_distinct (xs ++ ys)) d).1

found_has : (q : ℕ) (k m : Node) → find_in q k ≡ Some m → has (ids_of k) q ≡ true
found_has q k m e = sym (is_found q k) ∙ ap is_some e

joined_has : (q : ℕ) (ks : List Node) (k : Node) → In k ks → has (ids_of k) q ≡ true → has (joined (map ids_of ks)) q ≡ true
joined_has q [] k i e = elim i [ ]
joined_has q (x ∷ ks) k i e = has-append (ids_of x) (joined (map ids_of ks)) q ∙ elim (head_or x ks k i) [
  | inl s ↦ or_left _ _ (ap (λ z. has (ids_of z) q) (sym s) ∙ e)
  | inr j ↦ or_right _ _ (joined_has q ks k j e)
]

-- what is found in one of the kids is the first that is found
first_at : (q : ℕ) (ks : List Node) → are_distinct (joined (map ids_of ks)) ≡ true → (k m : Node) → In k ks → find_in q k ≡ Some m → first_some (map (find_in q) ks) ≡ Some m
first_at q [] d k m i e = elim i [ ]
first_at q (x ∷ ks) d k m i e = elim (head_or x ks k i) [
  | inl s ↦ ap (λ z. first_some (z ∷ map (find_in q) ks)) (ap (find_in q) (sym s) ∙ e)
  | inr j ↦
      let later = joined_has q ks k j (found_has q k m e) in
      let not_here : has (ids_of x) q ≡ false = is_false _ (λ h. both_ways _ (distinct_front (ids_of x) (joined (map ids_of ks)) d q h) later) in
      ap (λ z. first_some (z ∷ map (find_in q) ks)) (none_if (find_in q x) (is_found q x ∙ not_here)) ∙ first_at q ks (distinct_back (ids_of x) (joined (map ids_of ks)) d) k m j e
]
  where
    none_if : (o : Option Node) → is_some o ≡ false → o ≡ None
    none_if None e = refl
    none_if (Some n) e = absurd (both_ways true e refl)

each_at : (P : Node → Type 0) (ks : List Node) → Each P ks → (k : Node) → In k ks → P k
each_at P [] e k i = elim i [ ]
each_at P (x ∷ ks) e k here = e.0
each_at P (x ∷ ks) e k (there i) = each_at P ks e.1 k i

module _ (width : ℕ) where
  abbrev AllPlaced : Node → Type 0
  AllPlaced n = are_distinct (ids_of n) ≡ true → has_orders n ≡ true → (w : Window) → In w (family_of width n) → Placed n w

  step_placed : (own a : ℕ) → AllPlaced (Step own a)
  step_placed own a d o w i = elim (subst (λ z. In w z) (family-Step width own a) i) [ ]

  block_placed : (own : ℕ) (ks : List Node) (order : List (ℕ × ℕ)) → Each AllPlaced ks → AllPlaced (Block own ks order)
  block_placed own ks order each d o w i =
      let good = and_parts (list_all (λ b. b) (map has_orders ks)) (is_order (length (map has_orders ks)) order) (sym (has_orders-Block own ks order) ∙ o) in
      let ids : are_distinct (own ∷ joined (map ids_of ks)) ≡ true = sym (ap are_distinct (ids_of-Block own ks order)) ∙ d in
      let parts = and_parts (not (has (joined (map ids_of ks)) own)) (are_distinct (joined (map ids_of ks))) ids in
      elim (in_parts (each_of (windows_of own ks) (sets_of width (length ks) order)) (each_of (family_of width) ks) w (subst (λ z. In w z) (family-Block width own ks order) i)) [
        | inl h ↦ own_placed width own ks order (ap (λ n. is_order n order) (sym (length-map ks has_orders)) ∙ good.1) (distinct_kids (Block own ks order) own ks ks order refl refl d) w h
        | inr h ↦
            let k = each_in (family_of width) ks w h in
            let inner = each_at AllPlaced ks each k.0 k.1
            (all_at (λ b. b) (are_distinct (ids_of k.0)) (map (λ (z : Node). are_distinct (ids_of z)) ks) (distinct_in_kids (Block own ks order) own ks ks order refl refl d) (in_map (λ (z : Node). are_distinct (ids_of z)) ks k.0 k.1))
            (all_at (λ b. b) (has_orders k.0) (map has_orders ks) good.0 (in_map has_orders ks k.0 k.1)) w k.2 in
            let other : own ≡ w.block → ⊥ = λ e. both_ways (has (joined (map ids_of ks)) own) (not_true _ parts.0) (ap (has (joined (map ids_of ks))) e ∙ joined_has w.block ks k.0 k.1 (found_has w.block k.0 _ inner.found)) in
            record {
              kids = inner.kids;
              order = inner.order;
              found = find_in-Block w.block own ks order ∙ cond-false _ _ _ (ne_eqb own w.block other) ∙ first_at w.block ks parts.1 k.0 _ k.1 inner.found;
              carried = inner.carried;
              convex = inner.convex;
            }
      ]

  all_placed : (n : Node) → AllPlaced n
  all_placed = by_node AllPlaced step_placed block_placed

  stand_all : (root : Node) (ws : List Window) → ((w : Window) → In w ws → Placed root w) → AllStand root ws
  stand_all root [] h = tt
  stand_all root (w ∷ ws) h =
      let p = h w here in
      let there_is : IsThere root w = record { kids = p.kids; order = p.order; found = p.found; carried = p.carried } in
      ((there_is, p.convex), stand_all root ws (λ v i. h v (there i)))

  pub family_law : (root : Node) → FamilyStands width root
  family_law root good = stand_all root (family_of width root) (all_placed root good.distinct good.orders)
