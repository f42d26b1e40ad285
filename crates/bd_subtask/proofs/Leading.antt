-- The walk down a tree: what is certain and mentioned at a kid, told by what is at its block.
use Rattle.std.proofs.Common.{◌≡◌, ℕ, ◌+◌, ◌<◌, ◌≤◌, Bool, true, false, cond, not, ◌&&◌, ◌||◌, eqb, List, [], ◌∷◌, ◌++◌, map, take, drop, get_or, length, Option, Some, None, refl, sym, ap, ◌∙◌, subst, ◌⊎◌, inl, inr, arith}
use Rattle.std.specs.List.{list_any, enumerate_from}
use Rattle.std.specs.Option.{is_some}
use Rattle.std.proofs.lemmas.Bool.{cond-true, cond-false, both_ways, eq-eqb, ne_eqb, or_left}
use Rattle.std.proofs.lemmas.List.{take-append-drop, length-take-le}
use Rattle.bd_base.specs.Facts.{IsRising, has, plus}
use Rattle.bd_base.proofs.FactLemmas.{has-plus, rising_same, rising-plus}
use Rattle.bd_task.specs.declared.ground.Action.{Action}
use Rattle.bd_task.specs.TaskView.{TaskView}
use Rattle.bd_tree.specs.declared.node.Node.{Node, Block}
use Rattle.bd_tree.specs.Tree.{ids_of, find_in, first_some, total}
use Rattle.bd_tree.specs.declared.node.Node.TheOpen.{Node-F}
use Rattle.bd_tree.specs.declared.node.Node.TheFolds.{fold-roll-Node}
use Rattle.bd_tree.specs.declared.node.Node.TheViews.{rolls-Step, outs-Block, out-Node}
use Rattle.bd_tree.specs.WellFormed.{are_distinct, is_root, root_step}
use Rattle.bd_tree.proofs.NodeLemmas.{Each, by_node, ids_of-Block}
use Rattle.bd_tree.proofs.TreeLemmas.{find_in-Block, is_found}
use Rattle.bd_links.specs.Child.{Child}
use Rattle.bd_links.specs.Effects.{Order}
use Rattle.bd_links.specs.Sound.{child_of}
use Rattle.bd_links.proofs.Steps.{drop-at}
use Rattle.bd_links.proofs.Members.{In, here, there}
use Rattle.bd_merge.proofs.IdLemmas.{one_if, times, times_in, times_in-Block, times_once, distinct_if, sums-append}
use Rattle.bd_subtask.specs.Certain.{certain_in, certain_at_kid, kids_of}
use Rattle.bd_subtask.specs.Level.{Keeps, IsKept, IsLevel, LeadsTo, Leads, beside_from}
use Rattle.bd_subtask.specs.Subtask.{mentioned, or_nothing, outside_of, with_sets}
use Rattle.bd_subtask.specs.declared.level.Level.{Level}
use Rattle.bd_subtask.proofs.Nodes.{zero_at, no_if, times_some, certain-Block, outside-Step, outside-Block, has_none}

-- ---- first of a row of options, and any of a row of tests

module _ {X A : Type 0} (f : X → Option A) where
  all_none : (xs : List X) → ((x : X) → In x xs → f x ≡ None) → first_some (map f xs) ≡ None
  all_none [] h = refl
  all_none (x ∷ xs) h = ap (λ z. first_some (z ∷ map f xs)) (h x here) ∙ all_none xs (λ y i. h y (there i))

  first_at : (before after : List X) (x : X) → ((y : X) → In y (before ++ after) → f y ≡ None) → first_some (map f (before ++ x ∷ after)) ≡ f x
  first_at [] after x h = by (f x) (all_none after h)
    where
      by : (o : Option A) → first_some (map f after) ≡ None → first_some (o ∷ map f after) ≡ o
      by None e = e
      by (Some a) e = refl
  first_at (y ∷ before) after x h = ap (λ z. first_some (z ∷ map f (before ++ x ∷ after))) (h y here) ∙ first_at before after x (λ z i. h z (there i))

numbered_split : (m : ℕ) (before after : List Node) (x : Node) → enumerate_from m (before ++ x ∷ after) ≡ enumerate_from m before ++ (m + length before, x) ∷ enumerate_from (m + length before + 1) after
numbered_split m [] after x = let e : m ≡ m + 0 = omega arith in ap (λ z. (z, x) ∷ enumerate_from (z + 1) after) e
numbered_split m (y ∷ before) after x =
    let e : m + 1 + length before ≡ m + length (y ∷ before) = omega arith in
    ap (λ z. (m, y) ∷ z) (numbered_split (m + 1) before after x ∙ ap (λ z. enumerate_from (m + 1) before ++ (z, x) ∷ enumerate_from (z + 1) after) e)

number_in : (m : ℕ) (xs : List Node) (k : ℕ × Node) → In k (enumerate_from m xs) → In k.1 xs
number_in m [] k i = elim i [ ]
number_in m (x ∷ xs) k here = here
number_in m (x ∷ xs) k (there i) = there (number_in (m + 1) xs k i)

in_either : {X : Type 0} (xs ys : List X) (x : X) → In x (xs ++ ys) → In x xs ⊎ In x ys
in_either [] ys x i = inr i
in_either (y ∷ xs) ys x here = inl here
in_either (y ∷ xs) ys x (there i) = elim (in_either xs ys x i) [ inl j ↦ inl (there j) | inr j ↦ inr j ]

in_first : {X : Type 0} (xs ys : List X) (x : X) → In x xs → In x (xs ++ ys)
in_first [] ys x i = elim i [ ]
in_first (y ∷ xs) ys x here = here
in_first (y ∷ xs) ys x (there i) = there (in_first xs ys x i)

in_last : {X : Type 0} (xs ys : List X) (x : X) → In x ys → In x (xs ++ ys)
in_last [] ys x i = i
in_last (y ∷ xs) ys x i = there (in_last xs ys x i)

module _ (g : Node → Bool) where
  any_middle : (before after : List Node) (x : Node) → list_any g (before ++ x ∷ after) ≡ (list_any g before || (g x || list_any g after))
  any_middle [] after x = refl
  any_middle (y ∷ before) after x = ap (λ z. g y || z) (any_middle before after x) ∙ turned (g y) (list_any g before) (g x || list_any g after)
    where
      turned : (a b c : Bool) → (a || (b || c)) ≡ ((a || b) || c)
      turned true b c = refl
      turned false b c = refl

  -- all but the one at a position
  any_behind : (m i : ℕ) (xs : List Node) → i + 1 ≤ m → list_any (λ (k : ℕ × Node). not (eqb k.0 i) && g k.1) (enumerate_from m xs) ≡ list_any g xs
  any_behind m i [] le = refl
  any_behind m i (x ∷ xs) le =
      ap (λ b. (not b && g x) || list_any (λ (k : ℕ × Node). not (eqb k.0 i) && g k.1) (enumerate_from (m + 1) xs)) (ne_eqb m i (λ e. omega (arith, le, e)))
      ∙ ap (λ z. g x || z) (any_behind (m + 1) i xs (omega (arith, le)))

  any_but : (m i : ℕ) (before after : List Node) (x : Node) → i ≡ m + length before → list_any (λ (k : ℕ × Node). not (eqb k.0 i) && g k.1) (enumerate_from m (before ++ x ∷ after)) ≡ (list_any g before || list_any g after)
  any_but m i [] after x e =
      ap (λ b. (not b && g x) || list_any (λ (k : ℕ × Node). not (eqb k.0 i) && g k.1) (enumerate_from (m + 1) after)) (eq-eqb m i (omega (arith, e)))
      ∙ any_behind (m + 1) i after (omega (arith, e))
  any_but m i (y ∷ before) after x e =
      ap (λ b. (not b && g y) || list_any (λ (k : ℕ × Node). not (eqb k.0 i) && g k.1) (enumerate_from (m + 1) (before ++ x ∷ after))) (ne_eqb m i (λ s. omega (arith, e, s)))
      ∙ ap (λ z. g y || z) (any_but (m + 1) i before after x (omega (arith, e)))
      ∙ turned (g y) (list_any g before) (list_any g after)
    where
      turned : (a b c : Bool) → (a || (b || c)) ≡ ((a || b) || c)
      turned true b c = refl
      turned false b c = refl

any_in_same : (g h : Node → Bool) (xs : List Node) → ((x : Node) → In x xs → g x ≡ h x) → list_any g xs ≡ list_any h xs
any_in_same g h [] s = refl
any_in_same g h (x ∷ xs) s = ap (λ b. b || list_any g xs) (s x here) ∙ ap (λ z. h x || z) (any_in_same g h xs (λ y i. s y (there i)))

some_same : (x y : Node) → Some x ≡ Some y → x ≡ y
some_same x y e = cc

or_false : (b : Bool) → (b || false) ≡ b
or_false true = refl
or_false false = refl

has_sets : (f : Node → List ℕ) (s : List ℕ) (ks : List Node) (p : ℕ) → has (with_sets s (map f ks)) p ≡ (list_any (λ k. has (f k) p) ks || has s p)
has_sets f s [] p = refl
has_sets f s (k ∷ ks) p =
    let rest = list_any (λ k. has (f k) p) ks in
    has_sets f (plus s (f k)) ks p ∙ ap (λ z. rest || z) (has-plus s (f k) p) ∙ turned rest (has (f k) p) (has s p)
  where
    turned : (r h s : Bool) → (r || (h || s)) ≡ ((h || r) || s)
    turned true true s = refl
    turned true false s = refl
    turned false true s = refl
    turned false false s = refl

module _ (actions : List Action) where
  has_beside : (own i : ℕ) (s : List ℕ) (ks : List (ℕ × Node)) (p : ℕ) → has (beside_from actions own i s ks) p ≡ (list_any (λ (k : ℕ × Node). not (eqb k.0 i) && has (outside_of actions own k.1) p) ks || has s p)
  has_beside own i s [] p = refl
  has_beside own i s (k ∷ ks) p = one (eqb k.0 i) (λ t. has_beside own i t ks p)
    where
      rest : Bool
      rest = list_any (λ (k : ℕ × Node). not (eqb k.0 i) && has (outside_of actions own k.1) p) ks

      turned : (r h s : Bool) → (r || (h || s)) ≡ ((h || r) || s)
      turned true true s = refl
      turned true false s = refl
      turned false true s = refl
      turned false false s = refl

      one : (b : Bool) → ((t : List ℕ) → has (beside_from actions own i t ks) p ≡ (rest || has t p)) → has (beside_from actions own i (cond b s (plus s (outside_of actions own k.1))) ks) p ≡ (((not b && has (outside_of actions own k.1) p) || rest) || has s p)
      one true h = h s
      one false h =
          h (plus s (outside_of actions own k.1))
          ∙ ap (λ z. rest || z) (has-plus s (outside_of actions own k.1) p)
          ∙ turned rest (has (outside_of actions own k.1) p) (has s p)

  rising-beside : (own i : ℕ) (s : List ℕ) (ks : List (ℕ × Node)) → IsRising s → IsRising (beside_from actions own i s ks)
  rising-beside own i s [] r = r
  rising-beside own i s (k ∷ ks) r = rising-beside own i (cond (eqb k.0 i) s (plus s (outside_of actions own k.1))) ks (elim (eqb k.0 i) as (λ b. IsRising (cond b s (plus s (outside_of actions own k.1)))) [ true ↦ r | false ↦ rising-plus s (outside_of actions own k.1) r ])

  -- outside of either of two blocks that aren't in the node
  abbrev IsAlike : ℕ → ℕ → Node → Type 0
  IsAlike b c n = times_in b n ≡ 0 → times_in c n ≡ 0 → outside_of actions b n ≡ outside_of actions c n

  kids_alike : (b c : ℕ) (ks : List Node) → Each (IsAlike b c) ks → total (map (times_in b) ks) ≡ 0 → total (map (times_in c) ks) ≡ 0 → map (outside_of actions b) ks ≡ map (outside_of actions c) ks
  kids_alike b c [] e nb nc = refl
  kids_alike b c (k ∷ ks) e nb nc =
      ap (λ z. z ∷ map (outside_of actions b) ks) (e.0 (omega (arith, nb)) (omega (arith, nc)))
      ∙ ap (λ z. outside_of actions c k ∷ z) (kids_alike b c ks e.1 (omega (arith, nb)) (omega (arith, nc)))

  outside_alike : (b c : ℕ) (n : Node) → IsAlike b c n
  outside_alike b c = by_node (IsAlike b c)
      (λ own a nb nc. outside-Step actions b own a ∙ sym (outside-Step actions c own a))
      (λ own ks order e nb nc.
      let pb = no_if (eqb own b) (total (map (times_in b) ks)) (sym (times_in-Block b own ks order) ∙ nb) in
      let pc = no_if (eqb own c) (total (map (times_in c) ks)) (sym (times_in-Block c own ks order) ∙ nc) in
      outside-Block actions b own ks order ∙ cond-false _ _ _ pb.0
      ∙ ap (with_sets []) (kids_alike b c ks e pb.1 pc.1)
      ∙ sym (outside-Block actions c own ks order ∙ cond-false _ _ _ pc.0))

rising-sets : (s : List ℕ) (xs : List (List ℕ)) → IsRising s → IsRising (with_sets s xs)
rising-sets s [] r = r
rising-sets s (x ∷ xs) r = rising-sets (plus s x) xs (rising-plus s x r)

rising-outside : (actions : List Action) (b : ℕ) (n : Node) → is_root n ≡ true → IsRising (outside_of actions b n)
rising-outside actions b = by_node (λ n. is_root n ≡ true → IsRising (outside_of actions b n))
    (λ own a e. absurd (both_ways _ (ap is_root (sym (rolls-Step own a)) ∙ fold-roll-Node Bool root_step (Node-F.Step own a)) e))
    (λ own ks order each e. subst IsRising (sym (outside-Block actions b own ks order))
    (elim (eqb own b) as (λ t. IsRising (cond t [] (with_sets [] (map (outside_of actions b) ks)))) [ true ↦ tt | false ↦ rising-sets [] (map (outside_of actions b) ks) tt ]))

none_if : (o : Option Node) → is_some o ≡ false → o ≡ None
none_if None e = refl
none_if (Some n) e = absurd (both_ways true e refl)

not_in : (b : ℕ) (xs : List ℕ) → times b xs ≡ 0 → has xs b ≡ false
not_in b xs e = by (has xs b) refl
  where
    by : (t : Bool) → has xs b ≡ t → t ≡ false
    by true h = absurd (omega (arith, e, times_some b xs h))
    by false h = refl

-- ---- one kid of a block

module _ (task : TaskView) (root : Node) (own : ℕ) (kids : List Node) (order : Order) (sure out : List ℕ)
    (leads : Leads task root (Block own kids order) sure out) (distinct : are_distinct (ids_of (Block own kids order)) ≡ true) where
  abbrev node : Node
  node = Block own kids order

  abbrev actions : List Action
  actions = task.actions

  own_in : has (ids_of node) own ≡ true
  own_in = ap (λ z. has z own) (ids_of-Block own kids order) ∙ or_left _ _ (eq-eqb own own refl)

  pub own_found : find_in own root ≡ Some node
  own_found = (leads own own_in).found ∙ find_in-Block own own kids order ∙ cond-true _ _ _ (eq-eqb own own refl)

  pub own_certain : certain_in actions own root task.init ≡ Some sure
  own_certain = (leads own own_in).certain ∙ certain-Block actions own own kids order sure ∙ cond-true _ _ _ (eq-eqb own own refl)

  own_outside : (p : ℕ) → has (outside_of actions own root) p ≡ has out p
  own_outside p = (leads own own_in).outside p ∙ ap (λ z. has out p || has z p) (outside-Block actions own own kids order ∙ cond-true _ _ _ (eq-eqb own own refl)) ∙ or_false (has out p)

  pub kid_distinct : (before after : List Node) (kid : Node) → kids ≡ before ++ kid ∷ after → are_distinct (ids_of kid) ≡ true
  kid_distinct before after kid split = distinct_if (ids_of kid) (λ q. omega (
    arith,
    times_once q (ids_of node) distinct,
    times_in-Block q own kids order,
    ap (λ (z : List Node). total (map (times_in q) z)) split,
    sums-append (times_in q) before (kid ∷ after),
  ))

  module _ (before after : List Node) (kid : Node) (split : kids ≡ before ++ kid ∷ after) (b : ℕ) (inside : has (ids_of kid) b ≡ true) where
    counts : (one_if (eqb own b) + total (map (times_in b) before) + times_in b kid + total (map (times_in b) after)) ≤ 1
    counts = omega (
      arith,
      times_once b (ids_of node) distinct,
      times_in-Block b own kids order,
      ap (λ (z : List Node). total (map (times_in b) z)) split,
      sums-append (times_in b) before (kid ∷ after),
    )

    one : 1 ≤ times_in b kid
    one = times_some b (ids_of kid) inside

    few : one_if (eqb own b) + (total (map (times_in b) before) + total (map (times_in b) after)) ≡ 0
    few = omega (arith, counts, one)

    not_own : eqb own b ≡ false
    not_own = (no_if (eqb own b) _ few).0

    none_before : total (map (times_in b) before) ≡ 0
    none_before = omega (arith, counts, one)

    none_after : total (map (times_in b) after) ≡ 0
    none_after = omega (arith, counts, one)

    away : (k : Node) → In k (before ++ after) → times_in b k ≡ 0
    away k i = elim (in_either before after k i) [ inl j ↦ zero_at (times_in b) before none_before k j | inr j ↦ zero_at (times_in b) after none_after k j ]

    pub below_in : has (ids_of node) b ≡ true
    below_in = by (has (ids_of node) b) refl
      where
        none : (t : Bool) → has (ids_of node) b ≡ t → times b (ids_of node) ≡ 0 → ⊥
        none t e z = omega (arith, z, one, times_in-Block b own kids order, ap (λ (z : List Node). total (map (times_in b) z)) split, sums-append (times_in b) before (kid ∷ after))

        by : (t : Bool) → has (ids_of node) b ≡ t → t ≡ true
        by true e = refl
        by false e = absurd (none false e (Rattle.bd_merge.proofs.IdLemmas.times_none b (ids_of node) e))

    kid_found : find_in b node ≡ find_in b kid
    kid_found =
        find_in-Block b own kids order ∙ cond-false _ _ _ not_own
        ∙ ap (λ (z : List Node). first_some (map (find_in b) z)) split
        ∙ first_at (find_in b) before after kid (λ k i. none_if (find_in b k) (is_found b k ∙ not_in b (ids_of k) (away k i)))

    kid_certain : certain_in actions b node sure ≡ certain_in actions b kid (certain_at_kid order (kids_of actions kids) sure (length before))
    kid_certain =
        let f : ℕ × Node → Option (List ℕ) = λ k. certain_in actions b k.1 (certain_at_kid order (kids_of actions kids) sure k.0) in
        let e0 : 0 + length before ≡ length before = omega arith in
        certain-Block actions b own kids order sure ∙ cond-false _ _ _ not_own
        ∙ ap (λ (z : List Node). first_some (map f (enumerate_from 0 z))) split
        ∙ ap (λ z. first_some (map f z)) (numbered_split 0 before after kid)
        ∙ first_at f (enumerate_from 0 before) (enumerate_from (0 + length before + 1) after) (0 + length before, kid) (λ k i.
        has_none actions b k.1 (away k.1 (elim (in_either (enumerate_from 0 before) (enumerate_from (0 + length before + 1) after) k i) [
          | inl j ↦ in_first before after k.1 (number_in 0 before k j)
          | inr j ↦ in_last before after k.1 (number_in (0 + length before + 1) after k j)
        ])) (certain_at_kid order (kids_of actions kids) sure k.0))
        ∙ ap (λ z. f (z, kid)) e0

    own_away : (k : Node) → In k (before ++ after) → times_in own k ≡ 0
    own_away k i =
        let up = times_once own (ids_of node) distinct in
        let own_one : one_if (eqb own own) ≡ 1 = ap one_if (eq-eqb own own refl) in
        let all = times_in-Block own own kids order in
        let sum = ap (λ (z : List Node). total (map (times_in own) z)) split in
        let parts = sums-append (times_in own) before (kid ∷ after) in
        elim (in_either before after k i) [
          | inl j ↦ zero_at (times_in own) before (omega (arith, up, own_one, all, sum, parts)) k j
          | inr j ↦ zero_at (times_in own) after (omega (arith, up, own_one, all, sum, parts)) k j
        ]

    kid_outside : (p : ℕ) → (has out p || has (outside_of actions b node) p) ≡ (has (beside_from actions own (length before) out (enumerate_from 0 kids)) p || has (outside_of actions b kid) p)
    kid_outside p =
        let g : Node → Bool = λ k. has (outside_of actions b k) p in
        let h : Node → Bool = λ k. has (outside_of actions own k) p in
        let same_before : list_any h before ≡ list_any g before = any_in_same h g before (λ k i. ap (λ z. has z p) (outside_alike actions own b k (own_away k (in_first before after k i)) (away k (in_first before after k i)))) in
        let same_after : list_any h after ≡ list_any g after = any_in_same h g after (λ k i. ap (λ z. has z p) (outside_alike actions own b k (own_away k (in_last before after k i)) (away k (in_last before after k i)))) in
        ap (λ z. has out p || z) (
        ap (λ z. has z p) (outside-Block actions b own kids order ∙ cond-false _ _ _ not_own)
        ∙ has_sets (outside_of actions b) [] kids p ∙ or_false (list_any g kids)
        ∙ ap (list_any g) split ∙ any_middle g before after kid)
        ∙ turned (has out p) (list_any g before) (g kid) (list_any g after)
        ∙ sym (ap (λ z. z || g kid) (
        has_beside actions own (length before) out (enumerate_from 0 kids) p
        ∙ ap (λ z. z || has out p) (
        ap (λ (z : List Node). list_any (λ (k : ℕ × Node). not (eqb k.0 (length before)) && h k.1) (enumerate_from 0 z)) split
        ∙ any_but h 0 (length before) before after kid (omega arith)
        ∙ ap (λ z. z || list_any h after) same_before ∙ ap (λ z. list_any g before || z) same_after)))
      where
        turned : (o x k y : Bool) → (o || (x || (k || y))) ≡ (((x || y) || o) || k)
        turned true true k y = refl
        turned true false k true = refl
        turned true false k false = refl
        turned false true k y = refl
        turned false false true true = refl
        turned false false true false = refl
        turned false false false true = refl
        turned false false false false = refl

    pub leads_kid : LeadsTo task root kid (certain_at_kid order (kids_of actions kids) sure (length before)) (beside_from actions own (length before) out (enumerate_from 0 kids)) b
    leads_kid =
        let l = leads b below_in in
        record {
          found = l.found ∙ kid_found;
          certain = l.certain ∙ kid_certain;
          outside = λ p. l.outside p ∙ kid_outside p;
        }

  pub own_mentioned : is_root root ≡ true → IsRising out → mentioned task root own ≡ plus out task.goal
  own_mentioned rooted up = rising_same (plus (outside_of actions own root) task.goal) (plus out task.goal)
      (rising-plus (outside_of actions own root) task.goal (rising-outside actions own root rooted))
      (rising-plus out task.goal up)
      (λ q. has-plus (outside_of actions own root) task.goal q ∙ ap (λ z. has task.goal q || z) (own_outside q) ∙ sym (has-plus out task.goal q))

pub leads_root : (task : TaskView) (root : Node) → Leads task root root task.init []
leads_root task root b inside = record { found = refl; certain = refl; outside = λ p. refl }

-- ---- the walk's turns: a kid of the block, as it is met

module _ (task : TaskView) (root n : Node) (own : ℕ) (kids : List Node) (order : Order) (is : n ≡ Block own kids order) (sure out : List ℕ)
    (leads : Leads task root n sure out) (distinct : are_distinct (ids_of n) ≡ true) where
  block_leads : Leads task root (Block own kids order) sure out
  block_leads = subst (λ (z : Node). Leads task root z sure out) is leads

  block_distinct : are_distinct (ids_of (Block own kids order)) ≡ true
  block_distinct = ap (λ (z : Node). are_distinct (ids_of z)) (sym is) ∙ distinct

  -- what is kept of the block is its level
  pub level_is : is_root root ≡ true → IsRising out → (level : Level) → level.block ≡ own → level.node.now ≡ n → (parts : List Child) → parts ≡ map (child_of task.actions) kids → Keeps parts order level → level.certain ≡ sure → level.mentioned ≡ plus out task.goal → IsLevel task root level
  level_is rooted up level same at parts made keeps c m = record {
    node = ap (λ (b : ℕ). find_in b root) same ∙ own_found task root own kids order sure out block_leads block_distinct ∙ ap Some (sym (at ∙ is));
    kept = λ ks o found.
        let here : Some (Block own kids order) ≡ Some (Block own ks o) = sym (own_found task root own kids order sure out block_leads block_distinct) ∙ ap (λ (b : ℕ). find_in b root) (sym same) ∙ found ∙ ap (λ (b : ℕ). Some (Block b ks o)) same in
        let layer : Node-F.Block own kids order ≡ Node-F.Block own ks o = sym (outs-Block own kids order) ∙ ap out-Node (some_same (Block own kids order) (Block own ks o) here) ∙ outs-Block own ks o in
        let ks_is : kids ≡ ks = cc in
        let o_is : order ≡ o = cc in
        subst (λ (z : Order). IsKept task ks z level) o_is (subst (λ (z : List Child). Keeps z order level) (made ∙ ap (map (child_of task.actions)) ks_is) keeps);
    certain = c ∙ sym (ap (λ (b : ℕ). or_nothing (certain_in task.actions b root task.init)) same ∙ ap or_nothing (own_certain task root own kids order sure out block_leads block_distinct));
    mentioned = m ∙ sym (ap (λ (b : ℕ). mentioned task root b) same ∙ own_mentioned task root own kids order sure out block_leads block_distinct rooted up);
  }

  module _ (ks : List Node) (same : ks ≡ kids) (i : ℕ) (kid : Node) (lt : i < length ks) (at : kid ≡ get_or ks i kid) where
    split : kids ≡ take i kids ++ kid ∷ drop (i + 1) kids
    split = sym (take-append-drop i kids) ∙ ap (λ z. take i kids ++ z) (ap (drop i) (sym same) ∙ drop-at ks i kid lt at ∙ ap (λ (z : List Node). kid ∷ drop (i + 1) z) same)

    long : length (take i kids) ≡ i
    long = length-take-le i kids (omega (arith, lt, ap length same))

    pub turn_distinct : are_distinct (ids_of kid) ≡ true
    turn_distinct = kid_distinct task root own kids order sure out block_leads block_distinct (take i kids) (drop (i + 1) kids) kid split

    pub turn_leads : (inner beside : List ℕ) → inner ≡ certain_at_kid order (kids_of task.actions kids) sure i → beside ≡ beside_from task.actions own i out (enumerate_from 0 kids) → Leads task root kid inner beside
    turn_leads inner beside ei eb = λ b h.
        let l = leads_kid task root own kids order sure out block_leads block_distinct (take i kids) (drop (i + 1) kids) kid split b h in
        subst (λ z. LeadsTo task root kid z beside b) (sym (ei ∙ ap (certain_at_kid order (kids_of task.actions kids) sure) (sym long)))
        (subst (λ z. LeadsTo task root kid (certain_at_kid order (kids_of task.actions kids) sure (length (take i kids))) z b) (sym (eb ∙ ap (λ z. beside_from task.actions own z out (enumerate_from 0 kids)) (sym long))) l)
