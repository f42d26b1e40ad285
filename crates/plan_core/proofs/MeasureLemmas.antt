-- What a merge does to a count over a tree: the carried kids' counts go, and the new steps' come.
use Rattle.std.proofs.Common.{◌≡◌, ℕ, ◌+◌, Bool, true, false, not, ◌&&◌, ◌||◌, eqb, cond, List, [], ◌∷◌, ◌++◌, map, filter, Option, Some, None, refl, sym, ap, ◌∙◌, subst, ◌⊎◌, inl, inr, arith}
use Rattle.std.specs.List.{enumerate_from}
use Rattle.std.proofs.lemmas.Bool.{and_parts, and_from, or_cases, or_left, or_right, eq-eqb, eqb-true, ne_eqb, cond-true, cond-false, both_ways}
use Rattle.std.specs.Option.{is_some}
use Rattle.bd_base.specs.Facts.{has}
use Rattle.bd_tree.specs.declared.node.Node.{Node, Step, Block}
use Rattle.bd_tree.specs.declared.node.Node.TheOpen.{Node-F}
use Rattle.bd_tree.specs.declared.node.Node.TheViews.{out-Node, outs-Step, outs-Block}
use Rattle.bd_tree.specs.Chain.{steps_from}
use Rattle.bd_tree.specs.Convex.{is_member}
use Rattle.bd_tree.specs.Tree.{id_of, ids_of, total, joined, find_in, first_some}
use Rattle.bd_tree.specs.WellFormed.{are_distinct}
use Rattle.bd_tree.proofs.NodeLemmas.{Each, by_node, ids_of-Step, ids_of-Block, id_of-Step, id_of-Block}
use Rattle.bd_tree.proofs.TreeLemmas.{find_in-Step, find_in-Block, has-append, is_found}
use Rattle.bd_merge.specs.Merged.{merged, merged_block, merged_kids, merged_order, merged_places, goes_first, fronts, backs}
use Rattle.bd_merge.proofs.MergeLemmas.{merged-Step, merged-Block}
use Rattle.bd_merge.specs.Stands.{IsAmong, AreAmong, AreKids, IsThere}
use Rattle.bd_merge.specs.declared.window.Window.{Window}

-- a test that is true isn't false
pub clash : (b : Bool) → b ≡ true → b ≡ false → ⊥
clash b yes' no' = both_ways b no' yes'

-- distinct lists
pub distinct_parts : (xs ys : List ℕ) → are_distinct (xs ++ ys) ≡ true → (are_distinct xs ≡ true) × (are_distinct ys ≡ true) × ((q : ℕ) → has xs q ≡ true → has ys q ≡ false)
distinct_parts [] ys d = (refl, d, λ q h. absurd (both_ways false refl h))
distinct_parts (x ∷ xs) ys d =
    let p = and_parts (not (has (xs ++ ys) x)) (are_distinct (xs ++ ys)) d in
    let r = distinct_parts xs ys p.1 in
    (and_from _ _ (front p.0) r.0, r.1, λ q h. apart q p.0 r.2 (or_cases (eqb x q) (has xs q) h))
  where
    front : not (has (xs ++ ys) x) ≡ true → not (has xs x) ≡ true
    front e = unsplit (has xs x) (has ys x) (ap not (sym (has-append xs ys x)) ∙ e)
      where
        unsplit : (a b : Bool) → not (a || b) ≡ true → not a ≡ true
        unsplit true b e = e
        unsplit false b e = refl

    behind : not (has (xs ++ ys) x) ≡ true → has ys x ≡ false
    behind e = unsplit (has xs x) (has ys x) (ap not (sym (has-append xs ys x)) ∙ e)
      where
        unsplit : (a b : Bool) → not (a || b) ≡ true → b ≡ false
        unsplit true b e = absurd (both_ways false refl e)
        unsplit false true e = absurd (both_ways false refl e)
        unsplit false false e = refl

    apart : (q : ℕ) → not (has (xs ++ ys) x) ≡ true → ((q : ℕ) → has xs q ≡ true → has ys q ≡ false) → (eqb x q ≡ true) ⊎ (has xs q ≡ true) → has ys q ≡ false
    apart q e rest (inl same) = subst (λ z. has ys z ≡ false) (eqb-true x q same) (behind e)
    apart q e rest (inr later) = rest q later

abbrev Placed : Type 0
Placed = ℕ × Node

abbrev placed_id : Placed → ℕ
placed_id k = id_of k.1

-- a count over nodes: the number of a step by its action, and for a block a number and its kids' counts
module _ (count : Node → ℕ) where
  abbrev count_at : Placed → ℕ
  count_at k = count k.1

  abbrev sum_at : List Placed → ℕ
  sum_at ks = total (map count_at ks)

  sum_of_nodes : (ks : List Placed) → total (map count (map (λ (k : Placed). k.1) ks)) ≡ sum_at ks
  sum_of_nodes [] = refl
  sum_of_nodes (k ∷ ks) = ap (λ z. count k.1 + z) (sum_of_nodes ks)

  sum_of_numbered : (m : ℕ) (kids : List Node) → sum_at (enumerate_from m kids) ≡ total (map count kids)
  sum_of_numbered m [] = refl
  sum_of_numbered m (k ∷ ks) = ap (λ z. count k + z) (sum_of_numbered (m + 1) ks)

  pub total-append : (xs ys : List Node) → total (map count (xs ++ ys)) ≡ total (map count xs) + total (map count ys)
  total-append [] ys = omega arith
  total-append (x ∷ xs) ys = omega (arith, total-append xs ys)

  filter_one : (t : Placed → Bool) (k : Placed) (ks : List Placed) → sum_at (filter t (k ∷ ks)) ≡ cond (t k) (count_at k) 0 + sum_at (filter t ks)
  filter_one t k ks = elim (t k) as (λ b. sum_at (cond b (k ∷ filter t ks) (filter t ks)) ≡ cond b (count_at k) 0 + sum_at (filter t ks)) [ true ↦ refl | false ↦ omega arith ]

  -- members, those in front and those behind are all
  three_parts : (m g : Placed → Bool) (ks : List Placed) →
      sum_at (filter (λ k. not (m k) && g k) ks) + sum_at (filter m ks) + sum_at (filter (λ k. not (m k) && not (g k)) ks) ≡ sum_at ks
  three_parts m g [] = refl
  three_parts m g (k ∷ ks) =
      omega (arith, filter_one (λ k. not (m k) && g k) k ks, filter_one m k ks, filter_one (λ k. not (m k) && not (g k)) k ks, three_parts m g ks, one (m k) (g k))
    where
      one : (a b : Bool) → cond (not a && b) (count_at k) 0 + cond a (count_at k) 0 + cond (not a && not b) (count_at k) 0 ≡ count_at k
      one true b = omega arith
      one false true = omega arith
      one false false = omega arith

  -- kids with one id
  abbrev named : ℕ → List Placed → List Placed
  named i ks = filter (λ k. eqb i (placed_id k)) ks

  abbrev members : List ℕ → List Placed → List Placed
  members ids ks = filter (is_member ids) ks

  none_named : (i : ℕ) (ks : List Placed) → has (map placed_id ks) i ≡ false → sum_at (named i ks) ≡ 0
  none_named i [] h = refl
  none_named i (k ∷ ks) h = filter_one (λ k. eqb i (placed_id k)) k ks ∙ more (eqb (placed_id k) i) refl h (none_named i ks)
    where
      other : eqb (placed_id k) i ≡ false → eqb i (placed_id k) ≡ false
      other e = ne_eqb i (placed_id k) (λ same. clash _ (eq-eqb (placed_id k) i (sym same)) e)

      more : (b : Bool) → eqb (placed_id k) i ≡ b → (b || has (map placed_id ks) i) ≡ false → (has (map placed_id ks) i ≡ false → sum_at (named i ks) ≡ 0) → cond (eqb i (placed_id k)) (count_at k) 0 + sum_at (named i ks) ≡ 0
      more true e h rest = absurd (clash true refl h)
      more false e h rest = rw (other e) (omega (arith, rest h))

  -- the one kid with an id, where ids are distinct
  one_named : (node : Node) (m : ℕ) (kids : List Node) → are_distinct (map placed_id (enumerate_from m kids)) ≡ true → IsAmong kids node → sum_at (named (id_of node) (enumerate_from m kids)) ≡ count node
  one_named node m [] d i = elim i [ ]
  one_named node m (k ∷ ks) d i =
      let p = and_parts _ _ d in
      filter_one (λ j. eqb (id_of node) (placed_id j)) (m, k) (enumerate_from (m + 1) ks) ∙ at p.0 p.1 i (one_named node (m + 1) ks)
    where
      unlike : (b : Bool) → not b ≡ true → b ≡ false
      unlike true e = absurd (both_ways false refl e)
      unlike false e = refl

      listed : (m : ℕ) (ks : List Node) → IsAmong ks node → has (map placed_id (enumerate_from m ks)) (id_of node) ≡ true
      listed m [] i = elim i [ ]
      listed m (x ∷ xs) (inl e) = or_left _ _ (eq-eqb (id_of x) (id_of node) (ap id_of e))
      listed m (x ∷ xs) (inr i) = or_right _ _ (listed (m + 1) xs i)

      at : not (has (map placed_id (enumerate_from (m + 1) ks)) (id_of k)) ≡ true → are_distinct (map placed_id (enumerate_from (m + 1) ks)) ≡ true → (k ≡ node) ⊎ IsAmong ks node →
          (are_distinct (map placed_id (enumerate_from (m + 1) ks)) ≡ true → IsAmong ks node → sum_at (named (id_of node) (enumerate_from (m + 1) ks)) ≡ count node) →
          cond (eqb (id_of node) (id_of k)) (count k) 0 + sum_at (named (id_of node) (enumerate_from (m + 1) ks)) ≡ count node
      at out d (inl e) rest =
          let none : sum_at (named (id_of node) (enumerate_from (m + 1) ks)) ≡ 0 = none_named (id_of node) (enumerate_from (m + 1) ks) (subst (λ z. has (map placed_id (enumerate_from (m + 1) ks)) (id_of z) ≡ false) e (unlike _ out)) in
          rw (eq-eqb (id_of node) (id_of k) (ap id_of (sym e))) (omega (arith, none, ap count e))
      at out d (inr i) rest = rw (ne_eqb (id_of node) (id_of k) (λ same. clash _ (listed (m + 1) ks i) (subst (λ z. has (map placed_id (enumerate_from (m + 1) ks)) z ≡ false) (sym same) (unlike _ out))))
          (omega (arith, rest d i))

  -- members by one more id
  one_more : (i : ℕ) (ids : List ℕ) (ks : List Placed) → has ids i ≡ false → sum_at (members (i ∷ ids) ks) ≡ sum_at (named i ks) + sum_at (members ids ks)
  one_more i ids [] h = refl
  one_more i ids (k ∷ ks) h =
      omega (arith, filter_one (is_member (i ∷ ids)) k ks, filter_one (λ j. eqb i (placed_id j)) k ks, filter_one (is_member ids) k ks, one_more i ids ks h, here (eqb i (placed_id k)) (has ids (placed_id k)) (λ e. subst (λ z. has ids z ≡ false) (eqb-true i (placed_id k) e) h))
    where
      here : (a b : Bool) → (a ≡ true → b ≡ false) → cond (a || b) (count_at k) 0 ≡ cond a (count_at k) 0 + cond b (count_at k) 0
      here true true f = absurd (clash true refl (f refl))
      here true false f = omega arith
      here false b f = omega arith

  no_members : (ks : List Placed) → sum_at (members [] ks) ≡ 0
  no_members [] = refl
  no_members (k ∷ ks) = no_members ks

  -- what is carried is the members, one for one
  carried_are_members : (m : ℕ) (kids carried : List Node) → are_distinct (map placed_id (enumerate_from m kids)) ≡ true → are_distinct (map id_of carried) ≡ true → AreAmong kids carried →
      sum_at (members (map id_of carried) (enumerate_from m kids)) ≡ total (map count carried)
  carried_are_members m kids [] d e a = no_members (enumerate_from m kids)
  carried_are_members m kids (c ∷ cs) d e a =
      let p = and_parts (not (has (map id_of cs) (id_of c))) (are_distinct (map id_of cs)) e in
      omega (arith, one_more (id_of c) (map id_of cs) (enumerate_from m kids) (unlike _ p.0), one_named c m kids d a.0, carried_are_members m kids cs d p.1 a.1)
    where
      unlike : (b : Bool) → not b ≡ true → b ≡ false
      unlike true e = absurd (both_ways false refl e)
      unlike false e = refl

placed_ids : (m : ℕ) (kids : List Node) → map placed_id (enumerate_from m kids) ≡ map id_of kids
placed_ids m [] = refl
placed_ids m (k ∷ ks) = ap (λ z. id_of k ∷ z) (placed_ids (m + 1) ks)

or_false : (a b : Bool) → (a || b) ≡ false → (a ≡ false) × (b ≡ false)
or_false true b e = absurd (clash true refl e)
or_false false b e = (refl, e)

not_false : (b : Bool) → not b ≡ true → b ≡ false
not_false true e = absurd (both_ways false refl e)
not_false false e = refl

abbrev HasOwnId : Node → Type 0
HasOwnId n = has (ids_of n) (id_of n) ≡ true

own_id : (n : Node) → HasOwnId n
own_id = by_node HasOwnId
    (λ id a. ap (λ z. has z (id_of (Step id a))) (ids_of-Step id a) ∙ or_left _ _ (eq-eqb id (id_of (Step id a)) (sym (id_of-Step id a))))
    (λ id kids order e. ap (λ z. has z (id_of (Block id kids order))) (ids_of-Block id kids order) ∙ or_left _ _ (eq-eqb id (id_of (Block id kids order)) (sym (id_of-Block id kids order))))

-- the kids' own ids are among all ids below
pub own_among : (kids : List Node) (q : ℕ) → has (joined (map ids_of kids)) q ≡ false → has (map id_of kids) q ≡ false
own_among [] q h = refl
own_among (k ∷ ks) q h =
    let p = or_false (has (ids_of k) q) _ (sym (has-append (ids_of k) (joined (map ids_of ks)) q) ∙ h) in
    at p.0 (own_among ks q p.1)
  where
    at : has (ids_of k) q ≡ false → has (map id_of ks) q ≡ false → (eqb (id_of k) q || has (map id_of ks) q) ≡ false
    at out rest = rw (ne_eqb (id_of k) q (λ same. clash _ (own_id k) (subst (λ z. has (ids_of k) z ≡ false) (sym same) out))) rest

own_distinct : (kids : List Node) → are_distinct (joined (map ids_of kids)) ≡ true → are_distinct (map id_of kids) ≡ true
own_distinct [] d = refl
own_distinct (k ∷ ks) d =
    let p = distinct_parts (ids_of k) (joined (map ids_of ks)) d in
    and_from _ _ (ap not (own_among ks (id_of k) (p.2 (id_of k) (own_id k)))) (own_distinct ks p.1)

-- layers
abbrev layer_kids : Node-F Node → List Node
layer_kids (Node-F.Step id a) = []
layer_kids (Node-F.Block id kids order) = kids

abbrev layer_is_block : Node-F Node → Bool
layer_is_block (Node-F.Step id a) = false
layer_is_block (Node-F.Block id kids order) = true

pub kids_same : (i j : ℕ) (ks ls : List Node) (o p : List (ℕ × ℕ)) → Block i ks o ≡ Block j ls p → ks ≡ ls
kids_same i j ks ls o p e = sym (ap layer_kids (outs-Block i ks o)) ∙ ap (λ n. layer_kids (out-Node n)) e ∙ ap layer_kids (outs-Block j ls p)

no_step : (i a j : ℕ) (ls : List Node) (p : List (ℕ × ℕ)) → Step i a ≡ Block j ls p → ⊥
no_step i a j ls p e = clash _ (ap layer_is_block (outs-Block j ls p)) (ap (λ n. layer_is_block (out-Node n)) (sym e) ∙ ap layer_is_block (outs-Step i a))

abbrev of_some : Node → Option Node → Node
of_some d None = d
of_some d (Some n) = n

pub some_same : (x y : Node) → Some x ≡ Some y → x ≡ y
some_same x y e = ap (of_some x) e

pub is_there_at_all : (x : Node) → None ≡ Some x → ⊥
is_there_at_all x e = clash (is_some (Some x)) refl (ap is_some (sym e))

-- a tree without the window's block stays
module _ (window : Window) (list : List ℕ) (next : ℕ) where
  abbrev goes : Node → Node
  goes n = merged n window list next

  abbrev Stays : Node → Type 0
  Stays n = has (ids_of n) window.block ≡ false → goes n ≡ n

  pub all_stay : (ks : List Node) → Each Stays ks → has (joined (map ids_of ks)) window.block ≡ false → map goes ks ≡ ks
  all_stay [] e h = refl
  all_stay (k ∷ ks) e h =
      let p = or_false _ _ (sym (has-append (ids_of k) (joined (map ids_of ks)) window.block) ∙ h) in
      ap (λ z. z ∷ map goes ks) (e.0 p.0) ∙ ap (λ z. k ∷ z) (all_stay ks e.1 p.1)

  pub stays : (n : Node) → Stays n
  stays = by_node Stays
      (λ own a h. merged-Step window list next own a)
      (λ own kids order e h.
      let p = or_false _ _ (sym (ap (λ z. has z window.block) (ids_of-Block own kids order)) ∙ h) in
      merged-Block window list next own kids order ∙ cond-false _ _ _ p.0 ∙ ap (λ z. Block own z order) (all_stay kids e p.1))

  pub each_stays : (ks : List Node) → Each Stays ks
  each_stays [] = tt
  each_stays (k ∷ ks) = (stays k, each_stays ks)

  module _ (count : Node → ℕ) (base : ℕ) (each : ℕ → ℕ) (of_step : (id a : ℕ) → count (Step id a) ≡ each a)
      (of_block : (id : ℕ) (kids : List Node) (order : List (ℕ × ℕ)) → count (Block id kids order) ≡ base + total (map count kids)) where
    sum_of_steps : (m : ℕ) (xs : List ℕ) → total (map count (steps_from m xs)) ≡ total (map each xs)
    sum_of_steps m [] = refl
    sum_of_steps m (x ∷ xs) = omega (arith, of_step m x, sum_of_steps (m + 1) xs)

    kids_merged : (order : List (ℕ × ℕ)) (kids : List Node) → are_distinct (map id_of kids) ≡ true → AreKids kids window.kids →
        total (map count (merged_kids window list next order (enumerate_from 0 kids))) + total (map count window.kids) ≡ total (map count kids) + total (map each list)
    kids_merged order kids d are =
        let ids = map id_of window.kids in
        let ks = enumerate_from 0 kids in
        let fore = map (λ (k : Placed). k.1) (fronts window order ks) in
        let aft = map (λ (k : Placed). k.1) (backs window order ks) in
        let new = steps_from next list in
        let one : total (map count ((fore ++ new) ++ aft)) ≡ total (map count (fore ++ new)) + total (map count aft) = total-append count (fore ++ new) aft in
        let two : total (map count (fore ++ new)) ≡ total (map count fore) + total (map count new) = total-append count fore new in
        let parts : sum_at count (fronts window order ks) + sum_at count (members count ids ks) + sum_at count (backs window order ks) ≡ sum_at count ks =
        three_parts count (is_member ids) (λ k. goes_first window.lean order ids ks k.0) ks in
        let carried : sum_at count (members count ids ks) ≡ total (map count window.kids) = carried_are_members count 0 kids window.kids (ap are_distinct (placed_ids 0 kids) ∙ d) are.once are.equal in
        let goal : total (map count ((fore ++ new) ++ aft)) + total (map count window.kids) ≡ total (map count kids) + total (map each list) =
        omega (arith, one, two, sum_of_nodes count (fronts window order ks), sum_of_nodes count (backs window order ks), sum_of_steps next list, parts, carried, sum_of_numbered count 0 kids) in
        goal

    module _ (kids0 : List Node) (order0 : List (ℕ × ℕ)) (are : AreKids kids0 window.kids) where
      abbrev Found0 : Option Node
      Found0 = Some (Block window.block kids0 order0)

      abbrev IsCounted : Node → Type 0
      IsCounted n = are_distinct (ids_of n) ≡ true → find_in window.block n ≡ Found0 → count (goes n) + total (map count window.kids) ≡ count n + total (map each list)

      kids_counted : (ks : List Node) → Each IsCounted ks → are_distinct (joined (map ids_of ks)) ≡ true → first_some (map (find_in window.block) ks) ≡ Found0 →
          total (map count (map goes ks)) + total (map count window.kids) ≡ total (map count ks) + total (map each list)
      kids_counted [] e d f = absurd (is_there_at_all _ f)
      kids_counted (k ∷ ks) e d f =
          let p = distinct_parts (ids_of k) (joined (map ids_of ks)) d in
          at (find_in window.block k) refl p.0 p.1 p.2 f (kids_counted ks e.1)
        where
          at : (o : Option Node) → find_in window.block k ≡ o → are_distinct (ids_of k) ≡ true → are_distinct (joined (map ids_of ks)) ≡ true → ((q : ℕ) → has (ids_of k) q ≡ true → has (joined (map ids_of ks)) q ≡ false) →
              first_some (o ∷ map (find_in window.block) ks) ≡ Found0 →
              (are_distinct (joined (map ids_of ks)) ≡ true → first_some (map (find_in window.block) ks) ≡ Found0 → total (map count (map goes ks)) + total (map count window.kids) ≡ total (map count ks) + total (map each list)) →
              (count (goes k) + total (map count (map goes ks))) + total (map count window.kids) ≡ (count k + total (map count ks)) + total (map each list)
          at None is dk dks apart f rest =
              omega (arith, ap count (stays k (sym (is_found window.block k) ∙ ap is_some is)), rest dks f)
          at (Some n) is dk dks apart f rest =
              omega (arith, e.0 dk (is ∙ f), ap (λ z. total (map count z)) (all_stay ks (each_stays ks) (apart window.block (sym (is_found window.block k) ∙ ap is_some is))))

      counted_block : (own : ℕ) (kids : List Node) (order : List (ℕ × ℕ)) → Each IsCounted kids → IsCounted (Block own kids order)
      counted_block own kids order e d f =
          let dk = (and_parts _ _ (sym (ap are_distinct (ids_of-Block own kids order)) ∙ d)).1 in
          at (eqb own window.block) refl dk (sym (find_in-Block window.block own kids order) ∙ f)
        where
          at : (b : Bool) → eqb own window.block ≡ b → are_distinct (joined (map ids_of kids)) ≡ true → cond b (Some (Block own kids order)) (first_some (map (find_in window.block) kids)) ≡ Found0 →
              count (goes (Block own kids order)) + total (map count window.kids) ≡ count (Block own kids order) + total (map each list)
          at true is dk g =
              let same : kids ≡ kids0 = kids_same own window.block kids kids0 order order0 (some_same _ _ g) in
              let new : goes (Block own kids order) ≡ merged_block window list next own kids order = merged-Block window list next own kids order ∙ cond-true _ _ _ is in
              omega (
                arith,
                ap count new ∙ of_block own (merged_kids window list next order (enumerate_from 0 kids)) (merged_order order (merged_places window list order (enumerate_from 0 kids))),
                of_block own kids order,
                kids_merged order kids (own_distinct kids dk) (subst (λ z. AreKids z window.kids) (sym same) are),
              )
          at false is dk g =
              let new : goes (Block own kids order) ≡ Block own (map goes kids) order = merged-Block window list next own kids order ∙ cond-false _ _ _ is in
              omega (arith, ap count new ∙ of_block own (map goes kids) order, of_block own kids order, kids_counted kids e dk g)

      counted_step : (own a : ℕ) → IsCounted (Step own a)
      counted_step own a d f = absurd (at (eqb own window.block) (sym (find_in-Step window.block own a) ∙ f))
        where
          at : (b : Bool) → cond b (Some (Step own a)) None ≡ Found0 → ⊥
          at true g = no_step own a window.block kids0 order0 (some_same _ _ g)
          at false g = is_there_at_all _ g

      counted_all : (n : Node) → IsCounted n
      counted_all = by_node IsCounted counted_step counted_block

    -- what is merged and what is carried count together as the tree and the new steps
    pub counted_merge : (root : Node) → are_distinct (ids_of root) ≡ true → IsThere root window →
        count (goes root) + total (map count window.kids) ≡ count root + total (map each list)
    counted_merge root d there = counted_all there.kids there.order there.carried root d there.found
