-- Of a measure that adds up over kids, the merged tree loses what the carried kids have and gains what the new steps have.
use Rattle.std.proofs.Common.{◌≡◌, ℕ, ◌+◌, ◌≤◌, Bool, true, false, not, ◌&&◌, ◌||◌, eqb, cond, List, [], ◌∷◌, ◌++◌, length, map, filter, Option, Some, None, refl, sym, ap, ◌∙◌, inl, inr, arith}
use Rattle.std.specs.List.{enumerate_from}
use Rattle.std.specs.Option.{is_some}
use Rattle.std.proofs.lemmas.Bool.{and_parts, or_right, or_left, cond-true, cond-false, eqb-true, eq-eqb, cases_eq, ne_eqb}
use Rattle.bd_base.specs.Facts.{has}
use Rattle.bd_tree.specs.declared.node.Node.{Node, Step, Block}
use Rattle.bd_tree.specs.declared.node.Node.TheOpen.{Node-F}
use Rattle.bd_tree.specs.declared.node.Node.TheViews.{out-Node, outs-Step, outs-Block}
use Rattle.bd_tree.specs.Chain.{steps_from}
use Rattle.bd_tree.specs.Convex.{is_member}
use Rattle.bd_tree.specs.Tree.{id_of, ids_of, steps_of, total, find_in, first_some}
use Rattle.bd_tree.specs.WellFormed.{are_distinct}
use Rattle.bd_tree.proofs.NodeLemmas.{Each, by_node, id_of-Step, id_of-Block, steps_of-Step, steps_of-Block}
use Rattle.bd_tree.proofs.TreeLemmas.{find_in-Step, find_in-Block, is_found}
use Rattle.bd_merge.proofs.IdLemmas.{one_if, times, times_in, times_none, times_once, distinct_if, not_true, times_in-Step, times_in-Block, sums-append, sums-nodes, sums-numbered}
use Rattle.bd_merge.proofs.MergeLemmas.{merged_here, merged-Step, merged-Block}
use Rattle.bd_merge.specs.Merged.{goes_first, fronts, backs, merged_kids, merged_places, merged_order, merged_block, merged, AddsUp}
use Rattle.bd_merge.specs.Stands.{IsAmong, AreAmong, AreKids, IsThere}
use Rattle.bd_merge.specs.declared.window.Window.{Window}

-- three parts of the kids have as much as all
module _ (g : ℕ × Node → ℕ) where
  three_step : (b d : Bool) (k : ℕ × Node) (xs ys zs : List (ℕ × Node)) (n : ℕ) → total (map g xs) + total (map g ys) + total (map g zs) ≡ n →
      total (map g (cond (not b && d) (k ∷ xs) xs)) + total (map g (cond (not b && not d) (k ∷ ys) ys)) + total (map g (cond b (k ∷ zs) zs)) ≡ g k + n
  three_step true true k xs ys zs n e = omega (arith, e)
  three_step true false k xs ys zs n e = omega (arith, e)
  three_step false true k xs ys zs n e = omega (arith, e)
  three_step false false k xs ys zs n e = omega (arith, e)

  sums_parted : (m c : ℕ × Node → Bool) (ks : List (ℕ × Node)) →
      total (map g (filter (λ k. not (m k) && c k) ks)) + total (map g (filter (λ k. not (m k) && not (c k)) ks)) + total (map g (filter m ks)) ≡ total (map g ks)
  sums_parted m c [] = omega arith
  sums_parted m c (k ∷ ks) = three_step (m k) (c k) k (filter (λ k. not (m k) && c k) ks) (filter (λ k. not (m k) && not (c k)) ks) (filter m ks) (total (map g ks)) (sums_parted m c ks)

-- what the kids with these ids have
module _ (g : Node → ℕ) where
  abbrev taken : List ℕ → List Node → ℕ
  taken ids [] = 0
  taken ids (k ∷ ks) = cond (has ids (id_of k)) (g k) 0 + taken ids ks

  if_taken : (b : Bool) (k : ℕ × Node) (ks : List (ℕ × Node)) → total (map (λ (k : ℕ × Node). g k.1) (cond b (k ∷ ks) ks)) ≡ cond b (g k.1) 0 + total (map (λ (k : ℕ × Node). g k.1) ks)
  if_taken true k ks = refl
  if_taken false k ks = omega arith

  members_taken : (ids : List ℕ) (j : ℕ) (kids : List Node) → total (map (λ (k : ℕ × Node). g k.1) (filter (is_member ids) (enumerate_from j kids))) ≡ taken ids kids
  members_taken ids j [] = refl
  members_taken ids j (k ∷ ks) =
      if_taken (has ids (id_of k)) (j, k) (filter (is_member ids) (enumerate_from (j + 1) ks))
      ∙ ap (λ z. cond (has ids (id_of k)) (g k) 0 + z) (members_taken ids (j + 1) ks)

  taken_none : (kids : List Node) → taken [] kids ≡ 0
  taken_none [] = refl
  taken_none (k ∷ ks) = omega (arith, taken_none ks)

  more_step : (b h : Bool) (v : ℕ) → (b ≡ true → h ≡ false) → cond (b || h) v 0 ≡ cond (b || false) v 0 + cond h v 0
  more_step true true v f = absurd (let e : true ≡ false = f refl in cc)
  more_step true false v f = omega arith
  more_step false true v f = omega arith
  more_step false false v f = omega arith

  taken_more : (i : ℕ) (ids : List ℕ) → has ids i ≡ false → (kids : List Node) → taken (i ∷ ids) kids ≡ taken (i ∷ []) kids + taken ids kids
  taken_more i ids h [] = refl
  taken_more i ids h (k ∷ ks) =
      omega (arith, more_step (eqb i (id_of k)) (has ids (id_of k)) (g k) (λ e. ap (has ids) (sym (eqb-true i (id_of k) e)) ∙ h), taken_more i ids h ks)

  taken_absent : (i : ℕ) (kids : List Node) → has (map id_of kids) i ≡ false → taken (i ∷ []) kids ≡ 0
  taken_absent i [] h = refl
  taken_absent i (k ∷ ks) h = elim (cases_eq (id_of k) i) [
    | inl e ↦ absurd (let t : true ≡ false = sym (or_left (eqb (id_of k) i) (has (map id_of ks) i) (eq-eqb (id_of k) i e)) ∙ h in cc)
    | inr ne ↦
        let rest : has (map id_of ks) i ≡ false = sym (ap (λ z. z || has (map id_of ks) i) (ne_eqb (id_of k) i ne)) ∙ h in
        let here : eqb i (id_of k) ≡ false = ne_eqb i (id_of k) (λ e. ne (sym e)) in
        omega (arith, ap (λ z. cond (z || false) (g k) 0) here, taken_absent i ks rest)
  ]

  among_has : (kids : List Node) (w : Node) → IsAmong kids w → has (map id_of kids) (id_of w) ≡ true
  among_has [] w a = absurd a
  among_has (k ∷ ks) w (inl same) = or_left _ _ (eq-eqb (id_of k) (id_of w) (ap id_of same))
  among_has (k ∷ ks) w (inr later) = or_right _ _ (among_has ks w later)

  taken_one : (kids : List Node) (w : Node) → are_distinct (map id_of kids) ≡ true → IsAmong kids w → taken (id_of w ∷ []) kids ≡ g w
  taken_one [] w d a = absurd a
  taken_one (k ∷ ks) w d (inl same) =
      let parts = and_parts (not (has (map id_of ks) (id_of k))) (are_distinct (map id_of ks)) d in
      let none : has (map id_of ks) (id_of w) ≡ false = ap (λ z. has (map id_of ks) (id_of z)) (sym same) ∙ not_true (has (map id_of ks) (id_of k)) parts.0 in
      let here : eqb (id_of w) (id_of k) ≡ true = eq-eqb (id_of w) (id_of k) (ap id_of (sym same)) in
      omega (arith, ap (λ z. cond (z || false) (g k) 0) here, taken_absent (id_of w) ks none, ap g same)
  taken_one (k ∷ ks) w d (inr later) =
      let parts = and_parts (not (has (map id_of ks) (id_of k))) (are_distinct (map id_of ks)) d in
      elim (cases_eq (id_of w) (id_of k)) [
        | inl e ↦ absurd (let t : true ≡ false = sym (among_has ks w later) ∙ ap (has (map id_of ks)) e ∙ not_true (has (map id_of ks) (id_of k)) parts.0 in cc)
        | inr ne ↦ omega (arith, ap (λ z. cond (z || false) (g k) 0) (ne_eqb (id_of w) (id_of k) ne), taken_one ks w parts.1 later)
      ]

  taken_all : (kids carried : List Node) → are_distinct (map id_of kids) ≡ true → are_distinct (map id_of carried) ≡ true → AreAmong kids carried → taken (map id_of carried) kids ≡ total (map g carried)
  taken_all kids [] d once a = taken_none kids
  taken_all kids (w ∷ ws) d once a =
      let parts = and_parts (not (has (map id_of ws) (id_of w))) (are_distinct (map id_of ws)) once in
      omega (arith, taken_more (id_of w) (map id_of ws) (not_true (has (map id_of ws) (id_of w)) parts.0) kids, taken_one kids w d a.0, taken_all kids ws d parts.1 a.1)

  -- the new kids and the carried ones together have what the old kids and the new steps have
  exchanged : (window : Window) (list : List ℕ) (next : ℕ) (order : List (ℕ × ℕ)) (kids : List Node) → are_distinct (map id_of kids) ≡ true → AreKids kids window.kids →
      total (map g (merged_kids window list next order (enumerate_from 0 kids))) + total (map g window.kids) ≡ total (map g kids) + total (map g (steps_from next list))
  exchanged window list next order kids d are =
      let all = enumerate_from 0 kids in
      let ids = map id_of window.kids in
      let f = map (λ (k : ℕ × Node). k.1) (fronts window order all) in
      let b = map (λ (k : ℕ × Node). k.1) (backs window order all) in
      let s = steps_from next list in
      let part : total (map (λ (k : ℕ × Node). g k.1) (fronts window order all)) + total (map (λ (k : ℕ × Node). g k.1) (backs window order all)) + total (map (λ (k : ℕ × Node). g k.1) (filter (is_member ids) all)) ≡ total (map (λ (k : ℕ × Node). g k.1) all) =
      sums_parted (λ (k : ℕ × Node). g k.1) (is_member ids) (λ (k : ℕ × Node). goes_first window.lean order ids all k.0) all in
      let one : total (map g ((f ++ s) ++ b)) ≡ total (map g (f ++ s)) + total (map g b) = sums-append g (f ++ s) b in
      let two : total (map g (f ++ s)) ≡ total (map g f) + total (map g s) = sums-append g f s in
      let goal : total (map g ((f ++ s) ++ b)) + total (map g window.kids) ≡ total (map g kids) + total (map g s) =
      omega (arith, part, one, two, sums-nodes g (fronts window order all), sums-nodes g (backs window order all), sums-numbered g 0 kids, members_taken ids 0 kids, taken_all kids window.kids d are.once are.equal) in
      goal

-- an id of the kids of a node that is found is one of the tree's ids, and no more often
module _ (q : ℕ) where
  abbrev HasOwnId : Node → Type 0
  HasOwnId n = one_if (eqb (id_of n) q) ≤ times_in q n

  has_own_id : (n : Node) → HasOwnId n
  has_own_id = by_node HasOwnId
      (λ id a. omega (arith, ap (λ z. one_if (eqb z q)) (id_of-Step id a), times_in-Step q id a))
      (λ id kids order e. omega (arith, ap (λ z. one_if (eqb z q)) (id_of-Block id kids order), times_in-Block q id kids order))

  own_ids : (kids : List Node) → times q (map id_of kids) ≤ total (map (times_in q) kids)
  own_ids [] = omega arith
  own_ids (k ∷ ks) = omega (arith, has_own_id k, own_ids ks)

  module _ (id : ℕ) where
    abbrev IsWithin : Node → Type 0
    IsWithin n = (m : Node) → find_in id n ≡ Some m → times_in q m ≤ times_in q n

    within_step : (own a : ℕ) → IsWithin (Step own a)
    within_step own a m e = elim (cases_eq own id) [
      | inl same ↦
          let is : Some (Step own a) ≡ Some m = sym (find_in-Step id own a ∙ cond-true _ _ _ (eq-eqb own id same)) ∙ e in
          let node : Step own a ≡ m = cc in
          omega (arith, ap (times_in q) node)
      | inr ne ↦
          let is : None ≡ Some m = sym (find_in-Step id own a ∙ cond-false _ _ _ (ne_eqb own id ne)) ∙ e in
          absurd (cc)
    ]

    within_first : (o : Option Node) (rest : List (Option Node)) (here later : ℕ) → ((m : Node) → o ≡ Some m → times_in q m ≤ here) → ((m : Node) → first_some rest ≡ Some m → times_in q m ≤ later) →
        (m : Node) → first_some (o ∷ rest) ≡ Some m → times_in q m ≤ here + later
    within_first None rest here later h hs m e = omega (arith, hs m e)
    within_first (Some n) rest here later h hs m e = omega (arith, h m e)

    within_kids : (kids : List Node) → Each IsWithin kids → (m : Node) → first_some (map (find_in id) kids) ≡ Some m → times_in q m ≤ total (map (times_in q) kids)
    within_kids [] e m is = absurd (cc)
    within_kids (k ∷ ks) e m is = within_first (find_in id k) (map (find_in id) ks) (times_in q k) (total (map (times_in q) ks)) e.0 (within_kids ks e.1) m is

    within_block : (own : ℕ) (kids : List Node) (order : List (ℕ × ℕ)) → Each IsWithin kids → IsWithin (Block own kids order)
    within_block own kids order h m e = elim (cases_eq own id) [
      | inl same ↦
          let is : Some (Block own kids order) ≡ Some m = sym (find_in-Block id own kids order ∙ cond-true _ _ _ (eq-eqb own id same)) ∙ e in
          let node : Block own kids order ≡ m = cc in
          omega (arith, ap (times_in q) node)
      | inr ne ↦
          let is : times_in q m ≤ total (map (times_in q) kids) = within_kids kids h m (sym (find_in-Block id own kids order ∙ cond-false _ _ _ (ne_eqb own id ne)) ∙ e) in
          omega (arith, is, times_in-Block q own kids order)
    ]

    found_within : (n : Node) → IsWithin n
    found_within = by_node IsWithin within_step within_block

pub kids_distinct : (root : Node) (id own : ℕ) (kids : List Node) (order : List (ℕ × ℕ)) → are_distinct (ids_of root) ≡ true → find_in id root ≡ Some (Block own kids order) → are_distinct (map id_of kids) ≡ true
kids_distinct root id own kids order d found = distinct_if (map id_of kids) (λ q.
    let inside : times_in q (Block own kids order) ≤ times_in q root = found_within q id root (Block own kids order) found in
    let once : times_in q root ≤ 1 = times_once q (ids_of root) d in
    omega (arith, inside, once, own_ids q kids, times_in-Block q own kids order))

some_if : (b h : Bool) (n : ℕ) → (b || h) ≡ true → (h ≡ true → 1 ≤ n) → 1 ≤ one_if b + n
some_if true h n e f = omega arith
some_if false h n e f = omega (arith, f e)

times_some : (q : ℕ) (xs : List ℕ) → has xs q ≡ true → 1 ≤ times q xs
times_some q [] h = absurd (cc)
times_some q (x ∷ xs) h = some_if (eqb x q) (has xs q) (times q xs) h (times_some q xs)

module _ (window : Window) (list : List ℕ) (next : ℕ) (g : Node → ℕ) (adds : AddsUp g) where
  abbrev m : Node → Node
  m = merged_here window list next

  abbrev at : Node → ℕ
  at n = times_in window.block n

  no_if : (b : Bool) (n : ℕ) → one_if b + n ≡ 0 → (b ≡ false) × (n ≡ 0)
  no_if true n e = absurd (omega arith)
  no_if false n e = (refl, omega arith)

  abbrev StaysAlike : Node → Type 0
  StaysAlike n = at n ≡ 0 → g (m n) ≡ g n

  alike_kids : (kids : List Node) → Each StaysAlike kids → total (map at kids) ≡ 0 → total (map g (map m kids)) ≡ total (map g kids)
  alike_kids [] e z = refl
  alike_kids (k ∷ ks) e z = omega (arith, e.0 (omega arith), alike_kids ks e.1 (omega arith))

  alike_block : (own : ℕ) (kids : List Node) (order : List (ℕ × ℕ)) → Each StaysAlike kids → StaysAlike (Block own kids order)
  alike_block own kids order e z =
      let parts = no_if (eqb own window.block) (total (map at kids)) (sym (times_in-Block window.block own kids order) ∙ z) in
      ap g (merged-Block window list next own kids order ∙ cond-false _ _ _ parts.0)
      ∙ adds own (map m kids) order
      ∙ alike_kids kids e parts.1
      ∙ sym (adds own kids order)

  stays_alike : (n : Node) → StaysAlike n
  stays_alike = by_node StaysAlike (λ own a z. ap g (merged-Step window list next own a)) alike_block

  all_alike : (kids : List Node) → Each StaysAlike kids
  all_alike [] = tt
  all_alike (k ∷ ks) = (stays_alike k, all_alike ks)

  module _ (loss gain : ℕ) (kids : List Node) (order : List (ℕ × ℕ)) (here : g (merged_block window list next window.block kids order) + loss ≡ total (map g kids) + gain) where
    abbrev block : Node
    block = Block window.block kids order

    abbrev Changes : Node → Type 0
    Changes n = at n ≤ 1 → find_in window.block n ≡ Some block → g (m n) + loss ≡ g n + gain

    changes_step : (own a : ℕ) → Changes (Step own a)
    changes_step own a once e = elim (cases_eq own window.block) [
      | inl same ↦
          let is : Some (Step own a) ≡ Some block = sym (find_in-Step window.block own a ∙ cond-true _ _ _ (eq-eqb own window.block same)) ∙ e in
          let node : Step own a ≡ block = cc in
          let layer : Node-F.Step own a ≡ Node-F.Block window.block kids order = sym (outs-Step own a) ∙ ap out-Node node ∙ outs-Block window.block kids order in
          absurd (cc)
      | inr ne ↦
          let is : None ≡ Some block = sym (find_in-Step window.block own a ∙ cond-false _ _ _ (ne_eqb own window.block ne)) ∙ e in
          absurd (cc)
    ]

    -- a kid in which the block is, or isn't, and the kids behind it
    changes_first : (k : Node) (ks : List Node) (o : Option Node) → find_in window.block k ≡ o → Changes k → (total (map at ks) ≤ 1 → first_some (map (find_in window.block) ks) ≡ Some block → total (map g (map m ks)) + loss ≡ total (map g ks) + gain) →
        at k + total (map at ks) ≤ 1 → first_some (o ∷ map (find_in window.block) ks) ≡ Some block → g (m k) + total (map g (map m ks)) + loss ≡ g k + total (map g ks) + gain
    changes_first k ks None o here_k later once e =
        let none : has (ids_of k) window.block ≡ false = sym (is_found window.block k) ∙ ap is_some o in
        let alike : g (m k) ≡ g k = stays_alike k (times_none window.block (ids_of k) none) in
        omega (arith, alike, later (omega arith) e)
    changes_first k ks (Some n) o here_k later once e =
        let some : has (ids_of k) window.block ≡ true = sym (is_found window.block k) ∙ ap is_some o in
        let one : 1 ≤ at k = times_some window.block (ids_of k) some in
        let changed : g (m k) + loss ≡ g k + gain = here_k (omega arith) (o ∙ e) in
        let rest : total (map g (map m ks)) ≡ total (map g ks) = alike_kids ks (all_alike ks) (omega arith) in
        omega (arith, changed, rest)

    changes_kids : (ks : List Node) → Each Changes ks → total (map at ks) ≤ 1 → first_some (map (find_in window.block) ks) ≡ Some block → total (map g (map m ks)) + loss ≡ total (map g ks) + gain
    changes_kids [] e once is = absurd (cc)
    changes_kids (k ∷ ks) e once is = changes_first k ks (find_in window.block k) refl e.0 (changes_kids ks e.1) once is

    changes_block : (own : ℕ) (ks : List Node) (o : List (ℕ × ℕ)) → Each Changes ks → Changes (Block own ks o)
    changes_block own ks o h once e = elim (cases_eq own window.block) [
      | inl same ↦
          let is : Some (Block own ks o) ≡ Some block = sym (find_in-Block window.block own ks o ∙ cond-true _ _ _ (eq-eqb own window.block same)) ∙ e in
          let node : Block own ks o ≡ block = cc in
          let new : g (m (Block own ks o)) ≡ g (merged_block window list next window.block kids order) =
          ap (λ (z : Node). g (m z)) node ∙ ap g (merged-Block window list next window.block kids order ∙ cond-true _ _ _ (eq-eqb window.block window.block refl)) in
          let old : g (Block own ks o) ≡ total (map g kids) = ap g node ∙ adds window.block kids order in
          omega (arith, new, old, here)
      | inr ne ↦
          let f : eqb own window.block ≡ false = ne_eqb own window.block ne in
          let new : g (m (Block own ks o)) ≡ total (map g (map m ks)) = ap g (merged-Block window list next own ks o ∙ cond-false _ _ _ f) ∙ adds own (map m ks) o in
          let few : at (Block own ks o) ≡ total (map at ks) = omega (arith, times_in-Block window.block own ks o, ap one_if f) in
          let all : total (map g (map m ks)) + loss ≡ total (map g ks) + gain = changes_kids ks h (omega (arith, few, once)) (sym (find_in-Block window.block own ks o ∙ cond-false _ _ _ f) ∙ e) in
          omega (arith, new, adds own ks o, all)
    ]

    changes : (n : Node) → Changes n
    changes = by_node Changes changes_step changes_block

  -- a measure of the merged tree
  pub merged_adds : (root : Node) → are_distinct (ids_of root) ≡ true → IsThere root window → g (merged root window list next) + total (map g window.kids) ≡ g root + total (map g (steps_from next list))
  merged_adds root d there =
      let new = merged_kids window list next there.order (enumerate_from 0 there.kids) in
      let pairs = merged_order there.order (merged_places window list there.order (enumerate_from 0 there.kids)) in
      let block_is : g (merged_block window list next window.block there.kids there.order) ≡ total (map g new) = adds window.block new pairs in
      let parted : total (map g new) + total (map g window.kids) ≡ total (map g there.kids) + total (map g (steps_from next list)) =
      exchanged g window list next there.order there.kids (kids_distinct root window.block window.block there.kids there.order d there.found) there.carried in
      let here : g (merged_block window list next window.block there.kids there.order) + total (map g window.kids) ≡ total (map g there.kids) + total (map g (steps_from next list)) = omega (arith, block_is, parted) in
      changes (total (map g window.kids)) (total (map g (steps_from next list))) there.kids there.order here root (times_once window.block (ids_of root) d) there.found

each_a_step : (m : ℕ) (list : List ℕ) → total (map steps_of (steps_from m list)) ≡ length list
each_a_step m [] = refl
each_a_step m (a ∷ list) = omega (arith, steps_of-Step m a, each_a_step (m + 1) list)

pub merged_steps : (window : Window) (list : List ℕ) (next : ℕ) (root : Node) → are_distinct (ids_of root) ≡ true → IsThere root window → steps_of (merged root window list next) + total (map steps_of window.kids) ≡ steps_of root + length list
merged_steps window list next root d there = omega (arith, merged_adds window list next steps_of steps_of-Block root d there, each_a_step next list)
