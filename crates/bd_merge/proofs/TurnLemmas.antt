-- Where each kid is before all later ones: which kids go in front of a window, and that the new order is total too.
use Rattle.std.proofs.Common.{◌≡◌, ℕ, zero, suc, ◌+◌, ◌-◌, ◌<◌, ◌≤◌, Bool, true, false, not, ◌&&◌, ◌||◌, ltb, cond, List, [], ◌∷◌, ◌++◌, length, map, filter, take, drop, Option, Some, None, slice_get, refl, sym, ap, ◌∙◌, arith}
use Rattle.std.specs.Option.{is_some}
use Rattle.std.specs.List.{list_any, list_all, enumerate_from}
use Rattle.std.proofs.lemmas.Bool.{and_parts, and_from, and_right, lt-ltb, ltb-true}
use Rattle.std.proofs.lemmas.List.{length-take, length-drop}
use Rattle.std.proofs.lemmas.List.Folds.{list_all-append}
use Rattle.bd_base.specs.Facts.{has}
use Rattle.bd_base.specs.Pairs.{is_before, total_order}
use Rattle.bd_tree.specs.declared.node.Node.{Node}
use Rattle.bd_tree.specs.Convex.{is_member, is_after_some, is_before_some, has_member, SpansMembers}
use Rattle.bd_tree.specs.Order.{is_within}
use Rattle.bd_tree.specs.Tree.{id_of}
use Rattle.bd_tree.proofs.ConvexLemmas.{any_split, none_at}
use Rattle.bd_tree.proofs.OrderLemmas.{all_weaker, turn_has, total_is_order, not_before}
use Rattle.bd_merge.specs.FrontEnd.{EndsFronts, IsFrontEnd}
use Rattle.bd_merge.specs.Merged.{goes_first, fronts, backs, is_front, is_back, merged_places, is_ordered, are_ordered, is_kept, merged_order}
use Rattle.bd_merge.specs.Starts.{AreListed, is_old_below, stand_in_turn}
use Rattle.bd_merge.specs.declared.merging.Place.{Place}
use Rattle.bd_merge.specs.declared.merging.Place.TheVariants.{Front, New, Back}
use Rattle.bd_merge.specs.declared.window.Lean.{Lean}
use Rattle.bd_merge.specs.declared.window.Lean.TheVariants.{Early, Late}
use Rattle.bd_merge.specs.declared.window.Window.{Window}

and_true : (b : Bool) → (b && true) ≡ b
and_true true = refl
and_true false = refl

-- some of the kids is a member, where the other test passes at each of their positions
any_member : (ids : List ℕ) (f : ℕ → Bool) (kids : List Node) (n : ℕ) → ((k : ℕ) → n ≤ k → k < n + length kids → f k ≡ true) → list_any (λ k. is_member ids k && f k.0) (enumerate_from n kids) ≡ has_member ids kids
any_member ids f [] n h = refl
any_member ids f (k ∷ ks) n h =
    ap (λ z. (has ids (id_of k) && z) || list_any (λ k. is_member ids k && f k.0) (enumerate_from (n + 1) ks)) (h n (omega arith) (omega arith))
    ∙ ap (λ z. z || list_any (λ k. is_member ids k && f k.0) (enumerate_from (n + 1) ks)) (and_true (has ids (id_of k)))
    ∙ ap (λ z. has ids (id_of k) || z) (any_member ids f ks (n + 1) (λ i le lt. h i (omega arith) (omega arith)))

module _ (n : ℕ) where
  total_has : (i j : ℕ) → i < j → j < n → is_before (total_order n) i j ≡ true
  total_has i j lt below = turn_has 0 n i j (omega arith) lt (omega arith)

  total_has_not : (i j : ℕ) → j ≤ i → is_before (total_order n) i j ≡ false
  total_has_not i j le = not_before n (total_order n) i j (total_is_order n) le

module _ (ids : List ℕ) (kids : List Node) (j : ℕ) (lt : j < length kids) where
  abbrev order : List (ℕ × ℕ)
  order = total_order (length kids)

  abbrev leads : ℕ × Node → Bool
  leads k = is_member ids k && is_before order k.0 j

  abbrev follows : ℕ × Node → Bool
  follows k = is_member ids k && is_before order j k.0

  -- a position is after some member where one of the earlier kids is a member
  after_earlier : is_after_some order ids (enumerate_from 0 kids) j ≡ has_member ids (take j kids)
  after_earlier =
      let late : list_any leads (enumerate_from j (drop j kids)) ≡ false =
      none_at leads (drop j kids) j (λ k kid from below. and_right _ _ (total_has_not (length kids) k j from)) in
      any_split leads kids 0 j j (omega arith) (omega arith)
      ∙ ap (λ z. list_any leads (enumerate_from 0 (take j kids)) || z) late
      ∙ or_none (list_any leads (enumerate_from 0 (take j kids)))
      ∙ any_member ids (λ i. is_before order i j) (take j kids) 0 (λ k from below. total_has (length kids) k j (omega (arith, length-take j kids)) lt)
    where
      or_none : (b : Bool) → (b || false) ≡ b
      or_none true = refl
      or_none false = refl

  -- a position is before some member where one of the later kids is a member
  before_later : is_before_some order ids (enumerate_from 0 kids) j ≡ has_member ids (drop (j + 1) kids)
  before_later =
      let early : list_any follows (enumerate_from 0 (take (j + 1) kids)) ≡ false =
      none_at follows (take (j + 1) kids) 0 (λ k kid from below. and_right _ _ (total_has_not (length kids) j k (omega (arith, length-take (j + 1) kids)))) in
      any_split follows kids 0 (j + 1) (j + 1) (omega arith) (omega arith)
      ∙ ap (λ z. z || list_any follows (enumerate_from (j + 1) (drop (j + 1) kids))) early
      ∙ any_member ids (λ i. is_before order j i) (drop (j + 1) kids) (j + 1) (λ k from below. total_has (length kids) j k (omega arith) (omega (arith, length-drop (j + 1) kids)))

not_later : (first j : ℕ) → not (ltb first j) ≡ ltb j (first + 1)
not_later first j = grind arith

one_later : (j past : ℕ) → ltb (j + 1) past ≡ ltb j (past - 1)
one_later j past = grind arith

module _ (order : List (ℕ × ℕ)) (ids : List ℕ) (kids : List Node) (first past : ℕ) (total : order ≡ total_order (length kids)) (span : SpansMembers ids kids first past) (j : ℕ) (lt : j < length kids) where
  early_end : not (is_after_some order ids (enumerate_from 0 kids) j) ≡ ltb j (first + 1)
  early_end =
      ap (λ z. not (is_after_some z ids (enumerate_from 0 kids) j)) total
      ∙ ap not (after_earlier ids kids j lt ∙ span.before j (omega arith))
      ∙ not_later first j

  late_end : is_before_some order ids (enumerate_from 0 kids) j ≡ ltb j (past - 1)
  late_end =
      ap (λ z. is_before_some z ids (enumerate_from 0 kids) j) total
      ∙ before_later ids kids j lt
      ∙ span.behind (j + 1)
      ∙ one_later j past

-- the end of the kids in front, by the span of the window's members
module _ (window : Window) (order : List (ℕ × ℕ)) (kids : List Node) (first past : ℕ) (ids : List ℕ) (named : ids ≡ map id_of window.kids) (total : order ≡ total_order (length kids)) (span : SpansMembers ids kids first past) where
  abbrev in_front : Lean → List ℕ → ℕ → Bool
  in_front lean ids j = goes_first lean order ids (enumerate_from 0 kids) j

  pub ends_early : window.lean ≡ Early → EndsFronts window order kids (first + 1)
  ends_early is = record {
    total = total;
    first = λ j lt. ap (λ z. in_front z (map id_of window.kids) j) is ∙ ap (λ z. in_front Early z j) (sym named) ∙ early_end order ids kids first past total span j lt;
  }

  pub ends_late : window.lean ≡ Late → EndsFronts window order kids (past - 1)
  ends_late is = record {
    total = total;
    first = λ j lt. ap (λ z. in_front z (map id_of window.kids) j) is ∙ ap (λ z. in_front Late z j) (sym named) ∙ late_end order ids kids first past total span j lt;
  }

-- an end is told only where the order is total
pub total_where_told : (window : Window) (order : List (ℕ × ℕ)) (kids : List Node) (end : Option ℕ) → IsFrontEnd window order kids end → is_some end ≡ true → order ≡ total_order (length kids)
total_where_told window order kids None is e = absurd (cc)
total_where_told window order kids (Some end) is e = is.total

-- what stands in order, each before all later ones
module _ (order : List (ℕ × ℕ)) where
  turn-append : (xs ys : List Place) → stand_in_turn order xs ≡ true → stand_in_turn order ys ≡ true → list_all (λ x. list_all (is_ordered order x) ys) xs ≡ true → stand_in_turn order (xs ++ ys) ≡ true
  turn-append [] ys a b c = b
  turn-append (x ∷ xs) ys a b c =
      let p = and_parts (list_all (is_ordered order x) xs) (stand_in_turn order xs) a in
      let q = and_parts (list_all (is_ordered order x) ys) (list_all (λ x. list_all (is_ordered order x) ys) xs) c in
      and_from _ _ (list_all-append (is_ordered order x) xs ys ∙ and_from _ _ p.0 q.0) (turn-append xs ys p.1 b q.1)

  later_ordered : (p : Place) (ps : List Place) (j : ℕ) → list_all (is_ordered order p) ps ≡ true → j < length ps → are_ordered order (Some p) (slice_get ps j) ≡ true
  later_ordered p [] j a lt = absurd (omega arith)
  later_ordered p (q ∷ ps) zero a lt = (and_parts (is_ordered order p q) (list_all (is_ordered order p) ps) a).0
  later_ordered p (q ∷ ps) (suc j) a lt = later_ordered p ps j (and_parts (is_ordered order p q) (list_all (is_ordered order p) ps) a).1 (omega arith)

  pub two_ordered : (places : List Place) (i j : ℕ) → stand_in_turn order places ≡ true → i < j → j < length places → are_ordered order (slice_get places i) (slice_get places j) ≡ true
  two_ordered [] i j a lt below = absurd (omega arith)
  two_ordered (p ∷ ps) i zero a lt below = absurd (omega arith)
  two_ordered (p ∷ ps) zero (suc j) a lt below = later_ordered p ps j (and_parts (list_all (is_ordered order p) ps) (stand_in_turn order ps) a).0 (omega arith)
  two_ordered (p ∷ ps) (suc i) (suc j) a lt below = two_ordered ps i j (and_parts (list_all (is_ordered order p) ps) (stand_in_turn order ps) a).1 (omega arith) (omega arith)

  all_stay : (t : ℕ × ℕ → Bool) (ps : List (ℕ × ℕ)) → list_all t ps ≡ true → filter t ps ≡ ps
  all_stay t [] a = refl
  all_stay t (p ∷ ps) a =
      let parts = and_parts (t p) (list_all t ps) a in
      ap (λ b. cond b (p ∷ filter t ps) (filter t ps)) parts.0 ∙ ap (λ z. p ∷ z) (all_stay t ps parts.1)

  -- then all pairs are kept
  kept_in_turn : (places : List Place) → stand_in_turn order places ≡ true → merged_order order places ≡ total_order (length places)
  kept_in_turn places a =
      let n = length places in
      all_stay (is_kept order places) (total_order n)
      (all_weaker (is_within n) (is_kept order places)
      (λ p w. let parts = and_parts (ltb p.0 p.1) (ltb p.1 n) w in two_ordered places p.0 p.1 a (ltb-true _ _ parts.0) (ltb-true _ _ parts.1))
      (total_order n) (and_parts _ _ (and_parts _ _ (total_is_order n)).0).0)

  all_map : {X : Type 0} (t : Place → Bool) (f : X → Place) → ((x : X) → t (f x) ≡ true) → (xs : List X) → list_all t (map f xs) ≡ true
  all_map t f h [] = refl
  all_map t f h (x ∷ xs) = and_from _ _ (h x) (all_map t f h xs)

  news_in_turn : (list : List ℕ) → stand_in_turn order (map (λ a. New) list) ≡ true
  news_in_turn [] = refl
  news_in_turn (a ∷ list) = and_from _ _ (all_map (is_ordered order New) (λ (a : ℕ). New) (λ a. refl) list) (news_in_turn list)

  -- kids of one side, listed by their positions
  module _ (g : ℕ → Place) (n : ℕ) (up : (i j : ℕ) → i < j → j < n → is_ordered order (g i) (g j) ≡ true) (t : ℕ × Node → Bool) where
    abbrev side : ℕ → List Node → List Place
    side m kids = map (λ (k : ℕ × Node). g k.0) (filter t (enumerate_from m kids))

    row_if : (b : Bool) (i : ℕ) (k : ℕ × Node) (ks : List (ℕ × Node)) → is_ordered order (g i) (g k.0) ≡ true → list_all (is_ordered order (g i)) (map (λ (k : ℕ × Node). g k.0) ks) ≡ true →
        list_all (is_ordered order (g i)) (map (λ (k : ℕ × Node). g k.0) (cond b (k ∷ ks) ks)) ≡ true
    row_if true i k ks e a = and_from _ _ e a
    row_if false i k ks e a = a

    side_row : (i m : ℕ) (kids : List Node) → i < m → m + length kids ≤ n → list_all (is_ordered order (g i)) (side m kids) ≡ true
    side_row i m [] lt le = refl
    side_row i m (k ∷ ks) lt le = row_if (t (m, k)) i (m, k) (filter t (enumerate_from (m + 1) ks)) (up i m lt (omega arith)) (side_row i (m + 1) ks (omega arith) (omega arith))

    turn_if : (b : Bool) (k : ℕ × Node) (ks : List (ℕ × Node)) → list_all (is_ordered order (g k.0)) (map (λ (k : ℕ × Node). g k.0) ks) ≡ true → stand_in_turn order (map (λ (k : ℕ × Node). g k.0) ks) ≡ true →
        stand_in_turn order (map (λ (k : ℕ × Node). g k.0) (cond b (k ∷ ks) ks)) ≡ true
    turn_if true k ks e a = and_from _ _ e a
    turn_if false k ks e a = a

    side_in_turn : (m : ℕ) (kids : List Node) → m + length kids ≤ n → stand_in_turn order (side m kids) ≡ true
    side_in_turn m [] le = refl
    side_in_turn m (k ∷ ks) le = turn_if (t (m, k)) (m, k) (filter t (enumerate_from (m + 1) ks)) (side_row m (m + 1) ks (omega arith) (omega arith)) (side_in_turn (m + 1) ks (omega arith))

-- the kids of each side of a merged block rise by their old positions
module _ (window : Window) (list : List ℕ) (order : List (ℕ × ℕ)) (kids : List Node) where
  abbrev n : ℕ
  n = length kids

  abbrev all : List (ℕ × Node)
  all = enumerate_from 0 kids

  abbrev turn : List (ℕ × ℕ)
  turn = total_order n

  merged_turn : stand_in_turn turn (merged_places window list order all) ≡ true
  merged_turn =
      let fs = fronts window order all in
      let bs = backs window order all in
      let fp : List Place = map (λ (k : ℕ × Node). Front k.0) fs in
      let np : List Place = map (λ (a : ℕ). New) list in
      let bp : List Place = map (λ (k : ℕ × Node). Back k.0) bs in
      let up : (i j : ℕ) → i < j → j < n → is_before turn i j ≡ true = total_has n in
      let front_turn : stand_in_turn turn fp ≡ true = side_in_turn turn (λ i. Front i) n up (is_front window order all) 0 kids (omega arith) in
      let back_turn : stand_in_turn turn bp ≡ true = side_in_turn turn (λ i. Back i) n up (is_back window order all) 0 kids (omega arith) in
      let front_new : list_all (λ x. list_all (is_ordered turn x) np) fp ≡ true =
      all_map turn (λ x. list_all (is_ordered turn x) np) (λ (k : ℕ × Node). Front k.0) (λ k. all_map turn (is_ordered turn (Front k.0)) (λ (a : ℕ). New) (λ a. refl) list) fs in
      let front_back : list_all (λ x. list_all (is_ordered turn x) bp) fp ≡ true =
      all_map turn (λ x. list_all (is_ordered turn x) bp) (λ (k : ℕ × Node). Front k.0) (λ k. all_map turn (is_ordered turn (Front k.0)) (λ (k : ℕ × Node). Back k.0) (λ a. refl) bs) fs in
      let new_back : list_all (λ x. list_all (is_ordered turn x) bp) np ≡ true =
      all_map turn (λ x. list_all (is_ordered turn x) bp) (λ (a : ℕ). New) (λ a. all_map turn (is_ordered turn New) (λ (k : ℕ × Node). Back k.0) (λ k. refl) bs) list in
      let ahead : stand_in_turn turn (fp ++ np) ≡ true = turn-append turn fp np front_turn (news_in_turn turn list) front_new in
      let across : list_all (λ x. list_all (is_ordered turn x) bp) (fp ++ np) ≡ true = list_all-append (λ x. list_all (is_ordered turn x) bp) fp np ∙ and_from _ _ front_back new_back in
      turn-append turn (fp ++ np) bp ahead back_turn across

  -- kids of one side have positions of the block
  module _ (g : ℕ → Place) (held : (i : ℕ) → i < n → is_old_below n (g i) ≡ true) (t : ℕ × Node → Bool) where
    below_if : (b : Bool) (k : ℕ × Node) (ks : List (ℕ × Node)) → is_old_below n (g k.0) ≡ true → list_all (is_old_below n) (map (λ (k : ℕ × Node). g k.0) ks) ≡ true → list_all (is_old_below n) (map (λ (k : ℕ × Node). g k.0) (cond b (k ∷ ks) ks)) ≡ true
    below_if true k ks e a = and_from _ _ e a
    below_if false k ks e a = a

    side_below : (m : ℕ) (kids : List Node) → m + length kids ≤ n → list_all (is_old_below n) (map (λ (k : ℕ × Node). g k.0) (filter t (enumerate_from m kids))) ≡ true
    side_below m [] le = refl
    side_below m (k ∷ ks) le = below_if (t (m, k)) (m, k) (filter t (enumerate_from (m + 1) ks)) (held m (omega arith)) (side_below (m + 1) ks (omega arith))

  merged_below : list_all (is_old_below n) (merged_places window list order all) ≡ true
  merged_below =
      let fp : List Place = map (λ (k : ℕ × Node). Front k.0) (fronts window order all) in
      let np : List Place = map (λ (a : ℕ). New) list in
      let bp : List Place = map (λ (k : ℕ × Node). Back k.0) (backs window order all) in
      list_all-append (is_old_below n) (fp ++ np) bp
      ∙ and_from _ _
      (list_all-append (is_old_below n) fp np
      ∙ and_from _ _ (side_below (λ i. Front i) (λ i lt. lt-ltb i n lt) (is_front window order all) 0 kids (omega arith)) (all_map turn (is_old_below n) (λ (a : ℕ). New) (λ a. refl) list))
      (side_below (λ i. Back i) (λ i lt. lt-ltb i n lt) (is_back window order all) 0 kids (omega arith))

  pub merged_listed : AreListed n (merged_places window list order all)
  merged_listed = record { turn = merged_turn; below = merged_below }

-- the new order of a block whose kids are in turn is total
pub merged_in_turn : (window : Window) (list : List ℕ) (order : List (ℕ × ℕ)) (kids : List Node) → order ≡ total_order (length kids) →
    merged_order order (merged_places window list order (enumerate_from 0 kids)) ≡ total_order (length (merged_places window list order (enumerate_from 0 kids)))
merged_in_turn window list order kids total =
    let places = merged_places window list order (enumerate_from 0 kids) in
    kept_in_turn order places (ap (λ z. stand_in_turn z places) total ∙ (merged_listed window list order kids).turn)
