-- Where kids of a block of a sound tree are grouped, the tree is sound still.
use Rattle.std.proofs.Common.{◌≡◌, ℕ, ◌+◌, ◌<◌, Bool, true, false, not, ◌&&◌, List, [], ◌∷◌, ◌++◌, map, filter, length, Option, Some, slice_get, refl, sym, ap, ◌∙◌, ◌⊎◌, inl, inr, subst, arith}
use Rattle.std.specs.List.{list_all, enumerate_from}
use Rattle.std.specs.Option.{option_map_or}
use Rattle.std.proofs.lemmas.Bool.{and_parts, and_from, both_ways, cases_Bool, not-true, or_cases, or_left}
use Rattle.std.proofs.lemmas.List.{length-map}
use Rattle.bd_base.specs.Facts.{has, is_subset}
use Rattle.bd_base.specs.Pairs.{is_before}
use Rattle.bd_task.specs.declared.ground.Action.{Action}
use Rattle.bd_task.specs.TaskView.{TaskView}
use Rattle.bd_tree.specs.declared.node.Node.{Node, Block}
use Rattle.bd_tree.specs.declared.node.Node.TheViews.{outs-Block}
use Rattle.bd_tree.specs.Convex.{is_member, is_after_some, is_before_some, is_aside, are_convex, convex_in_layer, is_convex_in}
use Rattle.bd_tree.specs.Order.{is_order}
use Rattle.bd_tree.specs.Tree.{id_of}
use Rattle.bd_tree.specs.WellFormed.{IsWellFormed, has_orders}
use Rattle.bd_tree.proofs.NodeLemmas.{has_orders-Block}
use Rattle.bd_links.proofs.Members.{In, here, there, any_some, some_any, all_at}
use Rattle.bd_links.specs.Sound.{IsSound}
use Rattle.bd_shape.specs.Grouped.{CanGroup, is_front, is_back, fronts, backs, grouped_kids, grouped_places, is_ordered, are_ordered, grouped_order, grouped_block, grouped}
use Rattle.bd_shape.specs.Kids.{kids_at}
use Rattle.bd_shape.specs.Restricted.{members, are_before, restricted_order, restricted_block}
use Rattle.bd_shape.specs.declared.place.Place.{Place}
use Rattle.bd_shape.specs.declared.place.Place.TheVariants.{Outside, Group}
use Rattle.bd_shape.proofs.ApartLemmas.{grouped_apart}
use Rattle.bd_shape.proofs.ExactLemmas.{grouped_exact, restricted_exact, Stands, front, group, back, located}
use Rattle.bd_shape.proofs.KidLemmas.{IsThere, is_there}
use Rattle.bd_tight.specs.Better.{StandsBetter}
use Rattle.bd_tight.specs.Path.{lifted}
use Rattle.bd_tight.specs.Touch.{Touch, Toucher, Before, row_touch, row_fine, Standing, rows, standing_of}
use Rattle.bd_tight.proofs.BetterLemmas.{lifted_better, sound_better}
use Rattle.bd_tight.proofs.CandidateLemmas.{in_append_left, in_append_right, in_filter}
use Rattle.bd_tight.proofs.GroupRow.{Corresponds, Member, Stayed, inner_fine, outer_fine, outer_better}
use Rattle.bd_tight.proofs.KidLemmas.{in_numbered, numbered_in}
use Rattle.bd_tight.proofs.ListLemmas.{map_in}
use Rattle.bd_tight.proofs.PairExact.{orders_below}
use Rattle.bd_tight.proofs.PathLemmas.{SharesWay, the_way, standing_filled}
use Rattle.bd_tight.proofs.StandingLemmas.{standing_of-Block, sound_for_each, sound_where_each}
use Rattle.bd_tight.proofs.PlaceLemmas.{in_place, place_in, place_map, map_place, filter_in, once_from, apart_once}

module _ (actions : List Action) (p : ℕ) where
  abbrev stands : Node → Standing
  stands n = standing_of actions p n

  rows_in : (ns : List Node) (q : ℕ) (n : Node) → slice_get ns q ≡ Some n → In (q, (stands n).touch) (rows (map stands ns))
  rows_in ns q n e =
      let z : 0 + q ≡ q = omega arith in
      subst (λ w. In (w, (stands n).touch) (rows (map stands ns))) z
      (numbered_in 0 (map (λ (k : Standing). k.touch) (map stands ns)) q (stands n).touch (place_map (λ (k : Standing). k.touch) (map stands ns) q (stands n) (place_map stands ns q n e)))

  rows_out : (ns : List Node) (x : Toucher) → In x (rows (map stands ns)) → (n : Node) × (slice_get ns x.0 ≡ Some n) × (x.1 ≡ (stands n).touch)
  rows_out ns x i =
      let r = in_numbered 0 (map (λ (k : Standing). k.touch) (map stands ns)) x i in
      let at : r.0 ≡ x.0 = omega (arith, r.1) in
      let s = map_place (λ (k : Standing). k.touch) (map stands ns) r.0 x.1 r.2 in
      let n = map_place stands ns r.0 s.0 s.1 in
      (n.0, ap (slice_get ns) (sym at) ∙ n.1, s.2 ∙ ap (λ (k : Standing). k.touch) n.2)

  module _ (ids : List ℕ) (own fresh : ℕ) (kids : List Node) (order : List (ℕ × ℕ)) (is : is_order (length kids) order ≡ true) (convex : are_convex order ids (enumerate_from 0 kids) ≡ true) where
    abbrev all : List (ℕ × Node)
    all = enumerate_from 0 kids

    abbrev fs : List (ℕ × Node)
    fs = fronts ids order all

    abbrev bs : List (ℕ × Node)
    bs = backs ids order all

    abbrev ms : List (ℕ × Node)
    ms = members ids all

    abbrev olds : List ℕ
    olds = map (λ k. k.0) ms

    abbrev the_group : Node
    the_group = restricted_block fresh order ms

    abbrev new_kids : List Node
    new_kids = grouped_kids ids fresh order all

    abbrev places : List Place
    places = grouped_places ids order all

    abbrev row : List Toucher
    row = rows (map stands kids)

    abbrev inner : List Toucher
    inner = rows (map stands (map (λ k. k.1) ms))

    abbrev outer : List Toucher
    outer = rows (map stands new_kids)

    abbrev within : Before
    within = is_before (restricted_order order olds)

    abbrev after : Before
    after = is_before (grouped_order ids order all places)

    abbrev inside : ℕ → Bool
    inside c = option_map_or (λ (n : Node). has ids (id_of n)) (slice_get kids c) false

    kid_at : (k : ℕ × Node) → In k all → slice_get kids k.0 ≡ Some k.1
    kid_at k i = let r = in_numbered 0 kids k i in (let at : k.0 ≡ r.0 = omega (arith, r.1) in ap (slice_get kids) at ∙ r.2)

    in_all : (q : ℕ) (n : Node) → slice_get kids q ≡ Some n → In (q, n) all
    in_all q n e = let z : 0 + q ≡ q = omega arith in subst (λ w. In (w, n) all) z (numbered_in 0 kids q n e)

    inside_is : (k : ℕ × Node) → In k all → inside k.0 ≡ is_member ids k
    inside_is k i = ap (λ (o : Option Node). option_map_or (λ (n : Node). has ids (id_of n)) o false) (kid_at k i)

    -- a kid of the row, and back
    record Kept (y : Toucher) : Type 0 where
      k : ℕ × Node
      k_in : In k all
      at : k.0 ≡ y.0
      same : y.1 ≡ (stands k.1).touch

    to_kid : (y : Toucher) → In y row → Kept y
    to_kid y i = let r = rows_out kids y i in record { k = (y.0, r.0); k_in = in_all y.0 r.0 r.1; at = refl; same = r.2 }

    abbrev told : ℕ × Node → Toucher
    told k = (k.0, (stands k.1).touch)

    of_kid : (k : ℕ × Node) → In k all → In (told k) row
    of_kid k i = rows_in kids k.0 k.1 (kid_at k i)

    member_of : (y : Toucher) (z : Kept y) → inside y.0 ≡ true → is_member ids z.k ≡ true
    member_of y z e = sym (inside_is z.k z.k_in) ∙ ap inside z.at ∙ e

    no_member : (y : Toucher) (z : Kept y) → inside y.0 ≡ false → is_member ids z.k ≡ false
    no_member y z e = sym (inside_is z.k z.k_in) ∙ ap inside z.at ∙ e

    after_by : (m : Toucher) (d : ℕ) → In m row → inside m.0 ≡ true → is_before order m.0 d ≡ true → is_after_some order ids all d ≡ true
    after_by m d i e up =
        let z = to_kid m i in
        some_any (λ (k : ℕ × Node). is_member ids k && is_before order k.0 d) z.k all z.k_in (and_from _ _ (member_of m z e) (ap (λ w. is_before order w d) z.at ∙ up))

    before_by : (m : Toucher) (c : ℕ) → In m row → inside m.0 ≡ true → is_before order c m.0 ≡ true → is_before_some order ids all c ≡ true
    before_by m c i e up =
        let z = to_kid m i in
        some_any (λ (k : ℕ × Node). is_member ids k && is_before order c k.0) z.k all z.k_in (and_from _ _ (member_of m z e) (ap (is_before order c) z.at ∙ up))

    stays_convex : (m c n : Toucher) → In m row → In c row → In n row → inside m.0 ≡ true → inside n.0 ≡ true → is_before order m.0 c.0 ≡ true → is_before order c.0 n.0 ≡ true → inside c.0 ≡ true
    stays_convex m c n m_in c_in n_in e f up down =
        let z = to_kid c c_in in
        elim (or_cases (is_member ids z.k) _ (all_at (is_aside order ids all) z.k all convex z.k_in)) [
          | inl member ↦ ap inside (sym z.at) ∙ inside_is z.k z.k_in ∙ member
          | inr aside ↦ absurd (both_ways _ (not-true _ aside) (and_from _ _ (ap (is_after_some order ids all) z.at ∙ after_by m c.0 m_in e up) (ap (is_before_some order ids all) z.at ∙ before_by n c.0 n_in f down)))
        ]

    from_inner : (x : Toucher) → In x inner → (y : Toucher) × In y row × (inside y.0 ≡ true) × Member (slice_get olds) x y
    from_inner x i =
        let r = rows_out (map (λ (k : ℕ × Node). k.1) ms) x i in
        let s = map_place (λ (k : ℕ × Node). k.1) ms x.0 r.0 r.1 in
        let f = filter_in (is_member ids) s.0 all (place_in ms x.0 s.0 s.1) in (
          told s.0,
          of_kid s.0 f.0,
          inside_is s.0 f.0 ∙ f.1,
          record {
            at = place_map (λ (k : ℕ × Node). k.0) ms x.0 s.0 s.1;
            same = r.2 ∙ ap (λ n. (stands n).touch) s.2;
          },
        )

    to_inner : (y : Toucher) → In y row → inside y.0 ≡ true → (x : Toucher) × In x inner × Member (slice_get olds) x y
    to_inner y i e =
        let z = to_kid y i in
        let q = in_place ms z.k (in_filter (is_member ids) z.k all z.k_in (member_of y z e)) in (
          (q.0, (stands z.k.1).touch),
          rows_in (map (λ (k : ℕ × Node). k.1) ms) q.0 z.k.1 (place_map (λ (k : ℕ × Node). k.1) ms q.0 z.k q.1),
          record {
            at = place_map (λ (k : ℕ × Node). k.0) ms q.0 z.k q.1 ∙ ap Some z.at;
            same = sym z.same;
          },
        )

    inner_once : (q r c : ℕ) → slice_get olds q ≡ Some c → slice_get olds r ≡ Some c → q ≡ r
    inner_once q r c e f =
        let k = map_place (λ (k : ℕ × Node). k.0) ms q c e in
        let l = map_place (λ (k : ℕ × Node). k.0) ms r c f in
        once_from (is_member ids) 0 kids q r k.0 l.0 k.1 l.1 (sym k.2 ∙ l.2)

    inner_pairs : (q r c d : ℕ) → slice_get olds q ≡ Some c → slice_get olds r ≡ Some d → is_before order c d ≡ true → within q r ≡ true
    inner_pairs q r c d e f up =
        restricted_exact order (is_member ids) kids is q r
        ∙ ap (λ (o : Option ℕ). are_before order o (slice_get olds r)) e
        ∙ ap (λ (o : Option ℕ). are_before order (Some c) o) f
        ∙ up

    -- the new kids with their places
    abbrev put : ℕ × Node → Place × Node
    put k = (Outside k.0, k.1)

    abbrev entries : List (Place × Node)
    entries = map put fs ++ (Group, the_group) ∷ map put bs

    firsts : (xs ys : List (ℕ × Node)) → map (λ (e : Place × Node). e.0) (map put xs ++ (Group, the_group) ∷ map put ys) ≡ map (λ k. Outside k.0) xs ++ Group ∷ [] ++ map (λ k. Outside k.0) ys
    firsts [] ys = ap (λ z. Group ∷ z) (go ys)
      where
        go : (ys : List (ℕ × Node)) → map (λ (e : Place × Node). e.0) (map put ys) ≡ map (λ k. Outside k.0) ys
        go [] = refl
        go (y ∷ ys) = ap (λ z. Outside y.0 ∷ z) (go ys)
    firsts (x ∷ xs) ys = ap (λ z. Outside x.0 ∷ z) (firsts xs ys)

    seconds : (xs ys : List (ℕ × Node)) → map (λ (e : Place × Node). e.1) (map put xs ++ (Group, the_group) ∷ map put ys) ≡ map (λ k. k.1) xs ++ the_group ∷ [] ++ map (λ k. k.1) ys
    seconds [] ys = ap (λ z. the_group ∷ z) (go ys)
      where
        go : (ys : List (ℕ × Node)) → map (λ (e : Place × Node). e.1) (map put ys) ≡ map (λ k. k.1) ys
        go [] = refl
        go (y ∷ ys) = ap (λ z. y.1 ∷ z) (go ys)
    seconds (x ∷ xs) ys = ap (λ z. x.1 ∷ z) (seconds xs ys)

    place_of : (q : ℕ) (e : Place × Node) → slice_get entries q ≡ Some e → slice_get places q ≡ Some e.0
    place_of q e i = ap (λ z. slice_get z q) (sym (firsts fs bs)) ∙ place_map (λ (e : Place × Node). e.0) entries q e i

    node_of : (q : ℕ) (e : Place × Node) → slice_get entries q ≡ Some e → slice_get new_kids q ≡ Some e.1
    node_of q e i = ap (λ z. slice_get z q) (sym (seconds fs bs)) ∙ place_map (λ (e : Place × Node). e.1) entries q e i

    entry_at : (q : ℕ) (n : Node) → slice_get new_kids q ≡ Some n → (e : Place × Node) × (slice_get entries q ≡ Some e) × (n ≡ e.1)
    entry_at q n i = map_place (λ (e : Place × Node). e.1) entries q n (ap (λ z. slice_get z q) (seconds fs bs) ∙ i)

    group_touch : (stands the_group).touch ≡ row_touch within inner
    group_touch = ap (λ (s : Standing). s.touch) (standing_of-Block actions p fresh (map (λ k. k.1) ms) (restricted_order order olds))

    abbrev Entry : Place × Node → Type 0
    Entry e = ((k : ℕ × Node) × In k all × (is_member ids k ≡ false) × (e ≡ put k)) ⊎ (e ≡ (Group, the_group))

    of_put : (t : ℕ × Node → Bool) → ((k : ℕ × Node) → t k ≡ true → is_member ids k ≡ false) → (e : Place × Node) → In e (map put (filter t all)) → Entry e
    of_put t out e i =
        let r = Rattle.bd_tight.proofs.ListLemmas.in_map put e (filter t all) i in
        let f = filter_in t r.0 all r.1 in
        inl (r.0, f.0, out r.0 f.1, r.2)

    front_out : (k : ℕ × Node) → is_front ids order all k ≡ true → is_member ids k ≡ false
    front_out k e = not-true _ (and_parts (not (is_member ids k)) _ e).0

    back_out : (k : ℕ × Node) → is_back ids order all k ≡ true → is_member ids k ≡ false
    back_out k e = not-true _ (and_parts (not (is_member ids k)) _ e).0

    split_in : (xs : List (Place × Node)) (e : Place × Node) → In e (xs ++ (Group, the_group) ∷ map put bs) → In e xs ⊎ In e ((Group, the_group) ∷ map put bs)
    split_in [] e i = inr i
    split_in (x ∷ xs) e i = elim (Rattle.bd_links.proofs.Members.in_without [] (xs ++ (Group, the_group) ∷ map put bs) x e i) [
      | inl same ↦ inl (subst (λ z. In z (x ∷ xs)) (sym same) here)
      | inr later ↦ elim (split_in xs e later) [ inl j ↦ inl (there j) | inr j ↦ inr j ]
    ]

    entry_is : (e : Place × Node) → In e entries → Entry e
    entry_is e i = elim (split_in (map put fs) e i) [
      | inl j ↦ of_put (is_front ids order all) front_out e j
      | inr j ↦ elim (Rattle.bd_links.proofs.Members.in_without [] (map put bs) (Group, the_group) e j) [
        | inl same ↦ inr same
        | inr k ↦ of_put (is_back ids order all) back_out e k
      ]
    ]

    from_outer : (x : Toucher) → In x outer → ((y : Toucher) × In y row × (inside y.0 ≡ false) × Stayed (slice_get places) x y) ⊎ ((slice_get places x.0 ≡ Some Group) × (x.1 ≡ row_touch within inner))
    from_outer x i =
        let r = rows_out new_kids x i in
        let e = entry_at x.0 r.0 r.1 in
        elim (entry_is e.0 (place_in entries x.0 e.0 e.1)) [
          | inl k ↦ inl (
            told k.0,
            of_kid k.0 k.1,
            inside_is k.0 k.1 ∙ k.2,
            record {
              at = place_of x.0 e.0 e.1 ∙ ap (λ (z : Place × Node). Some z.0) k.3;
              same = r.2 ∙ ap (λ n. (stands n).touch) (e.2 ∙ ap (λ (z : Place × Node). z.1) k.3);
            },
          )
          | inr g ↦ inr (place_of x.0 e.0 e.1 ∙ ap (λ (z : Place × Node). Some z.0) g, r.2 ∙ ap (λ n. (stands n).touch) (e.2 ∙ ap (λ (z : Place × Node). z.1) g) ∙ group_touch)
        ]

    to_outer : (y : Toucher) → In y row → inside y.0 ≡ false → (x : Toucher) × In x outer × Stayed (slice_get places) x y
    to_outer y i e =
        let z = to_kid y i in
        let out : not (is_member ids z.k) ≡ true = ap not (no_member y z e) in
        let listed : In (put z.k) entries = elim (cases_Bool (is_after_some order ids all z.k.0)) [
          | inl behind ↦ in_append_right (put z.k) (map put fs) ((Group, the_group) ∷ map put bs) (there (map_in put z.k bs (in_filter (is_back ids order all) z.k all z.k_in (and_from _ _ out behind))))
          | inr ahead ↦ in_append_left (put z.k) (map put fs) ((Group, the_group) ∷ map put bs) (map_in put z.k fs (in_filter (is_front ids order all) z.k all z.k_in (and_from _ _ out (ap not ahead))))
        ] in
        let q = in_place entries (put z.k) listed in (
          (q.0, (stands z.k.1).touch),
          rows_in new_kids q.0 z.k.1 (node_of q.0 (put z.k) q.1),
          record {
            at = place_of q.0 (put z.k) q.1 ∙ ap (λ c. Some (Outside c)) z.at;
            same = sym z.same;
          },
        )

    the_place : (x : Toucher) × In x outer × (slice_get places x.0 ≡ Some Group) × (x.1 ≡ row_touch within inner)
    the_place =
        let q = in_place entries (Group, the_group) (in_append_right (Group, the_group) (map put fs) ((Group, the_group) ∷ map put bs) here) in
        ((q.0, (stands the_group).touch), rows_in new_kids q.0 the_group (node_of q.0 (Group, the_group) q.1), place_of q.0 (Group, the_group) q.1, group_touch)

    group_at : (q : ℕ) → slice_get places q ≡ Some Group → q ≡ length fs
    group_at q e = by (located fs bs q Group e)
      where
        by : Stands fs bs q Group → q ≡ length fs
        by (front k at lt same) = absurd (cc)
        by (group at same) = at
        by (back m k at is_at same) = absurd (cc)

    outer_once : (q r : ℕ) (c : Place) → slice_get places q ≡ Some c → slice_get places r ≡ Some c → q ≡ r
    outer_once q r Group e f = group_at q e ∙ sym (group_at r f)
    outer_once q r (Outside d) e f = apart_once (length kids) places (grouped_apart ids order kids) d q r e f

    kept_pair : (q r : ℕ) (c d : Place) → slice_get places q ≡ Some c → slice_get places r ≡ Some d → is_ordered ids order all c d ≡ true → after q r ≡ true
    kept_pair q r c d e f o =
        grouped_exact ids order kids is convex q r
        ∙ ap (λ (z : Option Place). are_ordered ids order all z (slice_get places r)) e
        ∙ ap (λ (z : Option Place). are_ordered ids order all (Some c) z) f
        ∙ o

    pub corresponds : Corresponds (is_before order) within after row inner outer inside (slice_get olds) (slice_get places)
    corresponds = record {
      convex = stays_convex;
      from_inner = from_inner;
      to_inner = to_inner;
      inner_once = inner_once;
      inner_pairs = inner_pairs;
      from_outer = from_outer;
      to_outer = to_outer;
      group = the_place;
      outer_once = outer_once;
      outer_pairs = λ q r c d e f up. kept_pair q r (Outside c) (Outside d) e f (or_left _ _ up);
      into_group = λ q r c m e f i inside up. kept_pair q r (Outside c) Group e f (before_by m c i inside up);
      out_of_group = λ q r d m e f i inside up. kept_pair q r Group (Outside d) e f (after_by m d i inside up);
    }

    fine_at : (ns : List Node) → list_all (λ (k : Standing). k.fine) (map stands ns) ≡ true → (n : Node) → In n ns → (stands n).fine ≡ true
    fine_at ns e n i = all_at (λ (k : Standing). k.fine) (stands n) (map stands ns) e (map_in stands n ns i)

    all_fine : (ns : List Node) → ((n : Node) → In n ns → (stands n).fine ≡ true) → list_all (λ (k : Standing). k.fine) (map stands ns) ≡ true
    all_fine [] h = refl
    all_fine (n ∷ ns) h = and_from _ _ (h n here) (all_fine ns (λ m i. h m (there i)))

    -- the grouped block serves each fact better than the block did
    pub grouped_better : StandsBetter (stands (Block own new_kids (grouped_order ids order all places))) (stands (Block own kids order))
    grouped_better =
        subst (λ z. StandsBetter z (stands (Block own kids order))) (sym (standing_of-Block actions p own new_kids (grouped_order ids order all places)))
        (subst (λ z. StandsBetter (record { touch = row_touch after outer; fine = list_all (λ k. k.fine) (map stands new_kids) && row_fine after outer }) z) (sym (standing_of-Block actions p own kids order))
        (record {
          touch = outer_better (is_before order) within after row inner outer inside (slice_get olds) (slice_get places) corresponds;
          fine = λ e.
              let parts = and_parts (list_all (λ (k : Standing). k.fine) (map stands kids)) _ e in
              let group_fine : (stands the_group).fine ≡ true =
              ap (λ (s : Standing). s.fine) (standing_of-Block actions p fresh (map (λ k. k.1) ms) (restricted_order order olds))
              ∙ and_from _ _
              (all_fine (map (λ k. k.1) ms) (λ n i.
              let r = Rattle.bd_tight.proofs.ListLemmas.in_map (λ (k : ℕ × Node). k.1) n ms i in
              let f = filter_in (is_member ids) r.0 all r.1 in
              ap (λ m. (stands m).fine) r.2 ∙ fine_at kids parts.0 r.0.1 (place_in kids r.0.0 r.0.1 (kid_at r.0 f.0))))
              (inner_fine (is_before order) within after row inner outer inside (slice_get olds) (slice_get places) corresponds parts.1) in
              and_from _ _
              (all_fine new_kids (λ n i.
              let q = in_place new_kids n i in
              let e = entry_at q.0 n q.1 in
              elim (entry_is e.0 (place_in entries q.0 e.0 e.1)) [
                | inl k ↦ ap (λ m. (stands m).fine) (e.2 ∙ ap (λ (z : Place × Node). z.1) k.3) ∙ fine_at kids parts.0 k.0.1 (place_in kids k.0.0 k.0.1 (kid_at k.0 k.1))
                | inr g ↦ ap (λ m. (stands m).fine) (e.2 ∙ ap (λ (z : Place × Node). z.1) g) ∙ group_fine
              ]))
              (outer_fine (is_before order) within after row inner outer inside (slice_get olds) (slice_get places) corresponds parts.1);
        }))

first_own : (ids own : List ℕ) → 0 < length ids → is_subset ids own ≡ true → (q : ℕ) × (has own q ≡ true)
first_own [] own lt e = absurd (omega arith)
first_own (i ∷ ids) own lt e = (i, (and_parts (has own i) (is_subset ids own) e).0)

module _ (task : TaskView) (root : Node) (block : ℕ) (fresh : ℕ) (well : IsWellFormed root) (sound : IsSound task root) where
  -- the tree in which kids of a block are one block
  made_sound : (ids : List ℕ) → CanGroup root block ids → IsSound task (Rattle.bd_shape.specs.Remade.remade root block (grouped_block block ids fresh))
  made_sound ids can =
      let one = first_own ids (kids_at block root) can.some can.own in
      let here : IsThere block root = is_there block root one.0 one.1 in
      let way : SharesWay (Block block here.kids here.order) (grouped_block block ids fresh here.kids here.order) root (Rattle.bd_shape.specs.Remade.remade root block (grouped_block block ids fresh)) = the_way root block (grouped_block block ids fresh) here.kids here.order well here.found in
      let is : is_order (length here.kids) here.order ≡ true =
      ap (λ z. is_order z here.order) (sym (length-map here.kids has_orders))
      ∙ (and_parts (list_all (λ k. k) (map has_orders here.kids)) _ (sym (has_orders-Block block here.kids here.order) ∙ orders_below way.way (Block block here.kids here.order) (ap has_orders (sym way.old_is) ∙ well.orders))).1 in
      let convex : are_convex here.order ids (enumerate_from 0 here.kids) ≡ true =
      sym (ap (convex_in_layer ids) (outs-Block block here.kids here.order))
      ∙ sym (ap (λ (o : Option Node). option_map_or (λ (node : Node). is_convex_in node ids) o true) here.found)
      ∙ can.convex in
      sound_where_each task (Rattle.bd_shape.specs.Remade.remade root block (grouped_block block ids fresh)) (λ p.
      ap (λ t. Rattle.bd_tight.specs.Touch.is_sound_for task p (standing_of task.actions p t)) way.new_is
      ∙ ap (Rattle.bd_tight.specs.Touch.is_sound_for task p) (standing_filled task.actions p way.way (grouped_block block ids fresh here.kids here.order))
      ∙ sound_better task p (lifted task.actions p way.way (standing_of task.actions p (Block block here.kids here.order))) (lifted task.actions p way.way (standing_of task.actions p (grouped_block block ids fresh here.kids here.order)))
      (lifted_better task.actions p way.way (standing_of task.actions p (Block block here.kids here.order)) (standing_of task.actions p (grouped_block block ids fresh here.kids here.order)) (grouped_better task.actions p ids block fresh here.kids here.order is convex))
      (ap (Rattle.bd_tight.specs.Touch.is_sound_for task p) (sym (ap (standing_of task.actions p) way.old_is ∙ standing_filled task.actions p way.way (Block block here.kids here.order))) ∙ sound_for_each task root sound p))

  pub grouped_sound : (ids : List ℕ) → CanGroup root block ids → IsSound task (grouped root block ids fresh)
  grouped_sound [] can = sound
  grouped_sound (i ∷ []) can = sound
  grouped_sound (i ∷ j ∷ more) can = made_sound (i ∷ j ∷ more) can
