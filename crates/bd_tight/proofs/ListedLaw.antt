-- Each candidate stands in the list, and nothing else does.
use Rattle.std.proofs.Common.{◌≡◌, ◌↔◌, ℕ, true, false, not, ◌&&◌, eqb, List, [], ◌∷◌, ◌++◌, map, Option, Some, None, is_some, slice_get, refl, sym, ap, ◌∙◌, subst, ◌⊎◌, inl, inr}
use Rattle.std.proofs.lemmas.Bool.{and_parts, and_from, both_ways, eqb-true, eq-eqb, ne_eqb, not-true, or_cases, or_left, or_right, or_parts, cond-true, cond-false, false_from_ne_true}
use Rattle.bd_base.specs.Facts.{has}
use Rattle.bd_task.specs.declared.ground.Action.{Action}
use Rattle.bd_tree.specs.declared.node.Node.{Node, Step, Block}
use Rattle.bd_tree.specs.declared.node.Node.TheOpen.{Node-F}
use Rattle.bd_tree.specs.declared.node.Node.TheViews.{rolls-Step}
use Rattle.bd_tree.specs.declared.node.Node.TheFolds.{para-roll-Node}
use Rattle.bd_tree.specs.Misfit.{leads_to}
use Rattle.bd_tree.specs.Tree.{id_of, ids_of, joined, find_in, first_some}
use Rattle.bd_tree.specs.WellFormed.{IsWellFormed, are_distinct}
use Rattle.bd_tree.proofs.NodeLemmas.{Each, by_node, ids_of-Block}
use Rattle.bd_tree.proofs.TreeLemmas.{find_in-Block, has-append, is_found}
use Rattle.bd_links.proofs.Members.{In, here, there, in_without, some_any}
use Rattle.bd_links.specs.Sound.{effects_of}
use Rattle.bd_shape.specs.Hull.{hull_of}
use Rattle.bd_tight.specs.Candidates.{Level, levels_step, levels_of, flat, covers, concerns, related, sides_of, with_each, fits, pair_candidates, level_candidates, candidates, IsSide, IsCandidate}
use Rattle.bd_tight.specs.declared.gain.Gain.{Gain}
use Rattle.bd_reason.specs.Reasons.{reasons_of, fact_of}
use Rattle.bd_tight.proofs.CandidateLemmas.{in_flat, in_filter, level_listed, levels_of-Block}
use Rattle.bd_tight.proofs.PlaceLemmas.{in_place, place_in, filter_in}
use Rattle.bd_tight.proofs.ListLemmas.{in_map, map_in}
use Rattle.bd_tight.proofs.TightLaw.{pair_in}

split_append : {X : Type 0} (x : X) (xs ys : List X) → In x (xs ++ ys) → In x xs ⊎ In x ys
split_append x [] ys i = inr i
split_append x (y ∷ xs) ys i = elim (in_without [] (xs ++ ys) y x i) [
  | inl same ↦ inl (subst (λ z. In z (y ∷ xs)) (sym same) here)
  | inr later ↦ elim (split_append x xs ys later) [ inl j ↦ inl (there j) | inr j ↦ inr j ]
]

flat_in : {X : Type 0} (x : X) (all : List (List X)) → In x (flat all) → (xs : List X) × In xs all × In x xs
flat_in x [] i = elim i [ ]
flat_in x (xs ∷ all) i = elim (split_append x xs (flat all) i) [
  | inl j ↦ (xs, here, j)
  | inr j ↦ let r = flat_in x all j in (r.0, there r.1, r.2)
]

-- distinct numbers of two lists
distinct_append : (xs ys : List ℕ) → are_distinct (xs ++ ys) ≡ true → (are_distinct xs ≡ true) × (are_distinct ys ≡ true) × ((q : ℕ) → has xs q ≡ true → has ys q ≡ false)
distinct_append [] ys d = (refl, d, λ q e. absurd (both_ways false refl e))
distinct_append (x ∷ xs) ys d =
    let parts = and_parts (not (has (xs ++ ys) x)) (are_distinct (xs ++ ys)) d in
    let rest = distinct_append xs ys parts.1 in
    let out = or_parts (has xs x) (has ys x) (sym (has-append xs ys x) ∙ not-true _ parts.0) in (
      and_from _ _ (ap not out.0) rest.0,
      rest.1,
      λ q e. elim (or_cases (eqb x q) (has xs q) e) [
        | inl same ↦ subst (λ z. has ys z ≡ false) (eqb-true x q same) out.1
        | inr later ↦ rest.2 q later
      ],
    )

pub levels_of-Step : (own a : ℕ) → levels_of (Step own a) ≡ []
levels_of-Step own a = ap levels_of (sym (rolls-Step own a)) ∙ para-roll-Node (List Level) levels_step (Node-F.Step own a)

module _ (l : Level) where
  abbrev pub the_block : Node
  the_block = Block l.own l.kids l.order

  abbrev IsOwn : Node → Type 0
  IsOwn n = In l (levels_of n) → has (ids_of n) l.own ≡ true

  kids_own : (ks : List Node) → Each IsOwn ks → In l (flat (map levels_of ks)) → has (joined (map ids_of ks)) l.own ≡ true
  kids_own [] e i = elim i [ ]
  kids_own (k ∷ ks) e i = has-append (ids_of k) (joined (map ids_of ks)) l.own ∙ elim (split_append l (levels_of k) (flat (map levels_of ks)) i) [
    | inl j ↦ or_left _ _ (e.0 j)
    | inr j ↦ or_right _ _ (kids_own ks e.1 j)
  ]

  none_in_step : (own a : ℕ) → In l (levels_of (Step own a)) → ⊥
  none_in_step own a i = Rattle.bd_links.proofs.Members.in_none l (subst (λ z. In l z) (levels_of-Step own a) i)

  level_own : (n : Node) → IsOwn n
  level_own = by_node IsOwn
      (λ own a i. absurd (none_in_step own a i))
      (λ own ks o e i. ap (λ z. has z l.own) (ids_of-Block own ks o) ∙ elim (in_without [] (flat (map levels_of ks)) (record { own = own; kids = ks; order = o }) l (subst (λ z. In l z) (levels_of-Block own ks o) i)) [
        | inl same ↦ or_left _ _ (eq-eqb own l.own (ap (λ (z : Level). z.own) (sym same)))
        | inr later ↦ or_right _ _ (kids_own ks e later)
      ])

  all_own : (ks : List Node) → Each IsOwn ks
  all_own [] = tt
  all_own (k ∷ ks) = (level_own k, all_own ks)

  abbrev pub IsFound : Node → Type 0
  IsFound n = are_distinct (ids_of n) ≡ true → In l (levels_of n) → find_in l.own n ≡ Some the_block

  no_some : (o : Option Node) → is_some o ≡ false → o ≡ None
  no_some None e = refl
  no_some (Some n) e = absurd (both_ways true e refl)

  kids_found : (ks : List Node) → Each IsFound ks → are_distinct (joined (map ids_of ks)) ≡ true → In l (flat (map levels_of ks)) → first_some (map (find_in l.own) ks) ≡ Some the_block
  kids_found [] e d i = elim i [ ]
  kids_found (k ∷ ks) e d i =
      let parts = distinct_append (ids_of k) (joined (map ids_of ks)) d in
      elim (split_append l (levels_of k) (flat (map levels_of ks)) i) [
        | inl j ↦ ap (λ z. first_some (z ∷ map (find_in l.own) ks)) (e.0 parts.0 j)
        | inr j ↦
            let out : has (ids_of k) l.own ≡ false = false_from_ne_true _ (λ h. both_ways _ (parts.2 l.own h) (kids_own ks (all_own ks) j)) in
            ap (λ z. first_some (z ∷ map (find_in l.own) ks)) (no_some (find_in l.own k) (is_found l.own k ∙ out)) ∙ kids_found ks e.1 parts.1 j
      ]

  -- a block among the levels is found by its id
  pub level_found : (n : Node) → IsFound n
  level_found = by_node IsFound
      (λ own a d i. absurd (none_in_step own a i))
      (λ own ks o e d i.
      let parts = and_parts (not (has (joined (map ids_of ks)) own)) (are_distinct (joined (map ids_of ks))) (sym (ap are_distinct (ids_of-Block own ks o)) ∙ d) in
      elim (in_without [] (flat (map levels_of ks)) (record { own = own; kids = ks; order = o }) l (subst (λ z. In l z) (levels_of-Block own ks o) i)) [
        | inl same ↦
            find_in-Block l.own own ks o ∙ cond-true _ _ _ (eq-eqb own l.own (ap (λ (z : Level). z.own) (sym same)))
            ∙ ap (λ (z : Level). Some (Block z.own z.kids z.order)) (sym same)
        | inr later ↦
            find_in-Block l.own own ks o
            ∙ cond-false _ _ _ (ne_eqb own l.own (λ e. both_ways _ (not-true _ parts.0) (ap (has (joined (map ids_of ks))) e ∙ kids_own ks (all_own ks) later)))
            ∙ kids_found ks e parts.1 later
      ])

module _ (actions : List Action) (root : Node) (span : ℕ) where
  -- a side is one of those that are listed
  side_listed : (block : Node) (kids : List Node) (a b kid : Node) (side : List ℕ) → IsSide actions block kids (map fact_of (reasons_of (effects_of actions a) (effects_of actions b))) kid side → In side (sides_of block kid (related actions kids a b))
  side_listed block kids a b kid side (inl e) = subst (λ z. In z (sides_of block kid (related actions kids a b))) (sym e) here
  side_listed block kids a b kid side (inr r) =
      subst (λ z. In z (sides_of block kid (related actions kids a b))) (sym r.4)
      (there (map_in (λ k. hull_of block (id_of kid) (id_of k)) r.1 (related actions kids a b)
      (in_filter (λ k. concerns (map fact_of (reasons_of (effects_of actions a) (effects_of actions b))) (effects_of actions k)) r.1 kids (place_in kids r.0 r.1 r.2) r.3)))

  listed_side : (block : Node) (kids : List Node) (a b kid : Node) (side : List ℕ) → In side (sides_of block kid (related actions kids a b)) → IsSide actions block kids (map fact_of (reasons_of (effects_of actions a) (effects_of actions b))) kid side
  listed_side block kids a b kid side i = elim (in_without [] (map (λ k. hull_of block (id_of kid) (id_of k)) (related actions kids a b)) (id_of kid ∷ []) side i) [
    | inl same ↦ inl same
    | inr later ↦
        let r = in_map (λ k. hull_of block (id_of kid) (id_of k)) side (related actions kids a b) later in
        let f = filter_in (λ k. concerns (map fact_of (reasons_of (effects_of actions a) (effects_of actions b))) (effects_of actions k)) r.0 kids r.1 in
        let q = in_place kids r.0 f.0 in
        inr (q.0, r.0, q.1, f.1, r.2)
  ]

  pub to_list : (c : Gain) → IsCandidate actions root span c → In c (candidates actions root span)
  to_list c is =
      let level : Level = record { own = c.block; kids = is.kids; order = is.order } in
      let block = Block c.block is.kids is.order in
      let others = related actions is.kids is.first is.second in
      let lefts = sides_of block is.first others in
      let rights = sides_of block is.second others in
      let inner : In c (map (λ (right : List ℕ). record { block = c.block; left = c.left; right = right }) rights) = map_in (λ (right : List ℕ). record { block = c.block; left = c.left; right = right }) c.right rights (side_listed block is.kids is.first is.second is.second c.right is.right) in
      let each : In c (with_each c.block lefts rights) =
      in_flat c (map (λ (right : List ℕ). record { block = c.block; left = c.left; right = right }) rights) (map (λ (left : List ℕ). map (λ (right : List ℕ). record { block = c.block; left = left; right = right }) rights) lefts) inner
      (map_in (λ (left : List ℕ). map (λ (right : List ℕ). record { block = c.block; left = left; right = right }) rights) c.left lefts (side_listed block is.kids is.first is.second is.first c.left is.left)) in
      let kept : In c (pair_candidates actions root span level (Some is.first) (Some is.second)) = in_filter (fits root span) c (with_each c.block lefts rights) each is.fit in
      let pair : In c (pair_candidates actions root span level (slice_get is.kids is.i) (slice_get is.kids is.j)) =
      subst (λ (o : Option Node). In c (pair_candidates actions root span level o (slice_get is.kids is.j))) (sym is.at_i) (subst (λ (o : Option Node). In c (pair_candidates actions root span level (Some is.first) o)) (sym is.at_j) kept) in
      let cover : In (is.i, is.j) (covers is.order) = in_filter (λ p. not (leads_to is.order p)) (is.i, is.j) is.order (pair_in is.order is.i is.j is.ordered) (ap not is.free) in
      in_flat c (level_candidates actions root span level) (map (level_candidates actions root span) (levels_of root))
      (in_flat c (pair_candidates actions root span level (slice_get is.kids is.i) (slice_get is.kids is.j)) (map (λ (p : ℕ × ℕ). pair_candidates actions root span level (slice_get is.kids p.0) (slice_get is.kids p.1)) (covers is.order)) pair
      (map_in (λ (p : ℕ × ℕ). pair_candidates actions root span level (slice_get is.kids p.0) (slice_get is.kids p.1)) (is.i, is.j) (covers is.order) cover))
      (map_in (level_candidates actions root span) level (levels_of root) (level_listed c.block is.kids is.order root is.found))

  -- what a pair's candidates are
  of_pair : (l : Level) (p : ℕ × ℕ) (c : Gain) → find_in l.own root ≡ Some (Block l.own l.kids l.order) → In p (covers l.order) → (o q : Option Node) → slice_get l.kids p.0 ≡ o → slice_get l.kids p.1 ≡ q → In c (pair_candidates actions root span l o q) → IsCandidate actions root span c
  of_pair l p c found cover None q e f i = elim i [ ]
  of_pair l p c found cover (Some a) None e f i = elim i [ ]
  of_pair l p c found cover (Some a) (Some b) e f i =
      let block = Block l.own l.kids l.order in
      let lefts = sides_of block a (related actions l.kids a b) in
      let rights = sides_of block b (related actions l.kids a b) in
      let fit = filter_in (fits root span) c (with_each l.own lefts rights) i in
      let flat_is = flat_in c (map (λ (left : List ℕ). map (λ (right : List ℕ). record { block = l.own; left = left; right = right }) rights) lefts) fit.0 in
      let left = in_map (λ (left : List ℕ). map (λ (right : List ℕ). record { block = l.own; left = left; right = right }) rights) flat_is.0 lefts flat_is.1 in
      let right = in_map (λ (right : List ℕ). record { block = l.own; left = left.0; right = right }) c rights (subst (λ (z : List Gain). In c z) left.2 flat_is.2) in
      let own = filter_in (λ p. not (leads_to l.order p)) p l.order cover in
      subst (λ (z : Gain). IsCandidate actions root span z) (sym right.2) (record {
        kids = l.kids;
        order = l.order;
        found = found;
        i = p.0;
        j = p.1;
        first = a;
        second = b;
        at_i = e;
        at_j = f;
        ordered = some_any (λ (q : ℕ × ℕ). eqb q.0 p.0 && eqb q.1 p.1) p l.order own.0 (and_from _ _ (eq-eqb p.0 p.0 refl) (eq-eqb p.1 p.1 refl));
        free = not-true _ own.1;
        left = listed_side block l.kids a b a left.0 left.1;
        right = listed_side block l.kids a b b right.0 right.1;
        fit = ap (fits root span) (sym right.2) ∙ fit.1;
      })

  pub from_list : IsWellFormed root → (c : Gain) → In c (candidates actions root span) → IsCandidate actions root span c
  from_list well c i =
      let one = flat_in c (map (level_candidates actions root span) (levels_of root)) i in
      let level = in_map (level_candidates actions root span) one.0 (levels_of root) one.1 in
      let l = level.0 in
      let two = flat_in c (map (λ (p : ℕ × ℕ). pair_candidates actions root span l (slice_get l.kids p.0) (slice_get l.kids p.1)) (covers l.order)) (subst (λ (z : List Gain). In c z) level.2 one.2) in
      let pair = in_map (λ (p : ℕ × ℕ). pair_candidates actions root span l (slice_get l.kids p.0) (slice_get l.kids p.1)) two.0 (covers l.order) two.1 in
      of_pair l pair.0 c (level_found l root well.distinct level.1) pair.1 (slice_get l.kids pair.0.0) (slice_get l.kids pair.0.1) refl refl (subst (λ (z : List Gain). In c z) pair.2 two.2)

  pub listed_law : IsWellFormed root → (c : Gain) → ((q : ℕ) × (slice_get (candidates actions root span) q ≡ Some c)) ↔ IsCandidate actions root span c
  listed_law well c = (
    λ r. from_list well c (place_in (candidates actions root span) r.0 c r.1),
    λ is. in_place (candidates actions root span) c (to_list c is),
  )
