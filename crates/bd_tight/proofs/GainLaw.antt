-- The body's first gain is the first candidate of the list that qualifies.
use Rattle.std.proofs.Common.{◌≡◌, ◌↔◌, ℕ, ◌≤◌, Bool, true, false, not, ◌&&◌, cond, List, [], ◌∷◌, ◌++◌, filter, map, Option, Some, None, slice_get, refl, sym, ap, ◌∙◌, subst, inl, inr}
use Rattle.std.specs.List.{AllByRecursion}
use Rattle.std.specs.Option.{is_none, option_map, option_or}
use Rattle.std.specs.Prelude.{nat_lt}
use Rattle.std.proofs.lemmas.Bool.{and_parts, and_from, both_ways, cases_Bool, ltb-true, lt-ltb, le-ltb, not-true, false_from_ne_true}
use Rattle.std.proofs.lemmas.Option.{slice_get-map}
use Rattle.bd_task.specs.declared.ground.Action.{Action}
use Rattle.bd_task.specs.TaskView.{TaskView}
use Rattle.bd_tree.specs.declared.node.Node.{Node, Step, Block}
use Rattle.bd_tree.specs.declared.node.Node.TheOpen.{Node-F}
use Rattle.bd_tree.specs.declared.node.Node.TheViews.{outs-Block, rolls-Step, rolls-Block}
use Rattle.bd_tree.specs.declared.node.Node.TheFolds.{fold-roll-Node}
use Rattle.bd_tree.specs.Misfit.{leads_to}
use Rattle.bd_tree.specs.Tree.{depth_of, find_in, first_some, id_of, joined, pairs_of}
use Rattle.bd_tree.specs.WellFormed.{IsWellFormed}
use Rattle.bd_tree.proofs.NodeLemmas.{Each, by_node, id_of-Step, id_of-Block}
use Rattle.bd_links.specs.Child.{Child}
use Rattle.bd_links.specs.Sound.{Summary, child_of, effects_of, first_fault}
use Rattle.bd_links.proofs.Equations.{summary_of-Step, child_of-Block}
use Rattle.bd_links.proofs.Faultless.{is_none_of, none_is, none_where_sound}
use Rattle.bd_links.proofs.Members.{In, here, there}
use Rattle.bd_shape.specs.Hull.{hull_of}
use Rattle.bd_shape.proofs.KidLemmas.{map-append}
use Rattle.bd_tight.specs.declared.gain.Gain.{Gain}
use Rattle.bd_tight.specs.Candidates.{Level, levels_of, flat, covers, concerns, related, sides_of, with_each, fits, tree_of, pair_candidates, level_candidates, candidates, Qualifies, IsTight}
use Rattle.bd_tight.specs.Gains.{qualifies, gain_if, gain_with, gain_among, facts_between, ids_related, sides_by, gain_of_two, gain_at, gain_of_pairs, gain_in_layer, gain_in, blocks_step, blocks_of, first_gain}
use Rattle.bd_tight.proofs.CandidateLemmas.{levels_of-Block}
use Rattle.bd_tight.proofs.ListedLaw.{level_found, levels_of-Step}

module _ {A : Type 0} where
  first-∷ : (o : Option A) (rest : List (Option A)) → first_some (o ∷ rest) ≡ option_or o (first_some rest)
  first-∷ None rest = refl
  first-∷ (Some a) rest = refl

  first-append : (xs ys : List (Option A)) → first_some (xs ++ ys) ≡ option_or (first_some xs) (first_some ys)
  first-append [] ys = refl
  first-append (None ∷ xs) ys = first-append xs ys
  first-append (Some a ∷ xs) ys = refl

-- the first of what is mapped
module _ {X : Type 0} {A : Type 0} where
  -- of all that stand in a list of lists
  first-flat : {Y : Type 0} (g : Y → Option A) (f : X → List Y) (xs : List X) → first_some (map g (flat (map f xs))) ≡ first_some (map (λ x. first_some (map g (f x))) xs)
  first-flat g f [] = refl
  first-flat g f (x ∷ xs) =
      ap first_some (map-append g (f x) (flat (map f xs)))
      ∙ first-append (map g (f x)) (map g (flat (map f xs)))
      ∙ ap (option_or (first_some (map g (f x)))) (first-flat g f xs)
      ∙ sym (first-∷ (first_some (map g (f x))) (map (λ x. first_some (map g (f x))) xs))

  -- of those that pass a test
  first-filter : (g : X → Option A) (t : X → Bool) (xs : List X) → first_some (map g (filter t xs)) ≡ first_some (map (λ x. cond (t x) (g x) None) xs)
  first-filter g t [] = refl
  first-filter g t (x ∷ xs) = one (t x) (first-filter g t xs)
    where
      one : (b : Bool) → first_some (map g (filter t xs)) ≡ first_some (map (λ x. cond (t x) (g x) None) xs) → first_some (map g (cond b (x ∷ filter t xs) (filter t xs))) ≡ first_some (cond b (g x) None ∷ map (λ x. cond (t x) (g x) None) xs)
      one true e = first-∷ (g x) (map g (filter t xs)) ∙ ap (option_or (g x)) e ∙ sym (first-∷ (g x) (map (λ x. cond (t x) (g x) None) xs))
      one false e = e

module _ {X : Type 0} {Y : Type 0} where
  map_same : (f g : X → Y) → ((x : X) → f x ≡ g x) → (xs : List X) → map f xs ≡ map g xs
  map_same f g h [] = refl
  map_same f g h (x ∷ xs) = ap (λ z. z ∷ map f xs) (h x) ∙ ap (λ z. g x ∷ z) (map_same f g h xs)

  map_on : (f g : X → Y) (xs : List X) → ((x : X) → In x xs → f x ≡ g x) → map f xs ≡ map g xs
  map_on f g [] h = refl
  map_on f g (x ∷ xs) h = ap (λ z. z ∷ map f xs) (h x here) ∙ ap (λ z. g x ∷ z) (map_on f g xs (λ y i. h y (there i)))

map_map : {X : Type 0} {Y : Type 0} {Z : Type 0} (g : Y → Z) (f : X → Y) (xs : List X) → map g (map f xs) ≡ map (λ x. g (f x)) xs
map_map g f [] = refl
map_map g f (x ∷ xs) = ap (λ z. g (f x) ∷ z) (map_map g f xs)

map_flat : {X : Type 0} {Y : Type 0} {Z : Type 0} (g : Y → Z) (f : X → List Y) (xs : List X) → map g (flat (map f xs)) ≡ flat (map (λ x. map g (f x)) xs)
map_flat g f [] = refl
map_flat g f (x ∷ xs) = map-append g (f x) (flat (map f xs)) ∙ ap (λ z. map g (f x) ++ z) (map_flat g f xs)

-- the ids of the blocks are those of the levels
blocks_of-Step : (id a : ℕ) → blocks_of (Step id a) ≡ []
blocks_of-Step id a = ap blocks_of (sym (rolls-Step id a)) ∙ fold-roll-Node (List ℕ) blocks_step (Node-F.Step id a)

blocks_of-Block : (id : ℕ) (kids : List Node) (order : List (ℕ × ℕ)) → blocks_of (Block id kids order) ≡ id ∷ joined (map blocks_of kids)
blocks_of-Block id kids order = ap blocks_of (sym (rolls-Block id kids order)) ∙ fold-roll-Node (List ℕ) blocks_step (Node-F.Block id kids order)

abbrev owns : Node → List ℕ
owns n = map (λ (l : Level). l.own) (levels_of n)

kids_owns : (kids : List Node) → Each (λ n. blocks_of n ≡ owns n) kids → joined (map blocks_of kids) ≡ map (λ (l : Level). l.own) (flat (map levels_of kids))
kids_owns [] e = refl
kids_owns (k ∷ ks) e = ap (λ z. z ++ joined (map blocks_of ks)) e.0 ∙ ap (λ z. owns k ++ z) (kids_owns ks e.1) ∙ sym (map-append (λ (l : Level). l.own) (levels_of k) (flat (map levels_of ks)))

blocks_are : (n : Node) → blocks_of n ≡ owns n
blocks_are = by_node (λ n. blocks_of n ≡ owns n)
    (λ id a. blocks_of-Step id a ∙ ap (map (λ (l : Level). l.own)) (sym (levels_of-Step id a)))
    (λ id kids order e. blocks_of-Block id kids order ∙ ap (λ z. id ∷ z) (kids_owns kids e) ∙ ap (map (λ (l : Level). l.own)) (sym (levels_of-Block id kids order)))

module _ (actions : List Action) where
  pub child_id : (n : Node) → (child_of actions n).id ≡ id_of n
  child_id = by_node (λ n. (child_of actions n).id ≡ id_of n)
      (λ id a. ap (λ (s : Summary). s.child.id) (summary_of-Step actions id a) ∙ sym (id_of-Step id a))
      (λ id kids order e. ap (λ (c : Child). c.id) (child_of-Block actions id kids order) ∙ sym (id_of-Block id kids order))

  related_are : (facts : List ℕ) (kids : List Node) → ids_related facts (map (child_of actions) kids) ≡ map id_of (filter (λ k. concerns facts (effects_of actions k)) kids)
  related_are facts [] = refl
  related_are facts (k ∷ ks) = one (concerns facts (effects_of actions k)) (related_are facts ks)
    where
      one : (b : Bool) → ids_related facts (map (child_of actions) ks) ≡ map id_of (filter (λ k. concerns facts (effects_of actions k)) ks) →
          map (λ (c : Child). c.id) (cond b (child_of actions k ∷ filter (λ (c : Child). concerns facts c.effects) (map (child_of actions) ks)) (filter (λ (c : Child). concerns facts c.effects) (map (child_of actions) ks)))
          ≡ map id_of (cond b (k ∷ filter (λ k. concerns facts (effects_of actions k)) ks) (filter (λ k. concerns facts (effects_of actions k)) ks))
      one true e = ap (λ z. z ∷ ids_related facts (map (child_of actions) ks)) (child_id k) ∙ ap (λ z. id_of k ∷ z) e
      one false e = e

  sides_are : (block : Node) (kid : Node) (facts : List ℕ) (kids : List Node) → sides_by block (child_of actions kid).id (ids_related facts (map (child_of actions) kids)) ≡ sides_of block kid (filter (λ k. concerns facts (effects_of actions k)) kids)
  sides_are block kid facts kids =
      ap (λ i. sides_by block i (ids_related facts (map (child_of actions) kids))) (child_id kid)
      ∙ ap (sides_by block (id_of kid)) (related_are facts kids)
      ∙ ap (λ z. (id_of kid ∷ []) ∷ z) (map_map (hull_of block (id_of kid)) id_of (filter (λ k. concerns facts (effects_of actions k)) kids))

module _ (task : TaskView) (root : Node) (span : ℕ) where
  abbrev pick : Gain → Option Gain
  pick c = cond (qualifies task root c) (Some c) None

  abbrev pub first_of_list : Option Gain
  first_of_list = first_some (map pick (candidates task.actions root span))

  if_both : (a b : Bool) (c : Gain) → cond a (cond b (Some c) None) None ≡ cond (a && b) (Some c) None
  if_both true b c = refl
  if_both false b c = refl

  if_not : (b : Bool) (o : Option Gain) → cond (not b) o None ≡ cond b None o
  if_not true o = refl
  if_not false o = refl

  abbrev made : ℕ → List ℕ → List ℕ → Gain
  made block left right = record { block = block; left = left; right = right }

  among : (block : ℕ) (lefts rights : List (List ℕ)) → first_some (map pick (filter (fits root span) (with_each block lefts rights))) ≡ gain_among task root span block lefts rights
  among block lefts rights =
      first-filter pick (fits root span) (with_each block lefts rights)
      ∙ ap first_some (map_same (λ c. cond (fits root span c) (pick c) None) (gain_if task root span) (λ c. if_both (fits root span c) (qualifies task root c) c) (with_each block lefts rights))
      ∙ first-flat (gain_if task root span) (λ left. map (made block left) rights) lefts
      ∙ ap first_some (map_same (λ left. first_some (map (gain_if task root span) (map (made block left) rights))) (gain_with task root span block rights)
      (λ left. ap first_some (map_map (gain_if task root span) (made block left) rights)) lefts)

  module _ (l : Level) where
    abbrev block : Node
    block = Block l.own l.kids l.order

    abbrev known : List Child
    known = map (child_of task.actions) l.kids

    of_two : (o q : Option Node) → first_some (map pick (pair_candidates task.actions root span l o q)) ≡ gain_of_two task root span l.own block known (option_map (child_of task.actions) o) (option_map (child_of task.actions) q)
    of_two None q = refl
    of_two (Some a) None = refl
    of_two (Some a) (Some b) =
        let facts = facts_between (effects_of task.actions a) (effects_of task.actions b) in
        among l.own (sides_of block a (related task.actions l.kids a b)) (sides_of block b (related task.actions l.kids a b))
        ∙ ap (λ z. gain_among task root span l.own z (sides_of block b (related task.actions l.kids a b))) (sym (sides_are task.actions block a facts l.kids))
        ∙ ap (gain_among task root span l.own (sides_by block (child_of task.actions a).id (ids_related facts known))) (sym (sides_are task.actions block b facts l.kids))

    at_pair : (p : ℕ × ℕ) → cond (not (leads_to l.order p)) (first_some (map pick (pair_candidates task.actions root span l (slice_get l.kids p.0) (slice_get l.kids p.1)))) None ≡ gain_at task root span l.own block known l.order p
    at_pair p =
        if_not (leads_to l.order p) (first_some (map pick (pair_candidates task.actions root span l (slice_get l.kids p.0) (slice_get l.kids p.1))))
        ∙ ap (cond (leads_to l.order p) None) (
        of_two (slice_get l.kids p.0) (slice_get l.kids p.1)
        ∙ ap (λ z. gain_of_two task root span l.own block known z (option_map (child_of task.actions) (slice_get l.kids p.1))) (sym (slice_get-map (child_of task.actions) l.kids p.0))
        ∙ ap (gain_of_two task root span l.own block known (slice_get known p.0)) (sym (slice_get-map (child_of task.actions) l.kids p.1))
        )

    of_level : first_some (map pick (level_candidates task.actions root span l)) ≡ gain_of_pairs task root span l.own block known l.order
    of_level =
        first-flat pick (λ p. pair_candidates task.actions root span l (slice_get l.kids p.0) (slice_get l.kids p.1)) (covers l.order)
        ∙ first-filter (λ (p : ℕ × ℕ). first_some (map pick (pair_candidates task.actions root span l (slice_get l.kids p.0) (slice_get l.kids p.1)))) (λ p. not (leads_to l.order p)) l.order
        ∙ ap first_some (map_same (λ p. cond (not (leads_to l.order p)) (first_some (map pick (pair_candidates task.actions root span l (slice_get l.kids p.0) (slice_get l.kids p.1)))) None) (gain_at task root span l.own block known l.order) at_pair l.order)

    found_gain : find_in l.own root ≡ Some block → gain_in task root span (find_in l.own root) ≡ gain_of_pairs task root span l.own block known l.order
    found_gain e = ap (gain_in task root span) e ∙ ap (gain_in_layer task root span block) (outs-Block l.own l.kids l.order)

  pub first_is : IsWellFormed root → first_gain task root span ≡ first_of_list
  first_is well =
      ap (λ z. first_some (map (λ id. gain_in task root span (find_in id root)) z)) (blocks_are root)
      ∙ ap first_some (map_map (λ id. gain_in task root span (find_in id root)) (λ (l : Level). l.own) (levels_of root))
      ∙ ap first_some (map_on (λ (l : Level). gain_in task root span (find_in l.own root)) (λ l. first_some (map pick (level_candidates task.actions root span l))) (levels_of root)
      (λ l i. found_gain l (level_found l root well.distinct i) ∙ sym (of_level l)))
      ∙ sym (first-flat pick (level_candidates task.actions root span) (levels_of root))

  -- the test of a candidate, in words
  pub to_words : (c : Gain) → qualifies task root c ≡ true → Qualifies task root c
  to_words c e =
      let last = and_parts (nat_lt (pairs_of (tree_of root c)) (pairs_of root) && not (nat_lt 64 (depth_of (tree_of root c)))) (is_none (first_fault task (tree_of root c))) e in
      let front = and_parts (nat_lt (pairs_of (tree_of root c)) (pairs_of root)) (not (nat_lt 64 (depth_of (tree_of root c)))) last.0 in
      record {
        sound = (none_where_sound task (tree_of root c)).0 (none_is (first_fault task (tree_of root c)) last.1);
        fewer = ltb-true (pairs_of (tree_of root c)) (pairs_of root) front.0;
        shallow = not_above (depth_of (tree_of root c)) (not-true _ front.1);
      }
    where
      not_above : (d : ℕ) → nat_lt 64 d ≡ false → d ≤ 64
      not_above d e = elim (Rattle.std.proofs.lemmas.Bool.cases_lt 64 d) [
        | inl lt ↦ absurd (both_ways _ e (lt-ltb 64 d lt))
        | inr le ↦ le
      ]

  pub from_words : (c : Gain) → Qualifies task root c → qualifies task root c ≡ true
  from_words c q = and_from _ _
      (and_from _ _ (lt-ltb (pairs_of (tree_of root c)) (pairs_of root) q.fewer) (ap not (le-ltb 64 (depth_of (tree_of root c)) q.shallow)))
      (is_none_of (first_fault task (tree_of root c)) ((none_where_sound task (tree_of root c)).1 q.sound))

  none_qualifies : (cs : List Gain) → first_some (map pick cs) ≡ None → AllByRecursion (λ c. Qualifies task root c → ⊥) cs
  none_qualifies [] e = tt
  none_qualifies (c ∷ cs) e = one (qualifies task root c) refl e (none_qualifies cs)
    where
      one : (b : Bool) → qualifies task root c ≡ b → first_some (cond b (Some c) None ∷ map pick cs) ≡ None → (first_some (map pick cs) ≡ None → AllByRecursion (λ c. Qualifies task root c → ⊥) cs) →
          (Qualifies task root c → ⊥) × AllByRecursion (λ c. Qualifies task root c → ⊥) cs
      one true is e rest = absurd (cc)
      one false is e rest = ((λ q. both_ways _ is (from_words c q)), rest e)

  none_found : (cs : List Gain) → AllByRecursion (λ c. Qualifies task root c → ⊥) cs → first_some (map pick cs) ≡ None
  none_found [] all = refl
  none_found (c ∷ cs) all = one (qualifies task root c) refl (none_found cs all.1)
    where
      one : (b : Bool) → qualifies task root c ≡ b → first_some (map pick cs) ≡ None → first_some (cond b (Some c) None ∷ map pick cs) ≡ None
      one true is rest = absurd (all.0 (to_words c is))
      one false is rest = rest

  pub none_where_tight : first_of_list ≡ None ↔ IsTight task root span
  none_where_tight = (none_qualifies (candidates task.actions root span), none_found (candidates task.actions root span))

  some_in : (cs : List Gain) (c : Gain) → first_some (map pick cs) ≡ Some c → In c cs × Qualifies task root c
  some_in [] c e = absurd (cc)
  some_in (d ∷ cs) c e = one (qualifies task root d) refl e (some_in cs c)
    where
      one : (b : Bool) → qualifies task root d ≡ b → first_some (cond b (Some d) None ∷ map pick cs) ≡ Some c → (first_some (map pick cs) ≡ Some c → In c cs × Qualifies task root c) → In c (d ∷ cs) × Qualifies task root c
      one true is e rest =
          let same : d ≡ c = cc in
          (subst (λ (z : Gain). In z (d ∷ cs)) same here, subst (Qualifies task root) same (to_words d is))
      one false is e rest = let r = rest e in (there r.0, r.1)

  pub some_found : (c : Gain) → first_of_list ≡ Some c → In c (candidates task.actions root span) × Qualifies task root c
  some_found c e = some_in (candidates task.actions root span) c e
