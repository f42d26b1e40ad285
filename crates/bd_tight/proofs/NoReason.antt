-- Without the pair of two kids that has no reason, a sound tree is sound still.
use Rattle.std.proofs.Common.{◌≡◌, ℕ, Bool, true, false, not, ◌&&◌, ◌||◌, eqb, cond, List, [], ◌∷◌, ◌++◌, map, filter, Option, Some, refl, sym, ap, ◌∙◌}
use Rattle.std.specs.List.{list_all}
use Rattle.std.specs.Option.{option_map_or}
use Rattle.std.proofs.lemmas.Bool.{and_parts, both_ways, eqb-true}
use Rattle.bd_base.specs.Facts.{has}
use Rattle.bd_base.specs.Pairs.{is_before}
use Rattle.bd_task.specs.declared.ground.Action.{Action}
use Rattle.bd_task.specs.TaskView.{TaskView}
use Rattle.bd_tree.specs.declared.node.Node.{Node, Block}
use Rattle.bd_tree.specs.declared.node.Node.TheOpen.{Node-F}
use Rattle.bd_tree.specs.declared.node.Node.TheViews.{outs-Block}
use Rattle.bd_tree.specs.Tree.{id_of, ids_of}
use Rattle.bd_tree.specs.WellFormed.{are_distinct, IsWellFormed}
use Rattle.bd_links.specs.declared.parts.Effects.{Effects}
use Rattle.bd_links.specs.Sound.{effects_of, IsSound}
use Rattle.bd_links.proofs.Members.{In, has-filter}
use Rattle.bd_shape.specs.Unordered.{CanUnorder, stands_at, unordered_pairs, unordered_block, unordered}
use Rattle.bd_shape.specs.Kids.{kids_at}
use Rattle.bd_shape.proofs.KidLemmas.{IsThere, is_there, kids_found, map-append}
use Rattle.bd_shape.proofs.RemadeLemmas.{changes}
use Rattle.bd_shape.proofs.TimesLemmas.{times_once, kids_distinct}
use Rattle.bd_reason.specs.declared.reason.Reason.TheVariants.{PC, CD, DP}
use Rattle.bd_reason.specs.Reasons.{reasons_of, reasons_if, kid_with, reasons_in_layer, reasons_in, reasons_at}
use Rattle.bd_tight.specs.Touch.{Touch, Toucher, Before, touch_of, row_touch, row_fine, is_reason, Standing, rows, standing_step, standing_of, IsSoundFor}
use Rattle.bd_tight.specs.Judged.{touch_at, kid_row}
use Rattle.bd_tight.proofs.KidLemmas.{IsKid, the_kid, row_only}
use Rattle.bd_tight.proofs.RowLemmas.{Loses, touch_same, fine_same}
use Rattle.bd_tight.proofs.StandingLemmas.{standing_of-Block, rows_are, sound_for_each, sound_where_each}

-- a list that nothing is in
append_none : {X : Type 0} (xs ys : List X) → xs ++ ys ≡ [] → (xs ≡ []) × (ys ≡ [])
append_none [] ys e = (refl, e)
append_none (x ∷ xs) ys e = absurd (cc)

map_none : {X : Type 0} {Y : Type 0} (f : X → Y) (xs : List X) → map f xs ≡ [] → xs ≡ []
map_none f [] e = refl
map_none f (x ∷ xs) e = absurd (cc)

none_both : (xs ys : List ℕ) (p : ℕ) → filter (has ys) xs ≡ [] → (has xs p && has ys p) ≡ false
none_both xs ys p e = swap (has xs p) (has ys p) (sym (has-filter (has ys) xs p) ∙ ap (λ z. has z p) e)
  where
    swap : (a b : Bool) → (b && a) ≡ false → (a && b) ≡ false
    swap true true e = e
    swap true false e = refl
    swap false b e = refl

-- without reasons, no fact is one
pub no_reason : (a b : Effects) → reasons_of a b ≡ [] → (p : ℕ) → is_reason (touch_of p a) (touch_of p b) ≡ false
no_reason a b e p =
    let one = append_none (map PC (filter (has b.need) a.add) ++ map CD (filter (has b.del) a.need)) (map DP (filter (has b.add) a.del)) e in
    let two = append_none (map PC (filter (has b.need) a.add)) (map CD (filter (has b.del) a.need)) one.0 in
    three (has a.add p && has b.need p) (has a.need p && has b.del p) (has a.del p && has b.add p)
    (none_both a.add b.need p (map_none PC (filter (has b.need) a.add) two.0))
    (none_both a.need b.del p (map_none CD (filter (has b.del) a.need) two.1))
    (none_both a.del b.add p (map_none DP (filter (has b.add) a.del) one.1))
  where
    three : (u v w : Bool) → u ≡ false → v ≡ false → w ≡ false → (u || v || w) ≡ false
    three u v w e f g = rw (e, f, g) refl

-- a pair that an order loses
pub lost : (t : ℕ × ℕ → Bool) (order : List (ℕ × ℕ)) (a b : ℕ) → is_before (filter (λ p. not (t p)) order) a b ≡ (is_before order a b && not (t (a, b)))
lost t [] a b = refl
lost t (p ∷ ps) a b = one (t p) (eqb p.0 a && eqb p.1 b) refl (same p) (lost t ps a b)
  where
    same : (p : ℕ × ℕ) → (eqb p.0 a && eqb p.1 b) ≡ true → t p ≡ t (a, b)
    same p e = let parts = and_parts (eqb p.0 a) (eqb p.1 b) e in ap (λ z. t (z, p.1)) (eqb-true p.0 a parts.0) ∙ ap (λ z. t (a, z)) (eqb-true p.1 b parts.1)

    one : (g h : Bool) → (eqb p.0 a && eqb p.1 b) ≡ h → (h ≡ true → g ≡ t (a, b)) → is_before (filter (λ p. not (t p)) ps) a b ≡ (is_before ps a b && not (t (a, b))) →
        is_before (cond (not g) (p ∷ filter (λ p. not (t p)) ps) (filter (λ p. not (t p)) ps)) a b ≡ ((h || is_before ps a b) && not (t (a, b)))
    one true true e s r = r ∙ gone (is_before ps a b) (t (a, b)) (s refl)
      where
        gone : (u v : Bool) → true ≡ v → (u && not v) ≡ (true && not v)
        gone true v e = refl
        gone false true e = refl
        gone false false e = absurd (both_ways false refl (sym e))
    one true false e s r = r
    one false true e s r = ap (λ z. z || is_before (filter (λ p. not (t p)) ps) a b) e ∙ ap not (s refl)
    one false false e s r = ap (λ z. z || is_before (filter (λ p. not (t p)) ps) a b) e ∙ r

module _ (actions : List Action) (p : ℕ) where
  abbrev stands_to : Node → Standing
  stands_to n = standing_of actions p n

  -- how a block stands to a fact, where one kid changes and stands to it as before
  pub standing_around : (own : ℕ) (before : List Node) (k new : Node) (after : List Node) (o : List (ℕ × ℕ)) → stands_to new ≡ stands_to k → stands_to (Block own (before ++ new ∷ after) o) ≡ stands_to (Block own (before ++ k ∷ after) o)
  standing_around own before k new after o e =
      standing_of-Block actions p own (before ++ new ∷ after) o
      ∙ ap (λ z. standing_step actions p (Node-F.Block own z o)) (map-append stands_to before (new ∷ after) ∙ ap (λ z. map stands_to before ++ z ∷ map stands_to after) e ∙ sym (map-append stands_to before (k ∷ after)))
      ∙ sym (standing_of-Block actions p own (before ++ k ∷ after) o)

module _ (actions : List Action) (root : Node) (block i j : ℕ) (well : IsWellFormed root) (first : has (kids_at block root) i ≡ true) (second : has (kids_at block root) j ≡ true) where
  abbrev pub there : IsThere block root
  there = is_there block root i first

  abbrev kids : List Node
  kids = there.kids

  abbrev order : List (ℕ × ℕ)
  order = there.order

  abbrev pairs : List (ℕ × ℕ)
  pairs = unordered_pairs i j kids order

  distinct : are_distinct (map id_of kids) ≡ true
  distinct = kids_distinct root block block kids order well.distinct there.found

  own : kids_at block root ≡ map id_of kids
  own = kids_found block root block kids order there.found

  pub first_kid : IsKid i kids
  first_kid = the_kid i kids distinct (sym (ap (λ z. has z i) own) ∙ first)

  pub second_kid : IsKid j kids
  second_kid = the_kid j kids distinct (sym (ap (λ z. has z j) own) ∙ second)

  -- the reasons of the pair
  pub reasons_are : reasons_at actions block i j root ≡ reasons_of (effects_of actions first_kid.node) (effects_of actions second_kid.node)
  reasons_are =
      ap (λ (o : Option Node). option_map_or (λ (node : Node). reasons_in actions node i j) o []) there.found
      ∙ ap (reasons_in_layer actions i j) (outs-Block block kids order)
      ∙ ap (λ z. reasons_if actions z (kid_with j kids)) first_kid.found
      ∙ ap (λ z. reasons_if actions (Some first_kid.node) z) second_kid.found

  -- the pair that goes is that of the two positions
  abbrev pub gone : Before
  gone a b = eqb a first_kid.at && eqb b second_kid.at

  pub loses : Loses (is_before order) gone (is_before pairs)
  loses a b =
      lost (λ q. stands_at kids i q.0 && stands_at kids j q.1) order a b
      ∙ ap (λ z. is_before order a b && not (z && stands_at kids j b)) (first_kid.alone a)
      ∙ ap (λ z. is_before order a b && not (eqb a first_kid.at && z)) (second_kid.alone b)

  module _ (p : ℕ) where
    -- at the block and above it nothing changes for a fact that is no reason of the pair
    pub idle_here : is_reason (touch_at actions p first_kid.node) (touch_at actions p second_kid.node) ≡ false → standing_of actions p (Block block kids pairs) ≡ standing_of actions p (Block block kids order)
    idle_here none =
        let row = kid_row actions p kids in
        let idle : (x y : Toucher) → In x row → In y row → gone x.0 y.0 ≡ true → is_reason x.1 y.1 ≡ false = λ x y m n g.
        let parts = and_parts (eqb x.0 first_kid.at) (eqb y.0 second_kid.at) g in
        ap (λ z. is_reason z y.1) (row_only actions p kids first_kid.at first_kid.node first_kid.stands x m (eqb-true _ _ parts.0))
        ∙ ap (λ z. is_reason (touch_at actions p first_kid.node) z) (row_only actions p kids second_kid.at second_kid.node second_kid.stands y n (eqb-true _ _ parts.1))
        ∙ none in
        standing_of-Block actions p block kids pairs
        ∙ ap (λ z. made (row_touch (is_before pairs) z) (row_fine (is_before pairs) z)) (rows_are actions p kids)
        ∙ ap (λ z. made z (row_fine (is_before pairs) row)) (touch_same (is_before order) gone (is_before pairs) row loses idle)
        ∙ ap (λ z. made (row_touch (is_before order) row) z) (fine_same (is_before order) gone (is_before pairs) row loses idle)
        ∙ sym (ap (λ z. made (row_touch (is_before order) z) (row_fine (is_before order) z)) (rows_are actions p kids))
        ∙ sym (standing_of-Block actions p block kids order)
      where
        made : Touch → Bool → Standing
        made t f = record { touch = t; fine = list_all (λ (k : Standing). k.fine) (map (standing_of actions p) kids) && f }

    pub idle_above : is_reason (touch_at actions p first_kid.node) (touch_at actions p second_kid.node) ≡ false → standing_of actions p (unordered root block i j) ≡ standing_of actions p root
    idle_above none = changes block (unordered_block block i j) (λ old new. standing_of actions p new ≡ standing_of actions p old) kids order (idle_here none)
        (λ own before k new after o ne first e. standing_around actions p own before k new after o e) root (times_once block (ids_of root) well.distinct) there.found

-- the tree without a pair that has no reason
pub harmless : (task : TaskView) (root : Node) (block i j : ℕ) → IsWellFormed root → CanUnorder root block i j → IsSound task root → reasons_at task.actions block i j root ≡ [] → IsSound task (unordered root block i j)
harmless task root block i j well can sound none =
    let e = sym (reasons_are task.actions root block i j well can.first can.second) ∙ none in
    sound_where_each task (unordered root block i j) (λ p.
    ap (λ s. Rattle.bd_tight.specs.Touch.is_sound_for task p s) (idle_above task.actions root block i j well can.first can.second p (no_reason _ _ e p)) ∙ sound_for_each task root sound p)
