-- A tree is sound exactly where it is sound for each fact alone.
use Rattle.std.proofs.Common.{◌≡◌, ℕ, ◌+◌, Bool, true, false, not, ◌&&◌, ◌||◌, List, [], ◌∷◌, map, refl, sym, ap, ◌∙◌}
use Rattle.std.specs.List.{list_all, enumerate_from, slice_get}
use Rattle.std.proofs.lemmas.Bool.{and_parts, and_from, both_ways}
use Rattle.bd_base.specs.Facts.{has}
use Rattle.bd_base.specs.Pairs.{is_before}
use Rattle.bd_task.specs.declared.ground.Action.{Action}
use Rattle.bd_task.specs.TaskView.{TaskView}
use Rattle.bd_tree.specs.declared.node.Node.{Node, Step, Block}
use Rattle.bd_tree.specs.declared.node.Node.TheOpen.{Node-F}
use Rattle.bd_tree.specs.declared.node.Node.TheViews.{rolls-Step, rolls-Block}
use Rattle.bd_tree.specs.declared.node.Node.TheFolds.{fold-roll-Node}
use Rattle.bd_tree.proofs.NodeLemmas.{Each, by_node}
use Rattle.bd_links.specs.declared.parts.Effects.{Effects}
use Rattle.bd_links.specs.Child.{Child}
use Rattle.bd_links.specs.Effects.{step_effects, are_safe}
use Rattle.bd_links.specs.Faults.{holds_after}
use Rattle.bd_links.specs.Sound.{Summary, summary_of, child_of, effects_of, is_well_linked, IsSound}
use Rattle.bd_links.proofs.Equations.{summary_of-Step, summary_of-Block, child_of-Block}
use Rattle.bd_links.proofs.Members.{subset_from_has, has_from_subset, all_has}
use Rattle.bd_tight.specs.Touch.{Touch, touch_of, row_of, row_touch, row_fine, Standing, rows, standing_step, standing_of, is_sound_for, IsSoundFor}
use Rattle.bd_tight.proofs.ListLemmas.{all_by_has}
use Rattle.bd_tight.proofs.TouchLemmas.{effects_row, safe_rows, rows_safe}

module _ (actions : List Action) (p : ℕ) where
  pub standing_of-Step : (id a : ℕ) → standing_of actions p (Step id a) ≡ record { touch = touch_of p (step_effects (slice_get actions a)); fine = true }
  standing_of-Step id a = ap (standing_of actions p) (sym (rolls-Step id a)) ∙ fold-roll-Node Standing (standing_step actions p) (Node-F.Step id a)

  pub standing_of-Block : (id : ℕ) (kids : List Node) (order : List (ℕ × ℕ)) → standing_of actions p (Block id kids order) ≡ standing_step actions p (Node-F.Block id (map (standing_of actions p) kids) order)
  standing_of-Block id kids order = ap (standing_of actions p) (sym (rolls-Block id kids order)) ∙ fold-roll-Node Standing (standing_step actions p) (Node-F.Block id kids order)

  abbrev Tells : Node → Type 0
  Tells n = (standing_of actions p n).touch ≡ touch_of p (effects_of actions n)

  rows_from : (m : ℕ) (kids : List Node) → Each Tells kids → enumerate_from m (map (λ (k : Standing). k.touch) (map (standing_of actions p) kids)) ≡ row_of p (enumerate_from m (map (child_of actions) kids))
  rows_from m [] e = refl
  rows_from m (k ∷ ks) e = ap (λ z. (m, z) ∷ enumerate_from (m + 1) (map (λ (k : Standing). k.touch) (map (standing_of actions p) ks))) e.0 ∙ ap (λ z. (m, touch_of p (effects_of actions k)) ∷ z) (rows_from (m + 1) ks e.1)

  -- how a node stands to a fact goes by its effects
  pub touch_told : (n : Node) → Tells n
  touch_told = by_node Tells
      (λ id a. ap (λ (s : Standing). s.touch) (standing_of-Step id a) ∙ ap (λ (s : Summary). touch_of p s.child.effects) (sym (summary_of-Step actions id a)))
      (λ id kids order e.
      ap (λ (s : Standing). s.touch) (standing_of-Block id kids order)
      ∙ ap (row_touch (is_before order)) (rows_from 0 kids e)
      ∙ sym (effects_row order (enumerate_from 0 (map (child_of actions) kids)) p)
      ∙ ap (λ (c : Child). touch_of p c.effects) (sym (child_of-Block actions id kids order)))

  all_told : (kids : List Node) → Each Tells kids
  all_told [] = tt
  all_told (k ∷ ks) = (touch_told k, all_told ks)

  -- the rows of a block's kids
  pub rows_are : (kids : List Node) → rows (map (standing_of actions p) kids) ≡ row_of p (enumerate_from 0 (map (child_of actions) kids))
  rows_are kids = rows_from 0 kids (all_told kids)

module _ (actions : List Action) where
  map-child : (kids : List Node) → map (λ (k : Summary). k.child) (map (summary_of actions) kids) ≡ map (child_of actions) kids
  map-child [] = refl
  map-child (k ∷ ks) = ap (λ z. child_of actions k ∷ z) (map-child ks)

  pub well_linked-Block : (id : ℕ) (kids : List Node) (order : List (ℕ × ℕ)) → is_well_linked actions (Block id kids order)
      ≡ (list_all (λ (k : Summary). k.well_linked) (map (summary_of actions) kids) && are_safe order (enumerate_from 0 (map (child_of actions) kids)))
  well_linked-Block id kids order =
      ap (λ (z : Summary). z.well_linked) (summary_of-Block actions id kids order)
      ∙ ap (λ z. list_all (λ (k : Summary). k.well_linked) (map (summary_of actions) kids) && are_safe order (enumerate_from 0 z)) (map-child kids)

  pub fine-Block : (p : ℕ) (id : ℕ) (kids : List Node) (order : List (ℕ × ℕ)) → (standing_of actions p (Block id kids order)).fine
      ≡ (list_all (λ (k : Standing). k.fine) (map (standing_of actions p) kids) && row_fine (is_before order) (row_of p (enumerate_from 0 (map (child_of actions) kids))))
  fine-Block p id kids order =
      ap (λ (z : Standing). z.fine) (standing_of-Block actions p id kids order)
      ∙ ap (λ z. list_all (λ (k : Standing). k.fine) (map (standing_of actions p) kids) && row_fine (is_before order) z) (rows_are actions p kids)

  abbrev Fines : Node → Type 0
  Fines n = is_well_linked actions n ≡ true → (p : ℕ) → (standing_of actions p n).fine ≡ true

  fine_kids : (kids : List Node) → Each Fines kids → list_all (λ (k : Summary). k.well_linked) (map (summary_of actions) kids) ≡ true → (p : ℕ) → list_all (λ (k : Standing). k.fine) (map (standing_of actions p) kids) ≡ true
  fine_kids [] e h p = refl
  fine_kids (k ∷ ks) e h p =
      let parts = and_parts (is_well_linked actions k) _ h in
      and_from _ _ (e.0 parts.0 p) (fine_kids ks e.1 parts.1 p)

  -- in a well linked node the links hold for each fact, and the other way round
  pub fine_where_linked : (n : Node) → Fines n
  fine_where_linked = by_node Fines
      (λ id a h p. ap (λ (s : Standing). s.fine) (standing_of-Step actions p id a))
      (λ id kids order e h p.
      let parts = and_parts (list_all (λ (k : Summary). k.well_linked) (map (summary_of actions) kids)) _ (sym (well_linked-Block id kids order) ∙ h) in
      fine-Block p id kids order ∙ and_from _ _ (fine_kids kids e parts.0 p) (safe_rows order (enumerate_from 0 (map (child_of actions) kids)) parts.1 p))

  abbrev Links : Node → Type 0
  Links n = ((p : ℕ) → (standing_of actions p n).fine ≡ true) → is_well_linked actions n ≡ true

  linked_kids : (kids : List Node) → Each Links kids → ((p : ℕ) → list_all (λ (k : Standing). k.fine) (map (standing_of actions p) kids) ≡ true) → list_all (λ (k : Summary). k.well_linked) (map (summary_of actions) kids) ≡ true
  linked_kids [] e h = refl
  linked_kids (k ∷ ks) e h = and_from _ _
      (e.0 (λ p. (and_parts ((standing_of actions p k).fine) _ (h p)).0))
      (linked_kids ks e.1 (λ p. (and_parts ((standing_of actions p k).fine) _ (h p)).1))

  pub linked_where_fine : (n : Node) → Links n
  linked_where_fine = by_node Links
      (λ id a h. ap (λ (s : Summary). s.well_linked) (summary_of-Step actions id a))
      (λ id kids order e h.
      let parts = λ (p : ℕ). and_parts (list_all (λ (k : Standing). k.fine) (map (standing_of actions p) kids)) _ (sym (fine-Block p id kids order) ∙ h p) in
      well_linked-Block id kids order ∙ and_from _ _ (linked_kids kids e (λ p. (parts p).0)) (rows_safe order (enumerate_from 0 (map (child_of actions) kids)) (λ p. (parts p).1)))

not_or : (n b : Bool) → (n ≡ true → b ≡ true) → (not n || b) ≡ true
not_or true b h = h refl
not_or false b h = refl

or_not : (n b : Bool) → (not n || b) ≡ true → n ≡ true → b ≡ true
or_not true b h e = h
or_not false b h e = absurd (both_ways false refl e)

module _ (task : TaskView) (root : Node) where
  abbrev e : Effects
  e = effects_of task.actions root

  -- what is asked of one fact, by the root's effects
  told : (p : ℕ) → is_sound_for task p (standing_of task.actions p root) ≡
      ((standing_of task.actions p root).fine && (not (has e.need p) || has task.init p) && (not (has task.goal p) || (has e.add p || (has task.init p && not (has e.del p)))))
  told p = ap (λ (t : Touch). (standing_of task.actions p root).fine && (not t.needs || has task.init p) && (not (has task.goal p) || (t.gives || (has task.init p && not t.deletes)))) (touch_told task.actions p root)

  pub sound_for_each : IsSound task root → (p : ℕ) → IsSoundFor task root p
  sound_for_each sound p = told p ∙ and_from _ _
      (and_from _ _ (fine_where_linked task.actions root sound.linked p) (not_or (has e.need p) (has task.init p) (has_from_subset e.need task.init sound.needs p)))
      (not_or (has task.goal p) (holds_after task.init e p) (all_has (holds_after task.init e) task.goal p sound.goals))

  pub sound_where_each : ((p : ℕ) → IsSoundFor task root p) → IsSound task root
  sound_where_each h =
      let parts = λ (p : ℕ). and_parts ((standing_of task.actions p root).fine && (not (has e.need p) || has task.init p)) _ (sym (told p) ∙ h p) in
      let two = λ (p : ℕ). and_parts ((standing_of task.actions p root).fine) _ (parts p).0 in
      record {
        linked = linked_where_fine task.actions root (λ p. (two p).0);
        needs = subset_from_has e.need task.init (λ p. or_not (has e.need p) (has task.init p) (two p).1);
        goals = all_by_has (holds_after task.init e) task.goal (λ p. or_not (has task.goal p) (holds_after task.init e p) (parts p).1);
      }
