-- A flat tree is sound where each step is served for each fact that it needs, and each goal fact is kept to the end.
use Rattle.std.proofs.Common.{◌≡◌, ℕ, ◌+◌, Bool, true, false, not, ◌&&◌, ◌||◌, eqb, List, [], ◌∷◌, map, refl, sym, ap, ◌∙◌, subst, inl, inr}
use Rattle.std.specs.List.{list_any, list_all, enumerate_from, slice_get}
use Rattle.std.proofs.lemmas.Bool.{cases_Bool, or_cases, or_left, or_right, and_parts, and_from, both_ways, false_from_ne_true, not-true}
use Rattle.bd_base.specs.Facts.{has, is_subset}
use Rattle.bd_base.specs.Pairs.{is_before}
use Rattle.bd_task.specs.declared.ground.Action.{Action}
use Rattle.bd_task.specs.TaskView.{TaskView}
use Rattle.bd_tree.specs.declared.node.Node.{Node, Block}
use Rattle.bd_tree.specs.Chain.{steps_from}
use Rattle.bd_links.specs.declared.parts.Effects.{Effects}
use Rattle.bd_links.specs.Child.{Child}
use Rattle.bd_links.specs.Effects.{Kid, step_effects, is_linked, is_needed, is_given, is_deleted, is_safe, are_safe, all_facts, block_effects}
use Rattle.bd_links.specs.Faults.{holds_after}
use Rattle.bd_links.specs.Rows.{holders}
use Rattle.bd_links.specs.Sound.{Summary, summary_of, child_of, effects_of, is_well_linked, IsSound}
use Rattle.bd_links.proofs.Equations.{summary_of-Step, summary_of-Block, child_of-Block}
use Rattle.bd_links.proofs.Members.{In, any_some, some_any, all_at, all_from, has-filter, has-all_facts, all_has, subset_from_has, has_from_subset}
use Rattle.bd_links.proofs.RowLemmas.{all-holders, links_is, later_is, gives_is}
use Rattle.bd_deorder.specs.Direct.{children_of}
use Rattle.bd_deorder.specs.Served.{links, is_later, is_served, gives_last, is_kept}
use Rattle.bd_deorder.proofs.LinkLemmas.{all_by}

pub children-are : (actions : List Action) (id : ℕ) (list : List ℕ) → map (child_of actions) (steps_from id list) ≡ children_of actions id list
children-are actions id [] = refl
children-are actions id (a ∷ list) =
    ap (λ (s : Summary). s.child ∷ map (child_of actions) (steps_from (id + 1) list)) (summary_of-Step actions id a)
    ∙ ap (λ z. record { id = id; effects = step_effects (slice_get actions a) } ∷ z) (children-are actions (id + 1) list)

map-child : (actions : List Action) (kids : List Node) → map (λ (k : Summary). k.child) (map (summary_of actions) kids) ≡ map (child_of actions) kids
map-child actions [] = refl
map-child actions (k ∷ kids) = ap (λ z. child_of actions k ∷ z) (map-child actions kids)

steps_linked : (actions : List Action) (id : ℕ) (list : List ℕ) → list_all (λ (k : Summary). k.well_linked) (map (summary_of actions) (steps_from id list)) ≡ true
steps_linked actions id [] = refl
steps_linked actions id (a ∷ list) = and_from _ _ (ap (λ (s : Summary). s.well_linked) (summary_of-Step actions id a)) (steps_linked actions (id + 1) list)

module _ (task : TaskView) (list : List ℕ) (order : List (ℕ × ℕ)) where
  root_linked : is_well_linked task.actions (Block 0 (steps_from 1 list) order) ≡ (list_all (λ (k : Summary). k.well_linked) (map (summary_of task.actions) (steps_from 1 list)) && are_safe order (enumerate_from 0 (children_of task.actions 1 list)))
  root_linked =
      ap (λ (z : Summary). z.well_linked) (summary_of-Block task.actions 0 (steps_from 1 list) order)
      ∙ ap (λ z. list_all (λ (k : Summary). k.well_linked) (map (summary_of task.actions) (steps_from 1 list)) && are_safe order (enumerate_from 0 z)) (map-child task.actions (steps_from 1 list) ∙ children-are task.actions 1 list)

  root_effects : effects_of task.actions (Block 0 (steps_from 1 list) order) ≡ block_effects order (enumerate_from 0 (children_of task.actions 1 list))
  root_effects =
      ap (λ (c : Child). c.effects) (child_of-Block task.actions 0 (steps_from 1 list) order)
      ∙ ap (λ z. block_effects order (enumerate_from 0 z)) (children-are task.actions 1 list)

  abbrev givers : ℕ → List ℕ
  givers p = holders (λ (e : Effects). e.add) (enumerate_from 0 (children_of task.actions 1 list)) p

  abbrev deleters : ℕ → List ℕ
  deleters p = holders (λ (e : Effects). e.del) (enumerate_from 0 (children_of task.actions 1 list)) p

  -- each step is served, and each goal fact kept
  pub record IsServed : Type 0 where
    pub steps : (j : Kid) → In j (enumerate_from 0 (children_of task.actions 1 list)) → (p : ℕ) → has j.1.effects.need p ≡ true → is_served (is_before order) (has task.init p) (givers p) (deleters p) j.0 ≡ true
    pub goals : (p : ℕ) → has task.goal p ≡ true → is_kept (is_before order) (has task.init p) (givers p) (deleters p) ≡ true

  none_deletes : (p : ℕ) → list_all (λ d. false) (deleters p) ≡ true → (d : Kid) → In d (enumerate_from 0 (children_of task.actions 1 list)) → has d.1.effects.del p ≡ true → ⊥
  none_deletes p e d i h =
      let test = all_at (λ (k : Kid). not (has k.1.effects.del p) || false) d (enumerate_from 0 (children_of task.actions 1 list)) (sym (all-holders (λ (e : Effects). e.del) (λ z. false) p (enumerate_from 0 (children_of task.actions 1 list))) ∙ e) i in
      elim (or_cases (not (has d.1.effects.del p)) false test) [ inl off ↦ both_ways _ (not-true _ off) h | inr off ↦ both_ways false refl off ]

  pub to_served : IsSound task (Block 0 (steps_from 1 list) order) → IsServed
  to_served s =
      let all = enumerate_from 0 (children_of task.actions 1 list) in
      let safe : are_safe order all ≡ true = (and_parts (list_all (λ (k : Summary). k.well_linked) (map (summary_of task.actions) (steps_from 1 list))) (are_safe order all) (sym root_linked ∙ s.linked)).1 in
      let needs : is_subset (block_effects order all).need task.init ≡ true = subst (λ (e : Effects). is_subset e.need task.init ≡ true) root_effects s.needs in
      let ends : list_all (holds_after task.init (block_effects order all)) task.goal ≡ true = subst (λ (e : Effects). list_all (holds_after task.init e) task.goal ≡ true) root_effects s.goals in
      record {
        steps = λ j i p want.
            let test : is_safe order all j p ≡ true = all_has (is_safe order all j) j.1.effects.need p (all_at (λ (j : Kid). list_all (is_safe order all j) j.1.effects.need) j all safe i) want in
            elim (cases_Bool (is_linked order all j.0 p)) [
              | inl linked ↦ or_left _ _ (links_is order all p j.0 ∙ linked)
              | inr not_linked ↦ or_right _ _ (and_from _ _
                  (has_from_subset (block_effects order all).need task.init needs p
                  (has-filter (is_needed order all) (all_facts (λ (e : Effects). e.need) all) p
                  ∙ and_from _ _ (some_any (λ (k : Kid). has k.1.effects.need p && not (is_linked order all k.0 p)) j all i (and_from _ _ want (ap not not_linked)))
                  (has-all_facts (λ (e : Effects). e.need) j all p i want)))
                  (later_is order all p j.0 ∙ second (is_linked order all j.0 p) _ not_linked test))
            ];
        goals = λ p want.
            let test : holds_after task.init (block_effects order all) p ≡ true = all_has (holds_after task.init (block_effects order all)) task.goal p ends want in
            elim (cases_Bool (is_given order all p)) [
              | inl given ↦ or_left _ _ (gives_is order all p ∙ given)
              | inr not_given ↦
                  let not_added : has (block_effects order all).add p ≡ false = has-filter (is_given order all) (all_facts (λ (e : Effects). e.add) all) p ∙ ap (λ b. b && has (all_facts (λ (e : Effects). e.add) all) p) not_given in
                  let stays = and_parts (has task.init p) (not (has (block_effects order all).del p)) (second (has (block_effects order all).add p) _ not_added test) in
                  or_right _ _ (and_from _ _ stays.0 (all-holders (λ (e : Effects). e.del) (λ z. false) p all ∙ all_from (λ (k : Kid). not (has k.1.effects.del p) || false) all (λ d i.
                  or_left _ _ (ap not (false_from_ne_true (has d.1.effects.del p) (λ h. both_ways _ (not-true _ stays.1)
                  (has-filter (is_deleted order all) (all_facts (λ (e : Effects). e.del) all) p
                  ∙ and_from _ _ (and_from _ _ (some_any (λ (k : Kid). has k.1.effects.del p) d all i h) (ap not not_given)) (has-all_facts (λ (e : Effects). e.del) d all p i h))))))))
            ];
      }
    where
      second : (a b : Bool) → a ≡ false → (a || b) ≡ true → b ≡ true
      second true b e h = absurd (both_ways true e refl)
      second false b e h = h

  pub from_served : IsServed → IsSound task (Block 0 (steps_from 1 list) order)
  from_served s =
      let all = enumerate_from 0 (children_of task.actions 1 list) in
      record {
        linked = root_linked ∙ and_from _ _ (steps_linked task.actions 1 list) (all_from (λ (j : Kid). list_all (is_safe order all j) j.1.effects.need) all (λ j i. all_by (is_safe order all j) j.1.effects.need (λ p want.
            elim (or_cases (list_any (links (is_before order) (deleters p) j.0) (givers p)) (has task.init p && list_all (is_later (is_before order) j.0) (deleters p)) (s.steps j i p want)) [
              | inl linked ↦ or_left _ _ (sym (links_is order all p j.0) ∙ linked)
              | inr later ↦ or_right _ _ (sym (later_is order all p j.0) ∙ (and_parts (has task.init p) (list_all (is_later (is_before order) j.0) (deleters p)) later).1)
            ])));
        needs = subst (λ (e : Effects). is_subset e.need task.init ≡ true) (sym root_effects) (subset_from_has (block_effects order all).need task.init (λ p want.
            let two = and_parts (is_needed order all p) (has (all_facts (λ (e : Effects). e.need) all) p) (sym (has-filter (is_needed order all) (all_facts (λ (e : Effects). e.need) all) p) ∙ want) in
            let r = any_some (λ (k : Kid). has k.1.effects.need p && not (is_linked order all k.0 p)) all two.0 in
            let both = and_parts (has r.0.1.effects.need p) (not (is_linked order all r.0.0 p)) r.2 in
            elim (or_cases (list_any (links (is_before order) (deleters p) r.0.0) (givers p)) (has task.init p && list_all (is_later (is_before order) r.0.0) (deleters p)) (s.steps r.0 r.1 p both.0)) [
              | inl linked ↦ absurd (both_ways _ (not-true _ both.1) (sym (links_is order all p r.0.0) ∙ linked))
              | inr later ↦ (and_parts (has task.init p) (list_all (is_later (is_before order) r.0.0) (deleters p)) later).0
            ]));
        goals = subst (λ (e : Effects). list_all (holds_after task.init e) task.goal ≡ true) (sym root_effects) (all_by (holds_after task.init (block_effects order all)) task.goal (λ p want.
            elim (or_cases (list_any (gives_last (is_before order) (deleters p)) (givers p)) (has task.init p && list_all (λ d. false) (deleters p)) (s.goals p want)) [
              | inl last ↦
                  let given : is_given order all p ≡ true = sym (gives_is order all p) ∙ last in
                  let r = any_some (λ (k : Kid). has k.1.effects.add p && list_all (λ (d : Kid). eqb d.0 k.0 || not (has d.1.effects.del p) || is_before order d.0 k.0) all) all given in
                  let adds : has r.0.1.effects.add p ≡ true = (and_parts (has r.0.1.effects.add p) _ r.2).0 in
                  or_left _ _ (has-filter (is_given order all) (all_facts (λ (e : Effects). e.add) all) p ∙ and_from _ _ given (has-all_facts (λ (e : Effects). e.add) r.0 all p r.1 adds))
              | inr stays ↦
                  let two = and_parts (has task.init p) (list_all (λ d. false) (deleters p)) stays in
                  or_right _ _ (and_from _ _ two.0 (ap not (false_from_ne_true (has (block_effects order all).del p) (λ h.
                  let dels = and_parts (is_deleted order all p) (has (all_facts (λ (e : Effects). e.del) all) p) (sym (has-filter (is_deleted order all) (all_facts (λ (e : Effects). e.del) all) p) ∙ h) in
                  let r = any_some (λ (k : Kid). has k.1.effects.del p) all (and_parts (list_any (λ (k : Kid). has k.1.effects.del p) all) (not (is_given order all p)) dels.0).0 in
                  none_deletes p two.1 r.0 r.1 r.2))))
            ]));
      }
