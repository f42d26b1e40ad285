-- The chain of a list is sound exactly where the list is valid.
use Rattle.std.proofs.Common.{◌≡◌, ◌↔◌, ℕ, zero, suc, ◌+◌, ◌<◌, Bool, true, false, cond, not, ◌&&◌, ◌||◌, List, [], ◌∷◌, map, length, Option, Some, None, is_none, refl, sym, ap, ◌∙◌, subst, inl, inr, arith}
use Rattle.std.specs.List.{list_all, find, enumerate_from, slice_get}
use Rattle.std.specs.Option.{option_or}
use Rattle.std.proofs.lemmas.Bool.{both_ways, and_parts, and_from, or_cases, or_left, or_right, cases_Bool, not-true, false_from_ne_true}
use Rattle.bd_base.specs.Facts.{has, is_subset, minus}
use Rattle.bd_base.specs.Pairs.{total_order}
use Rattle.bd_base.proofs.FactLemmas.{has-plus, has-minus}
use Rattle.bd_task.specs.declared.ground.Action.{Action}
use Rattle.bd_task.specs.TaskView.{TaskView}
use Rattle.bd_task.specs.Run.{after, step_by, run_on, run}
use Rattle.bd_task.specs.Valid.{HoldsIn, IsValid}
use Rattle.bd_tree.specs.Chain.{steps_from, chain_of}
use Rattle.bd_links.specs.declared.parts.Effects.{Effects}
use Rattle.bd_links.specs.Child.{Child}
use Rattle.bd_links.specs.Effects.{step_effects, block_effects}
use Rattle.bd_links.specs.Faults.{first_of, inside, block_fault, holds_after, root_fault}
use Rattle.bd_links.specs.InTurn.{no_effects, turn, turns, turns_fault}
use Rattle.bd_links.specs.Sound.{Summary, summary_of, child_of, effects_of, IsSound, AreThere, first_fault}
use Rattle.bd_links.proofs.Equations.{summary_of-Step, child_of-Block, fault_of-Block}
use Rattle.bd_links.proofs.Faultless.{none_or, none-root, none_is, is_none_of, none_where_sound}
use Rattle.bd_links.proofs.Members.{subset_from_has, has_from_subset}
use Rattle.bd_links.proofs.Passes.{turn_add, turn_del, turn_need, turns_need_more, block_effects_in_turn, block_fault_in_turn}
use Rattle.bd_links.proofs.Runs.{found}

-- the children of a chain, with ids from the number on
abbrev children : List Action → ℕ → List ℕ → List Child
children actions id [] = []
children actions id (a ∷ list) = record { id = id; effects = step_effects (slice_get actions a) } ∷ children actions (id + 1) list

children-are : (actions : List Action) (id : ℕ) (list : List ℕ) → map (child_of actions) (steps_from id list) ≡ children actions id list
children-are actions id [] = refl
children-are actions id (a ∷ list) =
    ap (λ (s : Summary). s.child ∷ map (child_of actions) (steps_from (id + 1) list)) (summary_of-Step actions id a)
    ∙ ap (λ z. record { id = id; effects = step_effects (slice_get actions a) } ∷ z) (children-are actions (id + 1) list)

length-children : (actions : List Action) (id : ℕ) (list : List ℕ) → length (children actions id list) ≡ length list
length-children actions id [] = refl
length-children actions id (a ∷ list) = ap suc (length-children actions (id + 1) list)

no_fault_inside : (actions : List Action) (id : ℕ) (list : List ℕ) → first_of (map (λ (k : Summary). k.fault) (map (summary_of actions) (steps_from id list))) ≡ None
no_fault_inside actions id [] = refl
no_fault_inside actions id (a ∷ list) =
    ap (λ (s : Summary). option_or s.fault (first_of (map (λ (k : Summary). k.fault) (map (summary_of actions) (steps_from (id + 1) list))))) (summary_of-Step actions id a)
    ∙ no_fault_inside actions (id + 1) list

-- the first fault of a chain, by one pass
chain_fault : (task : TaskView) (list : List ℕ) → first_fault task (chain_of list) ≡ option_or (turns_fault 0 no_effects (children task.actions 1 list)) (root_fault task.init task.goal (turns no_effects (children task.actions 1 list)))
chain_fault task list =
    let cs = children task.actions 1 list in
    let steps = steps_from 1 list in
    let order = total_order (length list) in
    let pairs : order ≡ total_order (length cs) = ap total_order (sym (length-children task.actions 1 list)) in
    let fault : (summary_of task.actions (chain_of list)).fault ≡ turns_fault 0 no_effects cs =
    fault_of-Block task.actions 0 steps order
    ∙ ap (λ z. option_or z (block_fault 0 order (enumerate_from 0 (map (child_of task.actions) steps)))) (no_fault_inside task.actions 1 list)
    ∙ ap (λ z. block_fault 0 order (enumerate_from 0 z)) (children-are task.actions 1 list)
    ∙ ap (λ z. block_fault 0 z (enumerate_from 0 cs)) pairs ∙ block_fault_in_turn cs 0 in
    let effects : effects_of task.actions (chain_of list) ≡ turns no_effects cs =
    ap (λ (c : Child). c.effects) (child_of-Block task.actions 0 steps order)
    ∙ ap (λ z. block_effects order (enumerate_from 0 z)) (children-are task.actions 1 list)
    ∙ ap (λ z. block_effects z (enumerate_from 0 cs)) pairs ∙ block_effects_in_turn cs in
    ap (λ z. option_or z (root_fault task.init task.goal (effects_of task.actions (chain_of list)))) fault
    ∙ ap (λ z. option_or (turns_fault 0 no_effects cs) (root_fault task.init task.goal z)) effects

-- the state that a list has reached, by the effects so far
abbrev Reaches : List ℕ → Effects → List ℕ → Type 0
Reaches init e s = (q : ℕ) → has s q ≡ (has e.add q || (has init q && not (has e.del q)))

abbrev AreApart : Effects → Type 0
AreApart e = (q : ℕ) → has e.add q ≡ true → has e.del q ≡ false

reaches_next : (init : List ℕ) (e : Effects) (s : List ℕ) (a : Action) → Reaches init e s → Reaches init (turn e (step_effects (Some a))) (after a s)
reaches_next init e s a h q =
    let k = step_effects (Some a) in
    has-plus (minus s a.del) a.add q ∙ ap (λ b. has a.add q || b) (has-minus s a.del q) ∙ ap (λ b. has a.add q || (not (has a.del q) && b)) (h q)
    ∙ mixed (has a.add q) (has a.del q) (has e.add q) (has init q) (has e.del q)
    ∙ ap (λ b. (has a.add q || (not (has a.del q) && has e.add q)) || (has init q && not b)) (sym (turn_del e k q))
    ∙ ap (λ b. b || (has init q && not (has (turn e k).del q))) (sym (turn_add e k q))
  where
    mixed : (a d l i n : Bool) → (a || (not d && (l || (i && not n)))) ≡ ((a || (not d && l)) || (i && not (not a && (d || n))))
    mixed true d l i n = refl
    mixed false true l true n = refl
    mixed false true l false n = refl
    mixed false false true i n = refl
    mixed false false false i n = refl

apart_next : (e k : Effects) → AreApart e → AreApart (turn e k)
apart_next e k h q added = turn_del e k q ∙ by_cases (has k.add q) (has k.del q) (has e.add q) (has e.del q) (sym (turn_add e k q) ∙ added) (h q)
  where
    by_cases : (a d l n : Bool) → (a || (not d && l)) ≡ true → (l ≡ true → n ≡ false) → (not a && (d || n)) ≡ false
    by_cases true d l n e h = refl
    by_cases false true l n e h = absurd (both_ways false refl e)
    by_cases false false true n e h = h refl
    by_cases false false false n e h = absurd (both_ways false refl e)

-- a search that finds nothing
none_found : (t : ℕ → Bool) (xs : List ℕ) (q : ℕ) → find t xs ≡ None → has xs q ≡ true → t q ≡ false
none_found t xs q e h = false_from_ne_true (t q) (λ told. go xs e h told)
  where
    go : (xs : List ℕ) → find t xs ≡ None → has xs q ≡ true → t q ≡ true → ⊥
    go [] e h told = both_ways false refl h
    go (x ∷ xs) e h told = elim (cases_Bool (t x)) [
      | inl hit ↦ both_ways (is_none (find t (x ∷ xs))) (rw hit refl) (ap is_none e)
      | inr miss ↦ elim (or_cases (Rattle.std.proofs.Common.eqb x q) (has xs q) h) [
        | inl same ↦ both_ways (t x) miss (subst (λ z. t z ≡ true) (sym (Rattle.std.proofs.lemmas.Bool.eqb-true x q same)) told)
        | inr later ↦ go xs (sym (let z : find t (x ∷ xs) ≡ find t xs = rw miss refl in z) ∙ e) later told
      ]
    ]

none_to_find : (t : ℕ → Bool) (xs : List ℕ) → ((q : ℕ) → has xs q ≡ true → t q ≡ false) → find t xs ≡ None
none_to_find t [] h = refl
none_to_find t (x ∷ xs) h = rw (h x (or_left _ _ (Rattle.std.proofs.lemmas.Bool.eq-eqb x x refl))) (none_to_find t xs (λ q i. h q (or_right _ _ i)))

all_same : (t u : ℕ → Bool) (xs : List ℕ) → ((q : ℕ) → t q ≡ u q) → list_all t xs ≡ list_all u xs
all_same t u [] h = refl
all_same t u (x ∷ xs) h = rw (h x, all_same t u xs h) refl

inside_none : (block child : ℕ) (p : Option ℕ) → inside block child p ≡ None → p ≡ None
inside_none block child None e = refl
inside_none block child (Some p) e = absurd (both_ways false refl (ap is_none e))

module _ (task : TaskView) where
  abbrev over : ℕ → List ℕ → List Child
  over id list = children task.actions id list

  -- the pass finds no fault, nor does the root
  record IsFaultless (e : Effects) (id : ℕ) (list : List ℕ) : Type 0 where
    inner : turns_fault 0 e (over id list) ≡ None
    needs : is_subset (turns e (over id list)).need task.init ≡ true
    goals : list_all (holds_after task.init (turns e (over id list))) task.goal ≡ true

  valid_from : (list : List ℕ) (id : ℕ) (e : Effects) (s : List ℕ) → AreThere task list → Reaches task.init e s → IsFaultless e id list → HoldsIn task.goal (run task s list)
  valid_from [] id e s there reach f = all_same (has s) (holds_after task.init e) task.goal reach ∙ f.goals
  valid_from (x ∷ list) id e s there reach f =
      let a = found task.actions x there.0 in
      let k = step_effects (Some a.0) in
      let opened : IsFaultless e id (x ∷ list) ≡ IsFaultless e id (x ∷ list) = refl in
      let parts = and_parts (is_none (inside 0 id (find (has e.del) (step_effects (slice_get task.actions x)).need))) (is_none (turns_fault 0 (turn e (step_effects (slice_get task.actions x))) (over (id + 1) list)))
      (sym (none_or (inside 0 id (find (has e.del) (step_effects (slice_get task.actions x)).need)) (turns_fault 0 (turn e (step_effects (slice_get task.actions x))) (over (id + 1) list))) ∙ is_none_of _ f.inner) in
      let here : find (has e.del) k.need ≡ None = subst (λ o. find (has e.del) (step_effects o).need ≡ None) a.1 (inside_none 0 id _ (none_is _ parts.0)) in
      let rest : IsFaultless (turn e k) (id + 1) list = subst (λ o. IsFaultless (turn e (step_effects o)) (id + 1) list) a.1 (record { inner = none_is _ parts.1; needs = f.needs; goals = f.goals }) in
      let runs : is_subset a.0.pre s ≡ true = subset_from_has a.0.pre s (λ q want. reach q ∙ elim (cases_Bool (has e.add q)) [
        | inl added ↦ or_left _ _ added
        | inr other ↦ or_right _ _ (and_from _ _
            (has_from_subset (turns (turn e k) (over (id + 1) list)).need task.init rest.needs q
            (turns_need_more (over (id + 1) list) (turn e k) q (turn_need e k q ∙ or_left _ _ (and_from _ _ (ap not other) want))))
            (ap not (none_found (has e.del) a.0.pre q here want)))
      ]) in
      subst (λ o. HoldsIn task.goal (run_on (step_by o s) (λ t. run task t list))) (sym a.1)
      (rw runs (valid_from list (id + 1) (turn e k) (after a.0 s) there.1 (reaches_next task.init e s a.0 reach) rest))

  faultless_from : (list : List ℕ) (id : ℕ) (e : Effects) (s : List ℕ) → AreThere task list → Reaches task.init e s → AreApart e → is_subset e.need task.init ≡ true → HoldsIn task.goal (run task s list) → IsFaultless e id list
  faultless_from [] id e s there reach apart needs valid = record { inner = refl; needs = needs; goals = sym (all_same (has s) (holds_after task.init e) task.goal reach) ∙ valid }
  faultless_from (x ∷ list) id e s there reach apart needs valid =
      let a = found task.actions x there.0 in
      let k = step_effects (Some a.0) in
      let ran : HoldsIn task.goal (run_on (step_by (Some a.0) s) (λ t. run task t list)) = subst (λ o. HoldsIn task.goal (run_on (step_by o s) (λ t. run task t list))) a.1 valid in
      let fits : is_subset a.0.pre s ≡ true = pre_holds a.0 ran in
      let next : HoldsIn task.goal (run task (after a.0 s) list) = subst (λ b. HoldsIn task.goal (run_on (cond b (Some (after a.0 s)) None) (λ t. run task t list))) fits ran in
      let here : find (has e.del) a.0.pre ≡ None = none_to_find (has e.del) a.0.pre (λ q want. kept q (sym (reach q) ∙ has_from_subset a.0.pre s fits q want)) in
      let wants : is_subset (turn e k).need task.init ≡ true = subset_from_has (turn e k).need task.init (λ q want. elim (or_cases (not (has e.add q) && has k.need q) (has e.need q) (sym (turn_need e k q) ∙ want)) [
        | inl new ↦ let both = and_parts (not (has e.add q)) (has k.need q) new in at_start q (not-true _ both.0) (sym (reach q) ∙ has_from_subset a.0.pre s fits q both.1)
        | inr old ↦ has_from_subset e.need task.init needs q old
      ]) in
      let rest = faultless_from list (id + 1) (turn e k) (after a.0 s) there.1 (reaches_next task.init e s a.0 reach) (apart_next e k apart) wants next in
      let back : IsFaultless (turn e (step_effects (slice_get task.actions x))) (id + 1) list = subst (λ o. IsFaultless (turn e (step_effects o)) (id + 1) list) (sym a.1) rest in
      record {
        inner = subst (λ o. option_or (inside 0 id (find (has e.del) (step_effects o).need)) (turns_fault 0 (turn e (step_effects o)) (over (id + 1) list)) ≡ None) (sym a.1) (rw here rest.inner);
        needs = back.needs;
        goals = back.goals;
      }
    where
      pre_holds : (a : Action) → HoldsIn task.goal (run_on (step_by (Some a) s) (λ t. run task t list)) → is_subset a.pre s ≡ true
      pre_holds a h = elim (cases_Bool (is_subset a.pre s)) [
        | inl yes_fits ↦ yes_fits
        | inr no_fits ↦ absurd (subst (λ b. HoldsIn task.goal (run_on (cond b (Some (after a s)) None) (λ t. run task t list))) no_fits h)
      ]

      kept : (q : ℕ) → (has e.add q || (has task.init q && not (has e.del q))) ≡ true → has e.del q ≡ false
      kept q h = elim (or_cases (has e.add q) (has task.init q && not (has e.del q)) h) [
        | inl added ↦ apart q added
        | inr stays ↦ not-true _ (and_parts (has task.init q) (not (has e.del q)) stays).1
      ]

      at_start : (q : ℕ) → has e.add q ≡ false → (has e.add q || (has task.init q && not (has e.del q))) ≡ true → has task.init q ≡ true
      at_start q other h = elim (or_cases (has e.add q) (has task.init q && not (has e.del q)) h) [
        | inl added ↦ absurd (both_ways _ other added)
        | inr stays ↦ (and_parts (has task.init q) (not (has e.del q)) stays).0
      ]

  reaches_start : Reaches task.init no_effects task.init
  reaches_start q = mixed (has task.init q)
    where
      mixed : (b : Bool) → b ≡ (false || (b && true))
      mixed true = refl
      mixed false = refl

  module _ (list : List ℕ) (there : AreThere task list) where
    tests : is_none (first_fault task (chain_of list)) ≡ (is_none (turns_fault 0 no_effects (over 1 list)) && (is_subset (turns no_effects (over 1 list)).need task.init && list_all (holds_after task.init (turns no_effects (over 1 list))) task.goal))
    tests =
        ap is_none (chain_fault task list) ∙ none_or (turns_fault 0 no_effects (over 1 list)) (root_fault task.init task.goal (turns no_effects (over 1 list)))
        ∙ ap (λ b. is_none (turns_fault 0 no_effects (over 1 list)) && b) (none-root task.init task.goal (turns no_effects (over 1 list)))

    to_valid : IsSound task (chain_of list) → IsValid task list
    to_valid sound =
        let all = and_parts (is_none (turns_fault 0 no_effects (over 1 list))) _ (sym tests ∙ is_none_of _ ((none_where_sound task (chain_of list)).1 sound)) in
        let two = and_parts (is_subset (turns no_effects (over 1 list)).need task.init) _ all.1 in
        valid_from list 1 no_effects task.init there reaches_start (record { inner = none_is _ all.0; needs = two.0; goals = two.1 })

    to_sound : IsValid task list → IsSound task (chain_of list)
    to_sound valid =
        let f = faultless_from list 1 no_effects task.init there reaches_start (λ q e. refl) refl valid in
        (none_where_sound task (chain_of list)).0 (none_is _ (tests ∙ and_from _ _ (is_none_of _ f.inner) (and_from _ _ f.needs f.goals)))

    pub chain_law : IsSound task (chain_of list) ↔ IsValid task list
    chain_law = (to_valid, to_sound)
