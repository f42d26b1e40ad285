-- Sound trees: each linearisation runs to the goal.
use Rattle.std.proofs.Common.{◌≡◌, ℕ, zero, suc, ◌+◌, ◌<◌, ◌≤◌, true, false, not, List, [], ◌∷◌, ◌++◌, map, length, Option, Some, None, refl, sym, ap, ◌∙◌, subst, inl, inr, arith}
use Rattle.std.specs.List.{list_all, enumerate_from, slice_get}
use Rattle.std.proofs.lemmas.Bool.{and_parts, and_from, or_cases, or_left, or_right, not-true}
use Rattle.bd_base.specs.Facts.{has, minus}
use Rattle.bd_base.specs.Pairs.{is_before}
use Rattle.bd_base.proofs.FactLemmas.{has-plus, has-minus}
use Rattle.bd_task.specs.declared.ground.Action.{Action}
use Rattle.bd_task.specs.TaskView.{TaskView}
use Rattle.bd_task.specs.Run.{after, step_by, run_on, run}
use Rattle.bd_task.specs.Valid.{IsValid}
use Rattle.bd_tree.specs.declared.node.Node.{Node}
use Rattle.bd_links.specs.declared.parts.Effects.{Effects}
use Rattle.bd_tree.specs.Linearisation.{IsFirst, IsLinearisation, LinearisesKids, of_step, of_block, no_kid, next_kid}
use Rattle.bd_links.specs.Effects.{Kid, Order, are_safe, block_effects, step_effects}
use Rattle.bd_links.specs.Faults.{holds_after}
use Rattle.bd_links.specs.Sound.{Summary, summary_of, numbered, IsSound, AreThere}
use Rattle.bd_links.proofs.Equations.{summary_of-out_step, summary_of-out_block}
use Rattle.bd_links.proofs.Members.{In, here, there, in_middle, in_with, subset_from_has, has_from_subset, all_has}
use Rattle.bd_links.proofs.OneLevel.{Ran, Distinct, Between, between_start, between_next, between_end, need_holds, needed_from_need}

pub run-append : (task : TaskView) (xs ys s : List ℕ) → run task s (xs ++ ys) ≡ run_on (run task s xs) (λ t. run task t ys)
run-append task [] ys s = refl
run-append task (x ∷ xs) ys s = on_step (step_by (slice_get task.actions x) s) (run-append task xs ys)
  where
    on_step : (o : Option (List ℕ)) → ((t : List ℕ) → run task t (xs ++ ys) ≡ run_on (run task t xs) (λ t. run task t ys)) →
        run_on o (λ t. run task t (xs ++ ys)) ≡ run_on (run_on o (λ t. run task t xs)) (λ t. run task t ys)
    on_step None h = refl
    on_step (Some t) h = h t

there_front : (task : TaskView) (xs ys : List ℕ) → AreThere task (xs ++ ys) → AreThere task xs
there_front task [] ys h = tt
there_front task (x ∷ xs) ys h = (h.0, there_front task xs ys h.1)

there_back : (task : TaskView) (xs ys : List ℕ) → AreThere task (xs ++ ys) → AreThere task ys
there_back task [] ys h = h
there_back task (x ∷ xs) ys h = there_back task xs ys h.1

-- a step does what its action's sets say
pub after_ran : (a : Action) (s : List ℕ) → Ran s (after a s) (step_effects (Some a))
after_ran a s = record {
  adds = λ p add. has-plus (minus s a.del) a.add p ∙ or_left _ _ add;
  keeps = λ p old no_del. has-plus (minus s a.del) a.add p ∙ or_right _ _ (has-minus s a.del p ∙ and_from _ _ (ap not no_del) old);
}

pub found : (actions : List Action) (x : ℕ) → x < length actions → (a : Action) × (slice_get actions x ≡ Some a)
found [] x lt = absurd (omega arith)
found (a ∷ rest) zero lt = (a, refl)
found (a ∷ rest) (suc x) lt = found rest x (omega arith)

step_runs : (task : TaskView) (x : ℕ) (s : List ℕ) → x < length task.actions → ((p : ℕ) → has (step_effects (slice_get task.actions x)).need p ≡ true → has s p ≡ true) →
    (t : List ℕ) × (run task s (x ∷ []) ≡ Some t) × Ran s t (step_effects (slice_get task.actions x))
step_runs task x s lt need =
    let a = found task.actions x lt in
    let needs : (p : ℕ) → has (step_effects (Some a.0)).need p ≡ true → has s p ≡ true = subst (λ o. (p : ℕ) → has (step_effects o).need p ≡ true → has s p ≡ true) a.1 need in
    (after a.0 s, rw (a.1, subset_from_has a.0.pre s needs), subst (λ o. Ran s (after a.0 s) (step_effects o)) (sym a.1) (after_ran a.0 s))

module _ (task : TaskView) where
  -- a kid of the tree as one of the law of one level
  abbrev kid_of : ℕ × Node → Kid
  kid_of k = (k.0, (summary_of task.actions k.1).child)

  numbered-is : (n : ℕ) (kids : List Node) → map kid_of (enumerate_from n kids) ≡ enumerate_from n (map (λ (k : Summary). k.child) (map (summary_of task.actions) kids))
  numbered-is n [] = refl
  numbered-is n (k ∷ ks) = ap (λ z. kid_of (n, k) ∷ z) (numbered-is (n + 1) ks)

  map-middle : (b a : List (ℕ × Node)) (k : ℕ × Node) → map kid_of (b ++ k ∷ a) ≡ map kid_of b ++ kid_of k ∷ map kid_of a
  map-middle [] a k = refl
  map-middle (x ∷ b) a k = ap (λ z. kid_of x ∷ z) (map-middle b a k)

  map-joined : (b a : List (ℕ × Node)) → map kid_of (b ++ a) ≡ map kid_of b ++ map kid_of a
  map-joined [] a = refl
  map-joined (x ∷ b) a = ap (λ z. kid_of x ∷ z) (map-joined b a)

  positions_from : (n : ℕ) (kids : List Node) (x : Kid) → In x (map kid_of (enumerate_from n kids)) → n ≤ x.0
  positions_from n [] x i = elim i [ ]
  positions_from n (k ∷ ks) x here = omega arith
  positions_from n (k ∷ ks) x (there i) = omega (arith, positions_from (n + 1) ks x i)

  distinct_positions : (n : ℕ) (kids : List Node) → Distinct (map kid_of (enumerate_from n kids))
  distinct_positions n [] = tt
  distinct_positions n (k ∷ ks) = (λ x i e. let far = positions_from (n + 1) ks x i in omega arith, distinct_positions (n + 1) ks)

  first_of : (order : Order) (j : ℕ) (rest : List (ℕ × Node)) → IsFirst order j rest → (r : Kid) → In r (map kid_of rest) → is_before order r.0 j ≡ false
  first_of order j [] e r i = elim i [ ]
  first_of order j (k ∷ rest) e r here = not-true _ (and_parts (not (is_before order k.0 j)) _ e).0
  first_of order j (k ∷ rest) e r (there i) = first_of order j rest (and_parts (not (is_before order k.0 j)) _ e).1 r i

  AreOk : List (ℕ × Node) → Type 0
  AreOk rest = (k : ℕ × Node) → In k rest → (summary_of task.actions k.1).well_linked ≡ true

  unfoldable oks_of : (n : ℕ) (kids : List Node) → list_all (λ (k : Summary). k.well_linked) (map (summary_of task.actions) kids) ≡ true → (k : ℕ × Node) → In k (enumerate_from n kids) → (summary_of task.actions k.1).well_linked ≡ true
  oks_of n [] e k i = elim i [ ]
  oks_of n (x ∷ kids) e k here = (and_parts (summary_of task.actions x).well_linked _ e).0
  oks_of n (x ∷ kids) e k (there i) = oks_of (n + 1) kids (and_parts (summary_of task.actions x).well_linked _ e).1 k i

  -- a list runs from a state, with these effects
  abbrev Runs : List ℕ → List ℕ → Effects → Type 0
  Runs s list e = (t : List ℕ) × (run task s list ≡ Some t) × Ran s t e

  mutual
    pub node_runs : (n : Node) (list : List ℕ) → IsLinearisation n list → (summary_of task.actions n).well_linked ≡ true → AreThere task list → (s : List ℕ) →
        ((p : ℕ) → has (summary_of task.actions n).child.effects.need p ≡ true → has s p ≡ true) → Runs s list (summary_of task.actions n).child.effects
    node_runs n list (of_step id a e) ok all_there s need =
        let same = ap (λ (z : Summary). z.child.effects) (summary_of-out_step task.actions n id a e) in
        let r = step_runs task a s all_there.0 (λ p h. need p (subst (λ (z : Effects). has z.need p ≡ true) (sym same) h)) in
        (r.0, r.1, subst (λ z. Ran s r.0 z) (sym same) r.2)
    node_runs n list (of_block id kids order e of) ok all_there s need =
        let is = summary_of-out_block task.actions n id kids order e in
        let same = ap (λ (z : Summary). z.child.effects) is in
        let all = numbered (map (summary_of task.actions) kids) in
        let oks = and_parts (list_all (λ (k : Summary). k.well_linked) (map (summary_of task.actions) kids)) (are_safe order all) (subst (λ (z : Summary). z.well_linked ≡ true) is ok) in
        let numbers = numbered-is 0 kids in
        let begin = subst (λ z. Between order all [] z s s) (sym numbers) (between_start order all s (subst Distinct numbers (distinct_positions 0 kids))) in
        let r = kids_run order (enumerate_from 0 kids) list of (oks_of 0 kids oks.0) all_there all [] s s begin oks.1 (λ p h. need p (subst (λ (z : Effects). has z.need p ≡ true) (sym same) h)) in
        (r.0, r.1, subst (λ z. Ran s r.0 z) (sym same) r.2)

    kids_run : (order : Order) (rest : List (ℕ × Node)) (list : List ℕ) → LinearisesKids order rest list → ((k : ℕ × Node) → In k rest → (summary_of task.actions k.1).well_linked ≡ true) → AreThere task list →
        (kids done : List Kid) (start s : List ℕ) → Between order kids done (map kid_of rest) start s → are_safe order kids ≡ true →
        ((p : ℕ) → has (block_effects order kids).need p ≡ true → has start p ≡ true) →
        (t : List ℕ) × (run task s list ≡ Some t) × Ran start t (block_effects order kids)
    kids_run order rest list no_kid oks all_there kids done start s h ok need = (s, refl, between_end order kids done start s h)
    kids_run order rest list (next_kid b a k front back split first lin of joined) oks all_there kids done start s h ok need =
        let parts = ap (map kid_of) split ∙ map-middle b a k in
        let now = subst (λ z. Between order kids done z start s) parts h in
        let firsts = λ (r : Kid) (i : In r (map kid_of b ++ kid_of k ∷ map kid_of a)). first_of order k.0 rest first r (subst (λ z. In r z) (sym parts) i) in
        let needs = need_holds order kids done (map kid_of b) (map kid_of a) (kid_of k) start s now firsts ok (needed_from_need order kids start need) in
        let whole = subst (AreThere task) joined all_there in
        let ran = node_runs k.1 front lin (oks k (subst (λ z. In k z) (sym split) (in_middle b a k))) (there_front task front back whole) s needs in
        let next = between_next order kids done (map kid_of b) (map kid_of a) (kid_of k) start s now firsts ran.0 ran.2 in
        let r = kids_run order (b ++ a) back of (λ j i. oks j (subst (λ z. In j z) (sym split) (in_with b a k j i))) (there_back task front back whole)
        kids (kid_of k ∷ done) start ran.0 (subst (λ z. Between order kids (kid_of k ∷ done) z start ran.0) (sym (map-joined b a)) next) ok need in
        (r.0, ap (run task s) joined ∙ run-append task front back s ∙ ap (λ z. run_on z (λ t. run task t back)) ran.1 ∙ r.1, r.2)

  -- a sound tree's linearisations run to the goal
  pub links_hold : (root : Node) → IsSound task root → (list : List ℕ) → IsLinearisation root list → AreThere task list → IsValid task list
  links_hold root sound list lin all_there =
      let s = summary_of task.actions root in
      let e = s.child.effects in
      let r = node_runs root list lin sound.linked all_there task.init (has_from_subset e.need task.init sound.needs) in
      let goals = subset_from_has task.goal r.0 (λ g h. elim (or_cases (has e.add g) _ (all_has (holds_after task.init e) task.goal g sound.goals h)) [
        | inl added ↦ r.2.adds g added
        | inr stays ↦ let p = and_parts (has task.init g) (not (has e.del g)) stays in r.2.keeps g p.0 (not-true _ p.1)
      ]) in
      rw (r.1) goals
