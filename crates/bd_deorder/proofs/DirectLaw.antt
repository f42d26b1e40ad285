-- The direct pairs of a valid list: an order with them is sound, and each has a reason.
use Rattle.std.proofs.Common.{◌≡◌, ◌≢◌, ℕ, zero, suc, ◌+◌, ◌<◌, Bool, true, false, ◌&&◌, ◌||◌, eqb, List, [], ◌∷◌, ◌++◌, map, filter, length, Some, refl, sym, ap, ◌∙◌, subst, inl, inr, arith}
use Rattle.std.specs.List.{list_any, enumerate_from, slice_get}
use Rattle.std.specs.Option.{option_map}
use Rattle.std.proofs.lemmas.Option.{slice_get-map}
use Rattle.std.proofs.lemmas.Bool.{or_cases, or_left, or_right, and_parts, and_from, both_ways, eqb-true}
use Rattle.bd_base.specs.Facts.{has}
use Rattle.bd_base.specs.Pairs.{is_before, total_order}
use Rattle.bd_task.specs.TaskView.{TaskView}
use Rattle.bd_task.specs.Valid.{IsValid}
use Rattle.bd_tree.specs.declared.node.Node.{Node, Block}
use Rattle.bd_tree.specs.Chain.{steps_from}
use Rattle.bd_links.specs.declared.parts.Effects.{Effects}
use Rattle.bd_links.specs.Child.{Child}
use Rattle.bd_links.specs.declared.parts.Touches.{Touches}
use Rattle.bd_links.specs.Effects.{Kid}
use Rattle.bd_links.specs.Rows.{Tells, holders, places_of}
use Rattle.bd_links.specs.Sound.{child_of, effects_of, IsSound, AreThere}
use Rattle.bd_links.proofs.ChainLaw.{chain_law}
use Rattle.bd_links.proofs.Members.{In, here, there, any_some, some_any, has-filter}
use Rattle.bd_links.proofs.RowLemmas.{any-holders}
use Rattle.bd_links.proofs.TotalOrder.{total_below, in_from, in_below}
use Rattle.bd_reason.specs.declared.reason.Reason.{Reason}
use Rattle.bd_reason.specs.declared.reason.Reason.TheVariants.{PC, CD, DP}
use Rattle.bd_reason.specs.Reasons.{reasons_of}
use Rattle.bd_deorder.specs.Direct.{children_of, is_need_pair, is_goal_pair, is_step_pair, is_final_pair, is_direct}
use Rattle.bd_deorder.proofs.FlatLaw.{IsServed, to_served, from_served, children-are}
use Rattle.bd_deorder.proofs.LinkLemmas.{some_has, any_by, serves, keeps, need_explained, goal_explained}

-- ---- the kid at a position that a map tells

record Holds (f : Effects → List ℕ) (kids : List Kid) (p a : ℕ) : Type 0 where
  pub kid : Kid
  pub is_in : In kid kids
  pub at : kid.0 ≡ a
  pub holds : has (f kid.1.effects) p ≡ true

has_any : (s : List ℕ) (a : ℕ) → has s a ≡ list_any (λ x. eqb x a) s
has_any [] a = refl
has_any (x ∷ s) a = ap (λ z. eqb x a || z) (has_any s a)

holder_at : (f : Effects → List ℕ) (kids : List Kid) (p a : ℕ) → has (holders f kids p) a ≡ true → Holds f kids p a
holder_at f kids p a e =
    let r = any_some (λ (k : Kid). has (f k.1.effects) p && eqb k.0 a) kids (sym (any-holders f (λ x. eqb x a) p kids) ∙ sym (has_any (holders f kids p) a) ∙ e) in
    let two = and_parts (has (f r.0.1.effects) p) (eqb r.0.0 a) r.2 in
    record { kid = r.0; is_in = r.1; at = eqb-true r.0.0 a two.1; holds = two.0 }

-- ---- reasons of effects

filled : (f : ℕ → Reason) (s : List ℕ) (p : ℕ) → has s p ≡ true → map f s ≢ []
filled f [] p e h = both_ways false refl e
filled f (x ∷ s) p e h = cc

left_filled : (xs ys : List Reason) → xs ≢ [] → (xs ++ ys) ≢ []
left_filled [] ys ne h = ne refl
left_filled (x ∷ xs) ys ne h = cc

right_filled : (xs ys : List Reason) → ys ≢ [] → (xs ++ ys) ≢ []
right_filled [] ys ne h = ne h
right_filled (x ∷ xs) ys ne h = cc

abbrev causes : Effects → Effects → List Reason
causes a b = map PC (filter (has b.need) a.add)

abbrev threats : Effects → Effects → List Reason
threats a b = map CD (filter (has b.del) a.need)

abbrev restorings : Effects → Effects → List Reason
restorings a b = map DP (filter (has b.add) a.del)

by_cause : (a b : Effects) (p : ℕ) → has a.add p ≡ true → has b.need p ≡ true → reasons_of a b ≢ []
by_cause a b p gives needs =
    left_filled (causes a b ++ threats a b) (restorings a b) (left_filled (causes a b) (threats a b) (filled PC (filter (has b.need) a.add) p (has-filter (has b.need) a.add p ∙ and_from _ _ needs gives)))

by_threat : (a b : Effects) (p : ℕ) → has a.need p ≡ true → has b.del p ≡ true → reasons_of a b ≢ []
by_threat a b p needs deletes =
    left_filled (causes a b ++ threats a b) (restorings a b) (right_filled (causes a b) (threats a b) (filled CD (filter (has b.del) a.need) p (has-filter (has b.del) a.need p ∙ and_from _ _ deletes needs)))

by_restoring : (a b : Effects) (p : ℕ) → has a.del p ≡ true → has b.add p ≡ true → reasons_of a b ≢ []
by_restoring a b p deletes gives = right_filled (causes a b ++ threats a b) (restorings a b) (filled DP (filter (has b.add) a.del) p (has-filter (has b.add) a.del p ∙ and_from _ _ gives deletes))

-- ---- a kid by its position

at_place : (m : ℕ) (cs : List Child) (k : Kid) → In k (enumerate_from m cs) → (i : ℕ) → k.0 ≡ m + i → slice_get cs i ≡ Some k.1
at_place m [] k h i e = elim h [ ]
at_place m (c ∷ cs) k here zero e = refl
at_place m (c ∷ cs) k here (suc i) e = absurd (omega arith)
at_place m (c ∷ cs) k (there h) zero e = absurd (let le = in_from (m + 1) cs k h in omega arith)
at_place m (c ∷ cs) k (there h) (suc i) e = at_place (m + 1) cs k h i (omega arith)

module _ (task : TaskView) (list : List ℕ) (t : Touches) (tells : Tells t (enumerate_from 0 (children_of task.actions 1 list))) where
  abbrev direct : ℕ → ℕ → Bool
  direct a b = is_direct task.init task.goal t (length (children_of task.actions 1 list)) (enumerate_from 0 (children_of task.actions 1 list)) a b

  abbrev givers : ℕ → List ℕ
  givers p = holders (λ (e : Effects). e.add) (enumerate_from 0 (children_of task.actions 1 list)) p

  abbrev deleters : ℕ → List ℕ
  deleters p = holders (λ (e : Effects). e.del) (enumerate_from 0 (children_of task.actions 1 list)) p

  need_told : (p j a b : ℕ) → is_need_pair (has task.init p) (places_of t.gives p) (places_of t.deletes p) j a b ≡ is_need_pair (has task.init p) (givers p) (deleters p) j a b
  need_told p j a b = ap (λ z. is_need_pair (has task.init p) z (places_of t.deletes p) j a b) (tells.gives p) ∙ ap (λ z. is_need_pair (has task.init p) (givers p) z j a b) (tells.deletes p)

  goal_told : (p n a b : ℕ) → is_goal_pair (has task.init p) (places_of t.gives p) (places_of t.deletes p) n a b ≡ is_goal_pair (has task.init p) (givers p) (deleters p) n a b
  goal_told p n a b = ap (λ z. is_goal_pair (has task.init p) z (places_of t.deletes p) n a b) (tells.gives p) ∙ ap (λ z. is_goal_pair (has task.init p) (givers p) z n a b) (tells.deletes p)

  place_below : (f : Effects → List ℕ) (p a : ℕ) → has (holders f (enumerate_from 0 (children_of task.actions 1 list)) p) a ≡ true → a < length (children_of task.actions 1 list)
  place_below f p a e =
      let h = holder_at f (enumerate_from 0 (children_of task.actions 1 list)) p a e in
      let lt : h.kid.0 < 0 + length (children_of task.actions 1 list) = in_below 0 (children_of task.actions 1 list) h.kid h.is_in in
      let at : h.kid.0 ≡ a = h.at in
      omega arith

  -- an order with the direct pairs is sound
  pub sound_with : (order : List (ℕ × ℕ)) → AreThere task list → IsValid task list → ((a b : ℕ) → direct a b ≡ true → is_before order a b ≡ true) → IsSound task (Block 0 (steps_from 1 list) order)
  sound_with order are valid contains =
      let all = enumerate_from 0 (children_of task.actions 1 list) in
      let n = length (children_of task.actions 1 list) in
      let total = total_order (length list) in
      let s : IsServed task list total = to_served task list total ((chain_law task list are).1 valid) in
      from_served task list order (record {
        steps = λ j i p want. serves (has task.init p) (givers p) (deleters p) (is_before order) j.0
            (λ a b e. contains a b (or_left _ _ (some_any (λ (k : Kid). is_step_pair task.init t k.1.effects.need k.0 a b) j all i
            (any_by (λ q. is_need_pair (has task.init q) (places_of t.gives q) (places_of t.deletes q) j.0 a b) j.1.effects.need p want (need_told p j.0 a b ∙ e)))))
            (is_before total) (total_below (length list)) (s.steps j i p want);
        goals = λ p want. keeps (has task.init p) (givers p) (deleters p) (is_before order) n
            (λ a b e. contains a b (or_right (list_any (λ (k : Kid). is_step_pair task.init t k.1.effects.need k.0 a b) all) _
            (any_by (λ q. is_goal_pair (has task.init q) (places_of t.gives q) (places_of t.deletes q) n a b) task.goal p want (goal_told p n a b ∙ e))))
            (place_below (λ (e : Effects). e.add) p) (place_below (λ (e : Effects). e.del) p)
            (is_before total) (total_below (length list)) (s.goals p want);
      })

  -- a direct pair, by the two kids
  pub record Why (a b : ℕ) : Type 0 where
    pub first : Kid
    pub first_in : In first (enumerate_from 0 (children_of task.actions 1 list))
    pub first_at : first.0 ≡ a
    pub second : Kid
    pub second_in : In second (enumerate_from 0 (children_of task.actions 1 list))
    pub second_at : second.0 ≡ b
    pub rises : a < b
    pub reason : reasons_of first.1.effects second.1.effects ≢ []

  restoring : (p a b : ℕ) → a < b → has (deleters p) a ≡ true → has (givers p) b ≡ true → Why a b
  restoring p a b lt deletes gives =
      let all = enumerate_from 0 (children_of task.actions 1 list) in
      let h = holder_at (λ (e : Effects). e.del) all p a deletes in
      let k = holder_at (λ (e : Effects). e.add) all p b gives in
      record { first = h.kid; first_in = h.is_in; first_at = h.at; second = k.kid; second_in = k.is_in; second_at = k.at; rises = lt; reason = by_restoring h.kid.1.effects k.kid.1.effects p h.holds k.holds }

  pub why : (a b : ℕ) → direct a b ≡ true → Why a b
  why a b e =
      let all = enumerate_from 0 (children_of task.actions 1 list) in
      let n = length (children_of task.actions 1 list) in
      elim (or_cases (list_any (λ (k : Kid). is_step_pair task.init t k.1.effects.need k.0 a b) all) (is_final_pair task.init t task.goal n a b) e) [
        | inl step ↦
            let r = any_some (λ (k : Kid). is_step_pair task.init t k.1.effects.need k.0 a b) all step in
            let j = r.0 in
            let s = some_has (λ q. is_need_pair (has task.init q) (places_of t.gives q) (places_of t.deletes q) r.0.0 a b) r.0.1.effects.need r.2 in
            let x = need_explained (has task.init s.0) (givers s.0) (deleters s.0) r.0.0 a b (sym (need_told s.0 r.0.0 a b) ∙ s.2) in
            elim x.1 [
              | inl (gives, own) ↦
                  let h = holder_at (λ (e : Effects). e.add) all s.0 a gives in
                  record { first = h.kid; first_in = h.is_in; first_at = h.at; second = r.0; second_in = r.1; second_at = sym own; rises = x.0; reason = by_cause h.kid.1.effects r.0.1.effects s.0 h.holds s.1 }
              | inr (inl (own, deletes)) ↦
                  let k = holder_at (λ (e : Effects). e.del) all s.0 b deletes in
                  record { first = r.0; first_in = r.1; first_at = sym own; second = k.kid; second_in = k.is_in; second_at = k.at; rises = x.0; reason = by_threat r.0.1.effects k.kid.1.effects s.0 s.1 k.holds }
              | inr (inr (deletes, gives)) ↦ restoring s.0 a b x.0 deletes gives
            ]
        | inr final ↦
            let s = some_has (λ q. is_goal_pair (has task.init q) (places_of t.gives q) (places_of t.deletes q) n a b) task.goal final in
            let x = goal_explained (has task.init s.0) (givers s.0) (deleters s.0) n a b (sym (goal_told s.0 n a b) ∙ s.2) in
            restoring s.0 a b x.0 x.1 x.2
      ]

  pub direct_within : (a b : ℕ) → direct a b ≡ true → (a < b) × (b < length (children_of task.actions 1 list))
  direct_within a b e =
      let w = why a b e in
      let lt : w.second.0 < 0 + length (children_of task.actions 1 list) = in_below 0 (children_of task.actions 1 list) w.second w.second_in in
      let at : w.second.0 ≡ b = w.second_at in
      (w.rises, omega arith)

  kid_is : (k : Kid) (a : ℕ) (node : Node) → In k (enumerate_from 0 (children_of task.actions 1 list)) → k.0 ≡ a → slice_get (steps_from 1 list) a ≡ Some node → k.1.effects ≡ effects_of task.actions node
  kid_is k a node i at e =
      let one : slice_get (children_of task.actions 1 list) a ≡ Some k.1 = at_place 0 (children_of task.actions 1 list) k i a (let z : k.0 ≡ 0 + a = omega arith in z) in
      let two : slice_get (map (child_of task.actions) (steps_from 1 list)) a ≡ Some (child_of task.actions node) = slice_get-map (child_of task.actions) (steps_from 1 list) a ∙ ap (option_map (child_of task.actions)) e in
      let both : Some k.1 ≡ Some (child_of task.actions node) = sym one ∙ ap (λ z. slice_get z a) (sym (children-are task.actions 1 list)) ∙ two in
      let same : k.1 ≡ child_of task.actions node = cc in
      ap (λ (c : Child). c.effects) same

  -- each direct pair has a reason
  pub reasons_for : (a b : ℕ) (first second : Node) → slice_get (steps_from 1 list) a ≡ Some first → slice_get (steps_from 1 list) b ≡ Some second → direct a b ≡ true → reasons_of (effects_of task.actions first) (effects_of task.actions second) ≢ []
  reasons_for a b first second e f put =
      let w = why a b put in
      let x = kid_is w.first a first w.first_in w.first_at e in
      let y = kid_is w.second b second w.second_in w.second_at f in
      subst (λ (z : Effects). reasons_of z (effects_of task.actions second) ≢ []) x (subst (λ (z : Effects). reasons_of w.first.1.effects z ≢ []) y w.reason)
