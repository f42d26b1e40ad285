-- What the kept actions use and delete; where nothing is missing, the facts are all that matter.
use Rattle.std.proofs.Common.{◌≡◌, ℕ, ◌+◌, ◌<◌, Bool, true, false, not, ◌&&◌, List, [], length, Some, refl, sym, ap, ◌∙◌, inl, inr, arith, slice_get}
use Rattle.std.proofs.lemmas.Bool.{both_ways, and_from, or_cases, or_left, or_right, cases_eq}
use Rattle.bd_base.specs.Facts.{IsRising, has, plus, minus}
use Rattle.bd_base.proofs.FactLemmas.{has-plus, has-minus}
use Rattle.bd_task.specs.TaskView.{TaskView}
use Rattle.bd_task.specs.declared.ground.Action.{Action}
use Rattle.bd_states.proofs.EntryLemmas.{some_is}
use Rattle.bd_cut.specs.Cut.{is_kept, IsKept, IsUsed, AreRelevant}
use Rattle.bd_relevant.specs.Uses.{TakesUses, AreUses}

-- an action that adds nothing relevant changes nothing
pub takes_nothing : (relevant : List ℕ) (a : Action) (used deleted : List ℕ) (t : Bool) → t ≡ is_kept relevant a → t ≡ false → TakesUses relevant a used deleted used deleted
takes_nothing relevant a used deleted t is e = record {
  stays = λ q i. i;
  stays_gone = λ q i. i;
  needs = λ k q i. absurd (both_ways t e (is ∙ k));
  deletes = λ k q i. absurd (both_ways t e (is ∙ k));
}

pub takes_both : (relevant : List ℕ) (a : Action) (used deleted more gone : List ℕ) → more ≡ plus used a.pre → gone ≡ plus deleted a.del → TakesUses relevant a used deleted more gone
takes_both relevant a used deleted more gone e f = record {
  stays = λ q i. ap (λ z. has z q) e ∙ has-plus used a.pre q ∙ or_right _ _ i;
  stays_gone = λ q i. ap (λ z. has z q) f ∙ has-plus deleted a.del q ∙ or_right _ _ i;
  needs = λ k q i. ap (λ z. has z q) e ∙ has-plus used a.pre q ∙ or_left _ _ i;
  deletes = λ k q i. ap (λ z. has z q) f ∙ has-plus deleted a.del q ∙ or_left _ _ i;
}

-- at the start
pub uses_first : (task : TaskView) (relevant used deleted : List ℕ) → used ≡ task.goal → AreUses task relevant 0 used deleted
uses_first task relevant used deleted e = record {
  goal = λ q i. ap (λ z. has z q) e ∙ i;
  needed = λ x a q lt k i. absurd (omega arith);
  gone = λ x a q lt k i. absurd (omega arith);
}

-- one action more
pub uses_more : (task : TaskView) (relevant : List ℕ) (n : ℕ) (used deleted more gone : List ℕ) (a : Action) → slice_get task.actions n ≡ Some a → AreUses task relevant n used deleted →
    TakesUses relevant a used deleted more gone → AreUses task relevant (n + 1) more gone
uses_more task relevant n used deleted more gone a at uses takes = record {
  goal = λ q i. takes.stays q (uses.goal q i);
  needed = λ x b q lt k i. elim (cases_eq x n) [
    | inl e ↦ let j = same x b e k in takes.needs (ap (is_kept relevant) j ∙ k.adds) q (ap (λ (z : Action). has z.pre q) j ∙ i)
    | inr ne ↦ takes.stays q (uses.needed x b q (omega (arith, ne)) k i)
  ];
  gone = λ x b q lt k i. elim (cases_eq x n) [
    | inl e ↦ let j = same x b e k in takes.deletes (ap (is_kept relevant) j ∙ k.adds) q (ap (λ (z : Action). has z.del q) j ∙ i)
    | inr ne ↦ takes.stays_gone q (uses.gone x b q (omega (arith, ne)) k i)
  ];
}
  where
    same : (x : ℕ) (b : Action) → x ≡ n → IsKept task relevant x b → a ≡ b
    same x b e k = some_is a b (sym at ∙ ap (slice_get task.actions) (sym e) ∙ k.action)

module _ (task : TaskView) (relevant used deleted others spared lacking hit result : List ℕ) (uses : AreUses task relevant (length task.actions) used deleted)
    (others_is : others ≡ minus used relevant) (spared_is : spared ≡ minus others deleted) (lacking_is : lacking ≡ minus others task.init) (hit_is : hit ≡ minus others spared)
    (result_is : result ≡ plus lacking hit) (none : result ≡ []) where
  used_by : (q : ℕ) → IsUsed task relevant q → has used q ≡ true
  used_by q (inl i) = uses.goal q i
  used_by q (inr (x, a, k, i)) = uses.needed x a q (there task.actions x a k.action) k i
    where
      there : (actions : List Action) (x : ℕ) (a : Action) → slice_get actions x ≡ Some a → x < length actions
      there actions x a e = Rattle.std.proofs.lemmas.Option.slice_get_within actions x a e

  other_by : (q : ℕ) → has used q ≡ true → has relevant q ≡ false → has others q ≡ true
  other_by q i out = ap (λ z. has z q) others_is ∙ has-minus used relevant q ∙ ap (λ b. not b && has used q) out ∙ i

  no_lacking : (q : ℕ) → has lacking q ≡ true → ⊥
  no_lacking q i = both_ways false refl (sym (ap (λ z. has z q) none) ∙ ap (λ z. has z q) result_is ∙ has-plus lacking hit q ∙ or_right _ _ i)

  no_hit : (q : ℕ) → has hit q ≡ true → ⊥
  no_hit q i = both_ways false refl (sym (ap (λ z. has z q) none) ∙ ap (λ z. has z q) result_is ∙ has-plus lacking hit q ∙ or_left _ _ i)

  in_relevant : (q : ℕ) → (has relevant q ≡ false → ⊥) → has relevant q ≡ true
  in_relevant q h = Rattle.std.proofs.lemmas.Bool.true_from_ne_false (has relevant q) h

  pub none_missing : IsRising task.init → AreRelevant task relevant
  none_missing up = record {
    rising = up;
    lacking = λ q u out. in_relevant q (λ e. no_lacking q (ap (λ z. has z q) lacking_is ∙ has-minus others task.init q ∙ ap (λ b. not b && has others q) out ∙ other_by q (used_by q u) e));
    deleted = λ x a q k d u. in_relevant q (λ e. no_hit q (ap (λ z. has z q) hit_is ∙ has-minus others spared q
        ∙ ap (λ b. not b && has others q) (ap (λ z. has z q) spared_is ∙ has-minus others deleted q ∙ ap (λ b. not b && has others q) (gone_by x a q k d)) ∙ other_by q (used_by q u) e));
  }
    where
      there : (actions : List Action) (x : ℕ) (a : Action) → slice_get actions x ≡ Some a → x < length actions
      there actions x a e = Rattle.std.proofs.lemmas.Option.slice_get_within actions x a e

      gone_by : (x : ℕ) (a : Action) (q : ℕ) → IsKept task relevant x a → has a.del q ≡ true → has deleted q ≡ true
      gone_by x a q k d = uses.gone x a q (there task.actions x a k.action) k d
