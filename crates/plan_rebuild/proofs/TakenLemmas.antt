-- An offer that may be accepted is refused for want of memory alone.
use Rattle.std.proofs.Common.{◌≡◌, ℕ, Bool, true, false, List, refl, sym, ◌∙◌, arith}
use Rattle.std.proofs.lemmas.Bool.{both_ways}
use Rattle.bd_links.proofs.Faultless.{none_from_sound}
use Rattle.bd_merge.specs.declared.window.Window.{Window}
use Rattle.plan_core.specs.Core.{CoreView}
use Rattle.plan_core.specs.Replies.{IsAcceptable, MayReplace, MayTighten, MayRebuild, Refuses, RefusesReplace, RefusesTighten, RefusesRebuild, merged_in, tightened_in, rebuilt_in}
use Rattle.plan_core.specs.declared.offer.Offer.{Offer}
use Rattle.plan_core.specs.declared.offer.Offer.TheVariants.{Replace, Tighten, Rebuild}
use Rattle.plan_core.specs.declared.refusal.Refusal.{Refusal}
use Rattle.plan_core.specs.declared.refusal.Refusal.TheVariants.{Closed, NoAction, Gone, Split, NotCheaper, TooLong, Unlinked, Between, TooDeep, NoGain, Idle, BadOrder, NoMemory}
use Rattle.plan_rebuild.specs.Taking.{is_memory}
use Rattle.plan_rebuild.proofs.RunLemmas.{never_split, none_other}

module _ (core : CoreView) (window : Window) (list : List ℕ) (may : MayReplace core window list) where
  replaced_why : (why : Refusal) → RefusesReplace core window list why → is_memory why ≡ true
  replaced_why (Closed replaced entries) r = absurd (both_ways _ may.is_open r.2)
  replaced_why (NoAction number) r = absurd (none_other number (sym may.known ∙ r.1))
  replaced_why Gone r = absurd (r.2 may.stands.0)
  replaced_why Split r = absurd (never_split core.tree window may.stands r.2)
  replaced_why (NotCheaper old new) r = absurd (omega (arith, may.cheaper, r.3, r.4, r.5))
  replaced_why (TooLong steps) r = absurd (omega (arith, may.short, r.4, r.5))
  replaced_why (Unlinked fault) r = absurd (none_other fault (sym (none_from_sound core.task (merged_in core window list) may.sound) ∙ r.5))
  replaced_why Between r = absurd r
  replaced_why (TooDeep depth) r = absurd r
  replaced_why (NoGain old new) r = absurd r
  replaced_why Idle r = absurd r
  replaced_why (BadOrder i j) r = absurd r
  replaced_why NoMemory r = refl

module _ (core : CoreView) (block : ℕ) (left right : List ℕ) (may : MayTighten core block left right) where
  tightened_why : (why : Refusal) → RefusesTighten core block left right why → is_memory why ≡ true
  tightened_why (Closed replaced entries) r = absurd (both_ways _ may.is_open r.2)
  tightened_why (NoAction number) r = absurd r
  tightened_why Gone r = absurd (both_ways _ r.1 may.there)
  tightened_why Split r = absurd r
  tightened_why (NotCheaper old new) r = absurd r
  tightened_why (TooLong steps) r = absurd r
  tightened_why (Unlinked fault) r = absurd (none_other fault (sym (none_from_sound core.task (tightened_in core block left right) may.sound) ∙ r.5))
  tightened_why Between r = absurd (both_ways _ r.2 may.sides)
  tightened_why (TooDeep depth) r = absurd (omega (arith, may.shallow, r.3, r.4))
  tightened_why (NoGain old new) r = absurd (omega (arith, may.gain, r.4, r.5, r.6))
  tightened_why Idle r = absurd r
  tightened_why (BadOrder i j) r = absurd r
  tightened_why NoMemory r = refl

module _ (core : CoreView) (order : List (ℕ × ℕ)) (may : MayRebuild core order) where
  rebuilt_why : (why : Refusal) → RefusesRebuild core order why → is_memory why ≡ true
  rebuilt_why (Closed replaced entries) r = absurd (both_ways _ may.is_open r.2)
  rebuilt_why (NoAction number) r = absurd r
  rebuilt_why Gone r = absurd r
  rebuilt_why Split r = absurd r
  rebuilt_why (NotCheaper old new) r = absurd r
  rebuilt_why (TooLong steps) r = absurd r
  rebuilt_why (Unlinked fault) r = absurd (none_other fault (sym (none_from_sound core.task (rebuilt_in core order) may.sound) ∙ r.3))
  rebuilt_why Between r = absurd r
  rebuilt_why (TooDeep depth) r = absurd r
  rebuilt_why (NoGain old new) r = absurd r
  rebuilt_why Idle r = absurd (both_ways _ r.1 may.due)
  rebuilt_why (BadOrder i j) r = absurd (none_other (i, j) (sym may.orderly ∙ r.2))
  rebuilt_why NoMemory r = refl

pub memory_alone : (core : CoreView) (offer : Offer) → IsAcceptable core offer → (why : Refusal) → Refuses core offer why → is_memory why ≡ true
memory_alone core (Replace window list) may why r = replaced_why core window list may why r
memory_alone core (Tighten block left right) may why r = tightened_why core block left right may why r
memory_alone core (Rebuild order) may why r = rebuilt_why core order may why r

pub no_refusal : (core : CoreView) (offer : Offer) → IsAcceptable core offer → (why : Refusal) (memory : Bool) → Refuses core offer why → memory ≡ is_memory why → memory ≡ false → ⊥
no_refusal core offer may why memory r is other = both_ways memory other (is ∙ memory_alone core offer may why r)
