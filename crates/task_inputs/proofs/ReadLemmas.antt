-- Why there is no text, from what a shelf's read ensures, and what follows a text.
use Rattle.std.proofs.Common.{◌≡◌, inl, inr, ℕ, ◌≤◌, true, false, List, length, Ok, Err, Vec, sym, ap, subst, arith}
use Rattle.std.specs.declared.alloc.Global.{Global}
use Rattle.bd_base.specs.Causes.{Rose}
use Rattle.bd_base.specs.Shelf.{Told, untold, absent, text, Reads}
use Rattle.bd_base.specs.declared.shelf.ShelfErr.TheVariants.{Missing, Failed, TooBig}
use Rattle.task_inputs.specs.declared.answers.Part.{Part}
use Rattle.task_inputs.specs.declared.answers.Inputs.{Inputs}
use Rattle.task_inputs.specs.Reads.{Counts, Spans, IsToldAs, IsUnread, IsLong}
use Rattle.task_inputs.specs.Inputs.{Step, HasNoText, FollowsBy, After, Unless}
use Rattle.task_inputs.proofs.StepLemmas.{unless_map}

rose_within : (a b c d : ℕ) → a ≤ b → c ≤ d → Rose b c → Rose a d
rose_within a b c d le le' h = omega (arith, h)

module _ (c inner : Counts) (spans : Spans c inner) where
  faults_rose : Rose inner.faults inner.faults_after → Rose c.faults c.faults_after
  faults_rose h = rose_within c.faults inner.faults inner.faults_after c.faults_after spans.faults spans.faults_after h

  longs_rose : Rose inner.longs inner.longs_after → Rose c.longs c.longs_after
  longs_rose h = rose_within c.longs inner.longs inner.longs_after c.longs_after spans.longs spans.longs_after h

  pub missing_told : (told : Told) → Reads told 16_777_216 inner.faults inner.faults_after inner.longs inner.longs_after (Err Missing) → IsUnread told c true
  missing_told untold h = faults_rose h
  missing_told absent h = tt
  missing_told (text t) h = h

  pub failed_told : (told : Told) → Reads told 16_777_216 inner.faults inner.faults_after inner.longs inner.longs_after (Err Failed) → IsUnread told c false
  failed_told untold h = faults_rose h
  failed_told absent h = h
  failed_told (text t) h = (faults_rose h.0, h.1)

  pub long_told : (told : Told) → Reads told 16_777_216 inner.faults inner.faults_after inner.longs inner.longs_after (Err TooBig) → IsLong told c
  long_told untold h = longs_rose h
  long_told absent h = h
  long_told (text t) h = (longs_rose h.0, h.1)

pub text_told : (told : Told) (v : Vec ℕ Global) (f g l m : ℕ) → Reads told 16_777_216 f g l m (Ok v) → IsToldAs told v.items × (length v.items ≤ 16_777_216)
text_told untold v f g l m h = (tt, h)
text_told absent v f g l m h = absurd h
text_told (text t) v f g l m h = (sym h.0, omega (arith, ap length h.0, h.1))

module _ {A : Type 0} (part : Part) (told : Told) (c : Counts) (step : List ℕ → Step A) (next : A → Inputs → Type 0) where
  pub by_text : (t : List ℕ) (result : Inputs) → IsToldAs told t × (length t ≤ 16_777_216) → Unless result (FollowsBy (step t) next result) → Unless result (After part told c step next result)
  by_text t result h follows = unless_map result (λ k. inr (record { read = t; is_told = h.0; short = h.1; holds = k })) follows

  pub without_text : (result : Inputs) → Unless result (HasNoText part told c result) → Unless result (After part told c step next result)
  without_text result h = unless_map result (λ k. inl k) h

-- a part of a time that a longer one spans
pub spans_before : (whole : Counts) (f0 f1 f2 l0 l1 l2 : ℕ) → Spans whole (record { faults = f0; faults_after = f2; longs = l0; longs_after = l2 }) → f1 ≤ f2 → l1 ≤ l2 → Spans whole (record { faults = f0; faults_after = f1; longs = l0; longs_after = l1 })
spans_before whole f0 f1 f2 l0 l1 l2 s f l =
    let a : f2 ≤ whole.faults_after = s.faults_after in
    let b : l2 ≤ whole.longs_after = s.longs_after in
    record { faults = s.faults; faults_after = omega arith; longs = s.longs; longs_after = omega arith }

pub spans_after : (whole : Counts) (f0 f1 f2 l0 l1 l2 : ℕ) → Spans whole (record { faults = f0; faults_after = f2; longs = l0; longs_after = l2 }) → f0 ≤ f1 → l0 ≤ l1 → Spans whole (record { faults = f1; faults_after = f2; longs = l1; longs_after = l2 })
spans_after whole f0 f1 f2 l0 l1 l2 s f l =
    let a : whole.faults ≤ f0 = s.faults in
    let b : whole.longs ≤ l0 = s.longs in
    record { faults = omega arith; faults_after = s.faults_after; longs = omega arith; longs_after = s.longs_after }

-- the text that was read, as it is lent
pub lent : (told : Told) (t read : List ℕ) → t ≡ read → IsToldAs told read → length read ≤ 16_777_216 → IsToldAs told t × (length t ≤ 16_777_216)
lent told t read e is short = (subst (λ z. IsToldAs told z) (sym e) is, omega (arith, ap length e, short))
