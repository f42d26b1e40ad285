-- What the text of a name leads to, from what was read.
use Rattle.std.proofs.Common.{◌≡◌, ℕ, ◌≤◌, Bool, true, false, cond, List, length, Option, Some, None, Ok, Vec, sym, ap, ◌∙◌, arith}
use Rattle.std.specs.declared.alloc.Global.{Global}
use Rattle.bd_base.specs.Shelf.{Told, untold, absent, text, Reads}
use Rattle.bd_base.specs.declared.text_err.Limit.{Limit}
use Rattle.bd_base.specs.declared.text_err.Limit.TheVariants as limit
use Rattle.bd_top.specs.declared.prepare.Prepared.{Prepared}
use Rattle.bd_top.specs.declared.prepare.Prepared.TheVariants as prepared
use Rattle.bd_top.specs.declared.status.Status.{Status}
use Rattle.bd_top.specs.declared.status.Status.TheVariants as status
use Rattle.task_inputs.specs.Reads.{Counts, WasRead, IsToldAs}
use Rattle.bd_top.specs.Prepared.{IsOver, IsTextRefusal, IsNamedRefusal, PreparesText, PreparesNamed}

-- a script's counts have no limit on the text
abbrev passed : Limit → ℕ → Option (Limit × ℕ)
passed l n = Some (l, n)

abbrev none : Option (Limit × ℕ)
none = None

abbrev limit_of : Option (Limit × ℕ) → Limit
limit_of None = limit.Facts
limit_of (Some p) = p.0

facts_differ : limit.Facts ≡ limit.Text → ⊥
facts_differ e = cc

actions_differ : limit.Actions ≡ limit.Text → ⊥
actions_differ e = cc

steps_differ : limit.Steps ≡ limit.Text → ⊥
steps_differ e = cc

offers_differ : limit.Offers ≡ limit.Text → ⊥
offers_differ e = cc

not_text : (a b c d : Bool) (n : ℕ) → cond a (passed limit.Facts 262_145) (cond b (passed limit.Actions 1_000_001) (cond c (passed limit.Steps 2_001) (cond d (passed limit.Offers 1_000_001) none))) ≡ passed limit.Text n → ⊥
not_text true b c d n e = facts_differ (ap limit_of e)
not_text false true c d n e = actions_differ (ap limit_of e)
not_text false false true d n e = steps_differ (ap limit_of e)
not_text false false false true n e = offers_differ (ap limit_of e)
not_text false false false false n e = facts_differ (ap limit_of e)

no_text_limit : (t : List ℕ) (count : ℕ) (line : List ℕ) → IsOver t limit.Text count line → ⊥
no_text_limit t count line h = not_text _ _ _ _ count h.over

module _ (told : Told) (c : Counts) (v : Vec ℕ Global) (t : List ℕ) (same : t ≡ v.items) (reads : Reads told 16_777_216 c.faults c.faults_after c.longs c.longs_after (Ok v)) where
  told_as : (told : Told) → Reads told 16_777_216 c.faults c.faults_after c.longs c.longs_after (Ok v) → IsToldAs told t
  told_as untold h = tt
  told_as absent h = absurd h
  told_as (text u) h = sym (same ∙ h.0)

  is_short : (told : Told) → Reads told 16_777_216 c.faults c.faults_after c.longs c.longs_after (Ok v) → length t ≤ 16_777_216
  is_short untold h = omega (arith, ap length same, h)
  is_short absent h = absurd h
  is_short (text u) h = omega (arith, ap length (same ∙ h.0), h.1)

  was : (P : List ℕ → Type 0) → P t → WasRead told P
  was P h = record { read = t; is_told = told_as told reads; short = is_short told reads; holds = h }

  named_refusal : (name : List ℕ) (why : Status) (line : List ℕ) → IsTextRefusal t why line → IsNamedRefusal name told c why line
  named_refusal name (status.ReadFault n missing) line h = absurd h
  named_refusal name (status.OverLimit limit.Text count) line h = absurd (no_text_limit t count line h)
  named_refusal name (status.OverLimit limit.Parameters count) line h = was (λ u. IsTextRefusal u (status.OverLimit limit.Parameters count) line) h
  named_refusal name (status.OverLimit limit.Objects count) line h = was (λ u. IsTextRefusal u (status.OverLimit limit.Objects count) line) h
  named_refusal name (status.OverLimit limit.Facts count) line h = was (λ u. IsTextRefusal u (status.OverLimit limit.Facts count) line) h
  named_refusal name (status.OverLimit limit.Actions count) line h = was (λ u. IsTextRefusal u (status.OverLimit limit.Actions count) line) h
  named_refusal name (status.OverLimit limit.Steps count) line h = was (λ u. IsTextRefusal u (status.OverLimit limit.Steps count) line) h
  named_refusal name (status.OverLimit limit.Offers count) line h = was (λ u. IsTextRefusal u (status.OverLimit limit.Offers count) line) h
  named_refusal name (status.PlanInvalid b) line h = was (λ u. IsTextRefusal u (status.PlanInvalid b) line) h
  named_refusal name (status.TextRefused f place cause) line h = was (λ u. IsTextRefusal u (status.TextRefused f place cause) line) h
  named_refusal name status.Done line h = absurd h
  named_refusal name status.Usage line h = absurd h
  named_refusal name status.WriteFault line h = absurd h
  named_refusal name status.NoMemory line h = absurd h

  pub named : (name : List ℕ) (p : Prepared) → PreparesText t p → PreparesNamed name told c p
  named name (prepared.Ready script) h = was _ h
  named name (prepared.Refused why line) h = named_refusal name why line h
  named name (prepared.Valid cost) h = absurd h
  named name (prepared.Plan task plan span) h = absurd h
  named name (prepared.Improvable task plan numbers) h = absurd h
  named name (prepared.Errands task plan) h = absurd h
  named name prepared.NoMemory h = tt
