-- What three texts lead to on a shelf that doesn't fail is what they lead to as they stand.
use Rattle.std.proofs.Common.{◌≡◌, ℕ, ◌≤◌, List, length, sym, ap, subst, arith, lit≤}
use Rattle.bd_base.specs.Causes.{Rose}
use Rattle.bd_base.specs.Shelf.{text}
use Rattle.bd_gen.specs.Errands.{plan_of, problem_of}
use Rattle.bd_gen.specs.declared.sample.TheConstants.{DOMAIN}
use Rattle.bd_gen.specs.declared.sample.Sample.{Sample}
use Rattle.task_inputs.specs.Inputs.{LeadsTo, Unless, outcome}
use Rattle.task_inputs.specs.declared.answers.Inputs.{Inputs}
use Rattle.task_inputs.specs.declared.answers.Inputs.TheVariants as inputs
use Rattle.task_inputs.proofs.Laws.{faultless_outcome}
use Rattle.errand_inputs.specs.Inner.{LeadsQuietly}
use Rattle.errand_inputs.proofs.LengthLemmas.{short_plan, short_problem}

pub unless_by : {P Q : Type 0} (result : Inputs) → (P → Q) → Unless result P → Unless result Q
unless_by inputs.NoMemory f h = tt
unless_by (inputs.Ready task plan cost) f h = f h
unless_by (inputs.Unread part missing) f h = f h
unless_by (inputs.Refused part place cause) f h = f h
unless_by (inputs.Over limit count) f h = f h
unless_by (inputs.Broken task b) f h = f h

pub leads_quietly : (s : Sample) (longs : ℕ) (result : Inputs) → Unless result (LeadsTo (text s.domain) (text s.problem) (text s.plan) (record { faults = 0; faults_after = 0; longs = 0; longs_after = longs }) result) → Unless result (LeadsQuietly s result)
leads_quietly s longs result h = unless_by {Q = LeadsQuietly s result} result (λ k. record { longs = longs; leads = k }) h

quiet : Rose 0 0 → ⊥
quiet h = omega arith

short_domain : length DOMAIN.now ≤ 16_777_216
short_domain = lit≤ tt

module _ (n : ℕ) (few : n ≤ 600) (s : Sample) (domain : s.domain ≡ DOMAIN.now) (problem : s.problem ≡ problem_of n) (plan : s.plan ≡ plan_of n) where
  short : (t given : List ℕ) → t ≡ given → length given ≤ 16_777_216 → length t ≤ 16_777_216
  short t given e h = subst (λ z. length z ≤ 16_777_216) (sym e) h

  leads : (result : Inputs) → LeadsQuietly s result → outcome s.domain s.problem s.plan ≡ result
  leads result h =
      faultless_outcome s.domain s.problem s.plan (record { faults = 0; faults_after = 0; longs = 0; longs_after = h.longs }) result quiet
      (short s.domain DOMAIN.now domain short_domain) (short s.problem (problem_of n) problem (short_problem n few)) (short s.plan (plan_of n) plan (short_plan n few)) h.leads

  stated : (result : Inputs) → outcome s.domain s.problem s.plan ≡ result → outcome DOMAIN.now (problem_of n) (plan_of n) ≡ result
  stated result h =
      subst (λ d. outcome d (problem_of n) (plan_of n) ≡ result) domain
      (subst (λ p. outcome s.domain p (plan_of n) ≡ result) problem (subst (λ q. outcome s.domain s.problem q ≡ result) plan h))

  pub leads_as_stated : (result : Inputs) → Unless result (LeadsQuietly s result) → Unless result (outcome DOMAIN.now (problem_of n) (plan_of n) ≡ result)
  leads_as_stated result h = unless_by result (λ k. stated result (leads result k)) h
