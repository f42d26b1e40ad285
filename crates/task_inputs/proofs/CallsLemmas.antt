-- The actions that calls name, one after the other.
use Rattle.std.proofs.Common.{◌≡◌, ℕ, ◌<◌, List, [], ◌∷◌, ◌++◌, map, length, Option, Some, None, Result, Ok, Err, refl, sym, ap, ◌∙◌, subst, arith}
use Rattle.std.specs.Prelude.{All}
use Rattle.std.specs.List.{AllByRecursion}
use Rattle.bd_base.specs.declared.text_err.Cause.{Cause}
use Rattle.bd_base.specs.declared.text_err.TextErr.{TextErr}
use Rattle.bd_base.specs.declared.text_err.TextErr.TheVariants as errors
use Rattle.bd_task.specs.TaskView.{TaskView}
use Rattle.bd_task.specs.Valid.{first_break}
use Rattle.pddl_types.specs.declared.domains.Domain.{Domain}
use Rattle.pddl_types.specs.declared.problems.Problem.{Problem}
use Rattle.pddl_types.specs.declared.calls.Call.{Call}
use Rattle.pddl_form.specs.Fault.{Fault, ◌>>=◌}
use Rattle.bd_ground.specs.Task.{ground_task}
use Rattle.bd_ground.specs.Grounding.{IsGround}
use Rattle.plan_calls.specs.Finding.{found}
use Rattle.plan_calls.specs.Judging.{judged}
use Rattle.plan_calls.specs.Agreement.{IsThere}
use Rattle.plan_calls.specs.Listing.{cause_of, IsFirstMissing, Lists}
use Rattle.plan_calls.proofs.ListingLemmas.{listed_below}
use Rattle.plan_calls.proofs.PlaceLemmas.{take-length}
use Rattle.task_inputs.specs.declared.answers.Part.{Part}
use Rattle.task_inputs.specs.declared.answers.Part.TheVariants as part
use Rattle.task_inputs.specs.declared.answers.Inputs.{Inputs}
use Rattle.task_inputs.specs.Inputs.{action_in, list_in, no_limit, read_step, gives, ends, follows, judged_plan, calls_end, Unless}
use Rattle.task_inputs.specs.Steps.{GroundsTo, refusal_of}
use Rattle.task_inputs.proofs.StepLemmas.{unless_map, task_step, limit_step}

head : {X : Type 0} {x y : X} {xs ys : List X} → x ∷ xs ≡ y ∷ ys → x ≡ y
head e = cc

tail : {X : Type 0} {x y : X} {xs ys : List X} → x ∷ xs ≡ y ∷ ys → xs ≡ ys
tail e = cc

nothing : {X : Type 0} {x : X} {xs : List X} → x ∷ xs ≡ [] → ⊥
nothing e = cc

no_first : {X : Type 0} {x : X} {xs : List X} → [] ≡ x ∷ xs → ⊥
no_first e = cc

abbrev okay : List ℕ → Result (List ℕ) Fault
okay x = Ok x

abbrev bad : Fault → Result (List ℕ) Fault
bad f = Err f

ok_same : (x y : List ℕ) → okay x ≡ okay y → x ≡ y
ok_same x y e = cc

err_ok : (f : Fault) (x : List ℕ) → bad f ≡ okay x → ⊥
err_ok f x e = cc

module _ (d : Domain) (p : Problem) where
  abbrev found_in : Call → Option ℕ
  found_in c = found (ground_task d p).actions c

  -- one more call, by what it is found as and what the rest gives
  abbrev with_call : Call → Option ℕ → Result (List ℕ) Fault → Result (List ℕ) Fault
  with_call call o rest = action_in d p call o >>= λ a. rest >>= λ list. Ok (a ∷ list)

  pub listed : (calls : List Call) (list : List ℕ) → map (λ c. found_in c) calls ≡ map (λ a. Some a) list → list_in d p calls ≡ Ok list
  listed [] [] e = refl
  listed [] (a ∷ list) e = absurd (no_first e)
  listed (c ∷ calls) [] e = absurd (nothing e)
  listed (c ∷ calls) (a ∷ list) e = ap (λ o. with_call c o (list_in d p calls)) (head e) ∙ ap (λ r. with_call c (Some a) r) (listed calls list (tail e))

  there_then : (call : Call) (o : Option ℕ) (f : Fault) → IsThere o → with_call call o (Err f) ≡ Err f
  there_then call None f h = absurd h
  there_then call (Some a) f h = refl

  missing_at : (front rest : List Call) (call : Call) → AllByRecursion (λ c. IsThere (found_in c)) front → found_in call ≡ None → list_in d p (front ++ call ∷ rest) ≡ Err (call.place, cause_of (judged d p call))
  missing_at [] rest call there none = ap (λ o. with_call call o (list_in d p rest)) none
  missing_at (c ∷ front) rest call there none =
      ap (λ r. with_call c (found_in c) r) (missing_at front rest call there.1 none) ∙ there_then c (found_in c) (call.place, cause_of (judged d p call)) there.0

  pub first_missing : (calls : List Call) (place : ℕ) (why : Cause) → IsFirstMissing d p (ground_task d p).actions calls place why → list_in d p calls ≡ Err (place, why)
  first_missing calls place why h =
      ap (λ z. list_in d p z) h.split ∙ missing_at h.front h.rest h.call h.there h.missing ∙ ap (λ z. Err (z, cause_of (judged d p h.call))) (sym h.at) ∙ ap (λ z. Err (place, z)) (sym h.told)

  pub list_step : (part : Part) (calls : List Call) (list : List ℕ) → Lists d p (ground_task d p).actions calls (Ok list) → read_step part no_limit (list_in d p calls) ≡ gives list
  list_step part calls list h = ap (λ z. read_step part no_limit z) (listed calls list h)

  pub missing_step : (part : Part) (calls : List Call) (e : TextErr) → Lists d p (ground_task d p).actions calls (Err e) → Unless (refusal_of part e) (read_step part no_limit (list_in d p calls) ≡ ends (refusal_of part e))
  missing_step part calls (errors.At place why) h = ap (λ z. read_step part no_limit z) (first_missing calls place why h)
  missing_step part calls (errors.Over limit count) h = absurd h
  missing_step part calls errors.NoMemory h = tt

  -- back from the list
  back : (call : Call) (o : Option ℕ) (rest : Result (List ℕ) Fault) (list : List ℕ) → with_call call o rest ≡ Ok list → (a : ℕ) × (more : List ℕ) × (o ≡ Some a) × (rest ≡ Ok more) × (list ≡ a ∷ more)
  back call None rest list e = absurd (err_ok (call.place, cause_of (judged d p call)) list e)
  back call (Some a) (Err f) list e = absurd (err_ok f list e)
  back call (Some a) (Ok more) list e = (a, more, refl, refl, sym (ok_same (a ∷ more) list e))

  pub from_list : (calls : List Call) (list : List ℕ) → list_in d p calls ≡ Ok list → map (λ c. found_in c) calls ≡ map (λ a. Some a) list
  from_list [] list e = ap (λ z. map (λ a. Some a) z) (ok_same [] list e)
  from_list (c ∷ calls) list e =
      let b = back c (found_in c) (list_in d p calls) list e in
      ap (λ z. z ∷ map (λ c. found_in c) calls) b.2 ∙ ap (λ z. Some b.0 ∷ z) (from_list calls b.1 b.3) ∙ ap (λ z. map (λ a. Some a) z) (sym b.4)

  pub in_task : (calls : List Call) (list : List ℕ) → list_in d p calls ≡ Ok list → All (λ a. a < length (ground_task d p).actions) list
  in_task calls list e =
      listed_below (ground_task d p).actions calls (length calls) list (omega arith) (ap (λ (z : List Call). map (λ c. found_in c) z) (take-length calls (length calls) (omega arith)) ∙ from_list calls list e)

-- what the calls of a plan lead to, once the task is grounded
module _ (d : Domain) (p : Problem) (calls : List Call) (task : TaskView) (grounded : IsGround d p task) where
  at_task : calls_end d p calls ≡ follows (read_step part.Plan no_limit (list_in d p calls)) (λ plan. judged_plan task plan (first_break task plan))
  at_task = ap (λ s. follows s (λ t. follows (read_step part.Plan no_limit (list_in d p calls)) (λ plan. judged_plan t plan (first_break t plan)))) (task_step d p task grounded)

  pub calls_listed : (list : List ℕ) → Lists d p task.actions calls (Ok list) → calls_end d p calls ≡ judged_plan task list (first_break task list)
  calls_listed list h =
      at_task ∙ ap (λ s. follows s (λ plan. judged_plan task plan (first_break task plan)))
      (list_step d p part.Plan calls list (subst (λ (t : TaskView). Lists d p t.actions calls (Ok list)) grounded.task h))

  pub calls_judged : (list : List ℕ) (r : Inputs) → Lists d p task.actions calls (Ok list) → Unless r (r ≡ judged_plan task list (first_break task list)) → Unless r (r ≡ calls_end d p calls)
  calls_judged list r h k = unless_map r (λ e. e ∙ sym (calls_listed list h)) k

  missing : (e : TextErr) → Lists d p task.actions calls (Err e) → Unless (refusal_of part.Plan e) (refusal_of part.Plan e ≡ calls_end d p calls)
  missing e h =
      unless_map (refusal_of part.Plan e) (λ k. sym (at_task ∙ ap (λ s. follows s (λ plan. judged_plan task plan (first_break task plan))) k))
      (missing_step d p part.Plan calls e (subst (λ (t : TaskView). Lists d p t.actions calls (Err e)) grounded.task h))

  pub calls_missing : (e : TextErr) (r : Inputs) → r ≡ refusal_of part.Plan e → Lists d p task.actions calls (Err e) → Unless r (r ≡ calls_end d p calls)
  calls_missing e r is h = subst (λ z. Unless z (z ≡ calls_end d p calls)) (sym is) (missing e h)

-- what a count of grounding that passes its limit leads to
module _ (d : Domain) (p : Problem) (calls : List Call) where
  limited : (e : TextErr) → GroundsTo d p (Err e) → Unless (refusal_of part.Plan e) (refusal_of part.Plan e ≡ calls_end d p calls)
  limited e h =
      unless_map (refusal_of part.Plan e) (λ k. sym (ap (λ s. follows s (λ t. follows (read_step part.Plan no_limit (list_in d p calls)) (λ plan. judged_plan t plan (first_break t plan)))) k))
      (limit_step d p part.Plan e h)

  pub calls_limited : (e : TextErr) (r : Inputs) → r ≡ refusal_of part.Plan e → GroundsTo d p (Err e) → Unless r (r ≡ calls_end d p calls)
  calls_limited e r is h = subst (λ z. Unless z (z ≡ calls_end d p calls)) (sym is) (limited e h)
