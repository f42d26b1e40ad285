use Rattle.std.proofs.Common.{◌≡◌, ◌<◌, ℕ, List, Option, Some, Bor, length, ap, sym, ◌∙◌, arith}
use Rattle.std.specs.Option.{option_map}
use Rattle.pddl_types.specs.declared.domains.Schema.{Schema}
use Rattle.plan_calls.specs.Judging.{schema_named}
use Rattle.plan_calls.proofs.AgreeLemmas.{too_many}
use Rattle.plan_calls.proofs.judging.judge_call.Goals as goal

pub returns-then-names-gt-PARAMETERS : goal.returns-then-names-gt-PARAMETERS
returns-then-names-gt-PARAMETERS c =
    let d = c.args.domain.now in
    let call = c.args.call.now in
    let at : schema_named d.schemas call.name ≡ Some c.in-Some.schema.now =
    ap (λ (z : List Schema). schema_named z call.name) (sym c.as_slice.ensures) ∙ ap (λ (z : List ℕ). schema_named c.as_slice.result.now z) (sym c.as_slice-2.ensures) ∙ sym c.schema_named.ensures
    ∙ ap (λ (r : Option (Bor Schema)). option_map (λ (s : Bor Schema). s.now) r) c.in-Some.is in
    let same : length c.as_slice-names.result.now ≡ length call.args = ap (λ (z : List (List ℕ)). length z) c.as_slice-names.ensures in
    let lt : 16 < length call.args = omega (arith, same, c.if-names-gt-PARAMETERS.true) in
    too_many d c.args.problem.now call c.in-Some.schema.now c.requires.domain at lt
