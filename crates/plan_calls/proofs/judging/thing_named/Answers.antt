use Rattle.std.proofs.Common.{◌<◌, ◌∙◌, List, length, ap, sym, arith}
use Rattle.std.specs.Str.{bytes_eq}
use Rattle.std.proofs.lemmas.List.{length-append}
use Rattle.pddl_types.specs.declared.domains.Thing.{Thing}
use Rattle.bd_ground.specs.Instances.{things_of}
use Rattle.plan_calls.proofs.PlaceLemmas.{place-told, place-passed}
use Rattle.plan_calls.proofs.judging.thing_named.Goals as goal

pub returns-then-is_named : goal.returns-then-is_named
returns-then-is_named c =
    place-told (λ (t : Thing). bytes_eq t.name c.args.name.now) (things_of c.args.domain.now c.args.problem.now) c.loop-o.o (sym c.is_named.ensures ∙ c.if-is_named.true) ∙ c.loop-o.invariant

pub loop-o-preserved : goal.loop-o-preserved
loop-o-preserved c =
    let lt : c.loop-o.o < length (things_of c.args.domain.now c.args.problem.now) =
    (let all = length-append c.args.domain.now.constants c.args.problem.now.objects in
    let a = ap (λ (z : List Thing). length z) c.as_slice.ensures in
    let b = ap (λ (z : List Thing). length z) c.as_slice-2.ensures in
    omega (arith, all, a, b, c.loop-o-test.true)) in
    place-passed (λ (t : Thing). bytes_eq t.name c.args.name.now) (things_of c.args.domain.now c.args.problem.now) c.loop-o.o lt (sym c.is_named.ensures ∙ c.if-is_named.false) ∙ c.loop-o.invariant
