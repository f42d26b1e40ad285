use Rattle.std.proofs.Common.{ℕ, List, [], ap, ◌∙◌}
use Rattle.bd_ground.specs.Atoms.{is_among}
use Rattle.pddl_types.specs.declared.problems.Given.{Given}
use Rattle.bd_ground.specs.Instances.{stated, value_at}
use Rattle.bd_ground.proofs.AtomLemmas.{is_among-mentioned_after}
use Rattle.bd_ground.proofs.choices.World.new.Goals as goal

pub invariant_of-result : goal.invariant_of-result
invariant_of-result c = record {
  fitted = c.in_ok-fitting.ensures;
  states = λ g. (ap (λ (z : List (List ℕ)). is_among g z) c.requires.stated ∙ is_among-mentioned_after g [] (stated c.args.problem.now));
  finds = c.in_ok-index.ensures;
  priced = λ g. (c.in_ok-prices.ensures g ∙ ap (λ (z : List Given). value_at z g) c.as_slice.ensures);
}
