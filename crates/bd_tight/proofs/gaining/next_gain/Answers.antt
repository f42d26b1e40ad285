use Rattle.std.proofs.Common.{◌≡◌, Option}
use Rattle.bd_shape.proofs.ResultLemmas.{if_ok}
use Rattle.bd_tight.specs.declared.gain.Gain.{Gain}
use Rattle.bd_tight.specs.Gains.{first_gain}
use Rattle.bd_tight.proofs.ToldLemmas.{none_told, candidate_told, qualifies_told}
use Rattle.bd_tight.proofs.gaining.next_gain.Goals as goal

pub returns-clause-none : goal.returns-clause-none
returns-clause-none c =
    if_ok (λ (told : Option Gain). told ≡ first_gain c.args.task.now c.args.tree.now c.args.span) _ c.first_gain.result
    (λ told e. none_told c.args.task.now c.args.tree.now c.args.span c.first_gain.ensures.well told e) c.first_gain.ensures.gain

pub returns-clause-candidate : goal.returns-clause-candidate
returns-clause-candidate c =
    if_ok (λ (told : Option Gain). told ≡ first_gain c.args.task.now c.args.tree.now c.args.span) _ c.first_gain.result
    (λ told e. candidate_told c.args.task.now c.args.tree.now c.args.span c.first_gain.ensures.well told e) c.first_gain.ensures.gain

pub returns-clause-qualifies : goal.returns-clause-qualifies
returns-clause-qualifies c =
    if_ok (λ (told : Option Gain). told ≡ first_gain c.args.task.now c.args.tree.now c.args.span) _ c.first_gain.result
    (λ told e. qualifies_told c.args.task.now c.args.tree.now c.args.span c.first_gain.ensures.well told e) c.first_gain.ensures.gain
