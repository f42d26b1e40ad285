use Rattle.std.proofs.Common.{codes, refl, arith}
use Rattle.command_words.specs.Apps.{deorder_app}
use Rattle.command_words.proofs.PassLemmas.{not_auto, number_passes, parsed_of}
use Rattle.command_words.proofs.reading.deorder_request.Goals as goal

pub number-requires-clause-number : goal.number-requires-clause-number
number-requires-clause-number c =
    let parsed = parsed_of c.in_ok-deorder_command.field-0 _ c.in_ok-matches_of.field-0 c.in-Some.matches c.in-Some.is c.in_ok-matches_of.ensures in
    number_passes c.in_ok-deorder_command.field-0 deorder_app c.in-Some.matches 64 (codes "span") c.in_ok-deorder_command.ensures parsed
    ((λ e. cc), ((λ e. cc), ((λ e. cc), ((λ e. refl), tt)))) (λ e. cc) (not_auto (codes "span") 115 refl (λ e. omega arith) (λ e. omega arith))
