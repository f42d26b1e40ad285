use Rattle.std.proofs.Common.{codes, refl, arith}
use Rattle.command_words.specs.Apps.{improve_app}
use Rattle.command_words.proofs.PassLemmas.{not_auto, number_passes, parsed_of}
use Rattle.command_words.proofs.reading.improve_request.Goals as goal

pub numbers-requires-clause-workers : goal.numbers-requires-clause-workers
numbers-requires-clause-workers c =
    let parsed = parsed_of c.in_ok-improve_command.field-0 _ c.in_ok-matches_of.field-0 c.in-Some.matches c.in-Some.is c.in_ok-matches_of.ensures in
    number_passes c.in_ok-improve_command.field-0 improve_app c.in-Some.matches 64 (codes "workers") c.in_ok-improve_command.ensures parsed
    ((λ e. cc), ((λ e. cc), ((λ e. cc), ((λ e. refl), ((λ e. cc), ((λ e. cc), ((λ e. cc), ((λ e. cc), tt)))))))) (λ e. cc) (not_auto (codes "workers") 119 refl (λ e. omega arith) (λ e. omega arith))

pub numbers-requires-clause-nodes : goal.numbers-requires-clause-nodes
numbers-requires-clause-nodes c =
    let parsed = parsed_of c.in_ok-improve_command.field-0 _ c.in_ok-matches_of.field-0 c.in-Some.matches c.in-Some.is c.in_ok-matches_of.ensures in
    number_passes c.in_ok-improve_command.field-0 improve_app c.in-Some.matches 100000 (codes "nodes") c.in_ok-improve_command.ensures parsed
    ((λ e. cc), ((λ e. cc), ((λ e. cc), ((λ e. cc), ((λ e. refl), ((λ e. cc), ((λ e. cc), ((λ e. cc), tt)))))))) (λ e. cc) (not_auto (codes "nodes") 110 refl (λ e. omega arith) (λ e. omega arith))

pub numbers-requires-clause-width : goal.numbers-requires-clause-width
numbers-requires-clause-width c =
    let parsed = parsed_of c.in_ok-improve_command.field-0 _ c.in_ok-matches_of.field-0 c.in-Some.matches c.in-Some.is c.in_ok-matches_of.ensures in
    number_passes c.in_ok-improve_command.field-0 improve_app c.in-Some.matches 64 (codes "width") c.in_ok-improve_command.ensures parsed
    ((λ e. cc), ((λ e. cc), ((λ e. cc), ((λ e. cc), ((λ e. cc), ((λ e. refl), ((λ e. cc), ((λ e. cc), tt)))))))) (λ e. cc) (not_auto (codes "width") 119 refl (λ e. omega arith) (λ e. omega arith))

pub numbers-requires-clause-span : goal.numbers-requires-clause-span
numbers-requires-clause-span c =
    let parsed = parsed_of c.in_ok-improve_command.field-0 _ c.in_ok-matches_of.field-0 c.in-Some.matches c.in-Some.is c.in_ok-matches_of.ensures in
    number_passes c.in_ok-improve_command.field-0 improve_app c.in-Some.matches 64 (codes "span") c.in_ok-improve_command.ensures parsed
    ((λ e. cc), ((λ e. cc), ((λ e. cc), ((λ e. cc), ((λ e. cc), ((λ e. cc), ((λ e. refl), ((λ e. cc), tt)))))))) (λ e. cc) (not_auto (codes "span") 115 refl (λ e. omega arith) (λ e. omega arith))

pub numbers-requires-clause-stop : goal.numbers-requires-clause-stop
numbers-requires-clause-stop c =
    let parsed = parsed_of c.in_ok-improve_command.field-0 _ c.in_ok-matches_of.field-0 c.in-Some.matches c.in-Some.is c.in_ok-matches_of.ensures in
    number_passes c.in_ok-improve_command.field-0 improve_app c.in-Some.matches 1000000 (codes "stop") c.in_ok-improve_command.ensures parsed
    ((λ e. cc), ((λ e. cc), ((λ e. cc), ((λ e. cc), ((λ e. cc), ((λ e. cc), ((λ e. cc), ((λ e. refl), tt)))))))) (λ e. cc) (not_auto (codes "stop") 115 refl (λ e. omega arith) (λ e. omega arith))
