use Rattle.command_words.proofs.Laws.{bench_alone, check_alone, deorder_alone, improve_alone, replay_alone}
use Rattle.command_words.proofs.law.one_command.Goals as goal

pub returns-clause-improve : goal.returns-clause-improve
returns-clause-improve c = λ words asked is. improve_alone words asked is

pub returns-clause-check : goal.returns-clause-check
returns-clause-check c = λ words asked is. check_alone words asked is

pub returns-clause-deorder : goal.returns-clause-deorder
returns-clause-deorder c = λ words asked is. deorder_alone words asked is

pub returns-clause-replay : goal.returns-clause-replay
returns-clause-replay c = λ words asked is. replay_alone words asked is

pub returns-clause-bench : goal.returns-clause-bench
returns-clause-bench c = λ words asked is. bench_alone words asked is
