-- The words behind each command, as clap reads them.
use Rattle.std.specs.Prelude.{ℕ, true, Some, codes}
use Rattle.clap.specs.Words.{App, Rule, Text, new_app, new_rule, with_rule}
use Rattle.clap.specs.Simple.{on_top}
use Rattle.clap.specs.declared.builder.value_parser.ValueParser.TheVariants as vp

-- a word that has to be there
abbrev pub word : Text → Rule
word id = record (new_rule id) { required = true }

-- a number from 1 to the most, as a word that has to be there
abbrev pub count_word : Text → ℕ → Rule
count_word id most = record (new_rule id) { required = true; parser = Some (vp.Unsigned 1 most) }

-- an option that is named by its long name and takes a number from 1 to the most
abbrev pub number : Text → ℕ → Rule
number id most = record (new_rule id) { long = Some id; parser = Some (vp.Unsigned 1 most) }

-- a command with no words yet, no option but its own, and no name of a program before its words
abbrev pub bare : Text → App
bare name = on_top (λ s. record s { no_binary_name = true; disable_help_flag = true; disable_version_flag = true }) (new_app name)

-- DOMAIN PROBLEM PLAN
abbrev pub texts_app : Text → App
texts_app name = with_rule (with_rule (with_rule (bare name) (word (codes "DOMAIN"))) (word (codes "PROBLEM"))) (word (codes "PLAN"))

-- check DOMAIN PROBLEM PLAN
abbrev pub check_app : App
check_app = texts_app (codes "check")

-- deorder DOMAIN PROBLEM PLAN [--span N]
abbrev pub deorder_app : App
deorder_app = with_rule (texts_app (codes "deorder")) (number (codes "span") 64)

-- improve DOMAIN PROBLEM PLAN [--workers N] [--nodes N] [--width N] [--span N] [--stop N]
abbrev pub improve_app : App
improve_app =
    with_rule (with_rule (with_rule (with_rule (with_rule (texts_app (codes "improve"))
    (number (codes "workers") 64)) (number (codes "nodes") 100_000)) (number (codes "width") 64)) (number (codes "span") 64)) (number (codes "stop") 1_000_000)

-- replay SCRIPT
abbrev pub replay_app : App
replay_app = with_rule (bare (codes "replay")) (word (codes "SCRIPT"))

-- bench N
abbrev pub bench_app : App
bench_app = with_rule (bare (codes "bench")) (count_word (codes "N") 600)
