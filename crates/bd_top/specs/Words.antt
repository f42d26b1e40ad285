-- What the program's words ask of it.
use Rattle.std.specs.Prelude.{ℕ, List, Option, Some, None, option_map}
use Rattle.command_words.specs.Asked.{Names, bench_asked, check_asked, deorder_asked, improve_asked, replay_asked}
use Rattle.command_words.specs.declared.request.Numbers.{Numbers}
use Rattle.bd_top.specs.declared.purpose.Purpose.{Purpose}
use Rattle.bd_top.specs.declared.purpose.Purpose.TheVariants as purpose

-- the names of the texts of a plan, and what is to be done with it
abbrev pub texts_by : Option Names → Option (Names × ℕ) → Option (Names × Numbers) → Option (Names × Purpose)
texts_by (Some names) deorder improve = Some (names, purpose.Check)
texts_by None (Some asked) improve = Some (asked.0, purpose.Deorder asked.1)
texts_by None None (Some asked) = Some (asked.0, purpose.Improve asked.1)
texts_by None None None = None

-- `check`, `deorder` or `improve`: the names of the texts and the purpose
unfoldable pub texts_asked : List (List ℕ) → Option (Names × Purpose)
texts_asked words = texts_by (check_asked words) (deorder_asked words) (improve_asked words)

-- the names of the texts
abbrev pub texts_named : List (List ℕ) → Option Names
texts_named words = option_map (λ asked. asked.0) (texts_asked words)

-- what is to be done with their plan
abbrev pub purpose_asked : List (List ℕ) → Option Purpose
purpose_asked words = option_map (λ asked. asked.1) (texts_asked words)

-- `replay`: the name of the script
unfoldable pub script_named : List (List ℕ) → Option (List ℕ)
script_named words = replay_asked words

-- `bench`: how many errands are generated
unfoldable pub errands_asked : List (List ℕ) → Option ℕ
errands_asked words = bench_asked words
