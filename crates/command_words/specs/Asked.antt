-- What the program's words ask for.
use Rattle.std.specs.Prelude.{◌≡◌, ◌==◌, ℕ, List, [], ◌∷◌, Option, Some, None, codes, cond, length, unwrap_or, option_map, option_and_then}
use Rattle.std.specs.Option.{option_map_or}
use Rattle.std.specs.Str.{bytes_eq}
use Rattle.std.specs.Str.Parse.{digits_value, without_leading_plus}
use Rattle.clap.specs.Words.{App, Row, first_of, fault_of, matches_of, one_of}
use Rattle.command_words.specs.Apps.{bench_app, check_app, deorder_app, improve_app, replay_app}
use Rattle.command_words.specs.declared.request.Numbers.{Numbers}
use Rattle.command_words.specs.declared.request.TextNames.{TextNames}
use Rattle.command_words.specs.declared.request.Request.{Request}
use Rattle.command_words.specs.declared.request.Request.TheVariants as request

-- what clap finds in the words behind a command, unless it refuses them
abbrev pub rows_of : App → List (List ℕ) → Option (List Row)
rows_of app words = cond (length (fault_of app words) == 0) (Some (matches_of app words)) None

-- the word at a place (one that has to be there always is)
abbrev pub word_at : List ℕ → List Row → List ℕ
word_at id rows = unwrap_or (first_of id rows) []

-- the number that a text writes, with or without a plus before it
abbrev pub number_in : List ℕ → ℕ
number_in text = digits_value 10 (without_leading_plus text)

-- the number of an option or a word, and the default where the words have none
abbrev pub number_at : List ℕ → ℕ → List Row → ℕ
number_at id default rows = option_map_or number_in (one_of id rows) default

-- the names of a domain, a problem and a plan
pub record Names : Type 0 where
  pub domain : List ℕ
  pub problem : List ℕ
  pub plan : List ℕ

abbrev pub names_of : TextNames → Names
names_of texts = record { domain = texts.domain.now; problem = texts.problem.now; plan = texts.plan.now }

abbrev pub names_at : List Row → Names
names_at rows = record {
  domain = word_at (codes "DOMAIN") rows;
  problem = word_at (codes "PROBLEM") rows;
  plan = word_at (codes "PLAN") rows;
}

abbrev pub numbers_at : List Row → Numbers
numbers_at rows = record {
  workers = number_at (codes "workers") 1 rows;
  nodes = number_at (codes "nodes") 500 rows;
  width = number_at (codes "width") 6 rows;
  span = number_at (codes "span") 12 rows;
  stop = number_at (codes "stop") 1_000_000 rows;
}

-- What the words behind a command ask of it.

-- improve: the names of the texts, and the numbers
abbrev pub improve_in : List (List ℕ) → Option (Names × Numbers)
improve_in rest = option_map (λ rows. (names_at rows, numbers_at rows)) (rows_of improve_app rest)

-- check: the names of the texts
abbrev pub check_in : List (List ℕ) → Option Names
check_in rest = option_map names_at (rows_of check_app rest)

-- deorder: the names of the texts, and the span
abbrev pub deorder_in : List (List ℕ) → Option (Names × ℕ)
deorder_in rest = option_map (λ rows. (names_at rows, number_at (codes "span") 12 rows)) (rows_of deorder_app rest)

-- replay: the name of the script
abbrev pub replay_in : List (List ℕ) → Option (List ℕ)
replay_in rest = option_map (word_at (codes "SCRIPT")) (rows_of replay_app rest)

-- bench: the size of the generated problem
abbrev pub bench_in : List (List ℕ) → Option ℕ
bench_in rest = option_map (number_at (codes "N") 1) (rows_of bench_app rest)

-- What the words ask for: the first one is a command's name, and the others are words for it.

-- the words behind the first, where that is the name
abbrev pub behind : List ℕ → List (List ℕ) → Option (List (List ℕ))
behind name [] = None
behind name (first ∷ rest) = cond (bytes_eq first name) (Some rest) None

abbrev pub improve_asked : List (List ℕ) → Option (Names × Numbers)
improve_asked words = option_and_then improve_in (behind (codes "improve") words)

abbrev pub check_asked : List (List ℕ) → Option Names
check_asked words = option_and_then check_in (behind (codes "check") words)

abbrev pub deorder_asked : List (List ℕ) → Option (Names × ℕ)
deorder_asked words = option_and_then deorder_in (behind (codes "deorder") words)

abbrev pub replay_asked : List (List ℕ) → Option (List ℕ)
replay_asked words = option_and_then replay_in (behind (codes "replay") words)

abbrev pub bench_asked : List (List ℕ) → Option ℕ
bench_asked words = option_and_then bench_in (behind (codes "bench") words)

-- no command is asked for
pub record AskNothing (words : List (List ℕ)) : Type 0 where
  pub improve : improve_asked words ≡ None
  pub check : check_asked words ≡ None
  pub deorder : deorder_asked words ≡ None
  pub replay : replay_asked words ≡ None
  pub bench : bench_asked words ≡ None

-- what is told is what the words ask for
abbrev pub Asks : List (List ℕ) → Option Request → Type 0
Asks words None = AskNothing words
Asks words (Some (request.Improve texts numbers)) = improve_asked words ≡ Some (names_of texts, numbers)
Asks words (Some (request.Check texts)) = check_asked words ≡ Some (names_of texts)
Asks words (Some (request.Deorder texts span)) = deorder_asked words ≡ Some (names_of texts, span)
Asks words (Some (request.Replay script)) = replay_asked words ≡ Some script.now
Asks words (Some (request.Bench size)) = bench_asked words ≡ Some size
