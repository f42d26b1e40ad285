-- Inner: serves this crate's own proofs alone.
-- What is told of the words behind one command.
use Rattle.std.specs.Prelude.{◌≡◌, ℕ, List, Option, Some, None}
use Rattle.command_words.specs.Asked.{bench_in, check_in, deorder_in, improve_in, names_of, replay_in}
use Rattle.command_words.specs.declared.request.Request.{Request}
use Rattle.command_words.specs.declared.request.Request.TheVariants as request

abbrev pub AsksImprove : List (List ℕ) → Option Request → Type 0
AsksImprove rest None = improve_in rest ≡ None
AsksImprove rest (Some (request.Improve texts numbers)) = improve_in rest ≡ Some (names_of texts, numbers)
AsksImprove rest other = ⊥

abbrev pub AsksCheck : List (List ℕ) → Option Request → Type 0
AsksCheck rest None = check_in rest ≡ None
AsksCheck rest (Some (request.Check texts)) = check_in rest ≡ Some (names_of texts)
AsksCheck rest other = ⊥

abbrev pub AsksDeorder : List (List ℕ) → Option Request → Type 0
AsksDeorder rest None = deorder_in rest ≡ None
AsksDeorder rest (Some (request.Deorder texts span)) = deorder_in rest ≡ Some (names_of texts, span)
AsksDeorder rest other = ⊥

abbrev pub AsksReplay : List (List ℕ) → Option Request → Type 0
AsksReplay rest None = replay_in rest ≡ None
AsksReplay rest (Some (request.Replay script)) = replay_in rest ≡ Some script.now
AsksReplay rest other = ⊥

abbrev pub AsksBench : List (List ℕ) → Option Request → Type 0
AsksBench rest None = bench_in rest ≡ None
AsksBench rest (Some (request.Bench size)) = bench_in rest ≡ Some size
AsksBench rest other = ⊥
