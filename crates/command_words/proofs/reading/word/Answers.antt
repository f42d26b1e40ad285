use Rattle.std.proofs.Common.{◌∙◌, ap, sym, List, ℕ, [], Option}
use Rattle.std.specs.Prelude.{option_map, unwrap_or}
use Rattle.std.specs.Borrow.{Bor}
use Rattle.clap.specs.Words.{found_of}
use Rattle.command_words.proofs.NumberLemmas.{word_told}
use Rattle.command_words.proofs.reading.word.Goals as goal

pub returns-in-Some : goal.returns-in-Some
returns-in-Some c =
    ap (λ (o : Option (Bor (List ℕ))). unwrap_or (option_map (λ s. s.now) o) []) (sym c.in-Some.is)
    ∙ word_told (found_of c.args.matches.now) c.args.id.now c.get_str.result c.get_str.ensures

pub returns-in-None : goal.returns-in-None
returns-in-None c =
    ap (λ (o : Option (Bor (List ℕ))). unwrap_or (option_map (λ s. s.now) o) []) (sym c.in-None.is)
    ∙ word_told (found_of c.args.matches.now) c.args.id.now c.get_str.result c.get_str.ensures
