-- What is read of a parse: a word as it stands, and the number that a text in its range writes.
use Rattle.std.proofs.Common.{◌≡◌, ◌∙◌, ◌≤◌, ◌<◌, ◌^◌, ap, subst, sym, refl, ℕ, List, [], Option, Some, None, arith}
use Rattle.std.specs.Prelude.{option_map, unwrap_or, Result, Ok, Err}
use Rattle.std.specs.Option.{option_map_or}
use Rattle.std.specs.Borrow.{Bor}
use Rattle.std.specs.Str.Parse.{ParsesUnsigned, digits_value, without_leading_plus}
use Rattle.clap.specs.Words.{ReadsOne, first_value, found_of, one_text, rows_of}
use Rattle.clap.specs.Values.{IsUnsignedIn}
use Rattle.clap.specs.declared.parser.matches.ArgMatches.{ArgMatches}
use Rattle.clap.specs.declared.parser.matches.Found.{Found}
use Rattle.clap.proofs.WalkLemmas.{first_value-rows, one_text-rows}
use Rattle.command_words.specs.Asked.{number_at, number_in, word_at}
use Rattle.command_words.specs.Built.{IsNumberAt}
use Rattle.command_words.specs.Range.{IsFrom1To}

pub word_told : (f : Found) (id : List ℕ) (o : Option (Bor (List ℕ))) → option_map (λ s. s.now) o ≡ first_value f id
    → unwrap_or (option_map (λ s. s.now) o) [] ≡ word_at id (rows_of f)
word_told f id o e = ap (λ (t : Option (List ℕ)). unwrap_or t []) (e ∙ first_value-rows f id)

-- the number that is read of a text in its range
read_told : (E : Type 0) (G : List ℕ → Result ℕ E → Type 0) (most default : ℕ) (t : List ℕ) (r : Option ℕ)
    → ((u : List ℕ) (x : Result ℕ E) → G u x → ParsesUnsigned 32 10 u x) → most ≤ 1_000_000
    → IsUnsignedIn 1 most t → ReadsOne G t r → unwrap_or r default ≡ number_in t
read_told E G most default t (Some n) only few passed read = (only t (Ok n) read).1
read_told E G most default t None only few passed read =
    let small : digits_value 10 (without_leading_plus t) < 2 ^ 32 = omega arith in
    absurd (only t (Err read.0) read.1 (passed.0, small))

pub number_told : (E : Type 0) (G : List ℕ → Result ℕ E → Type 0) (m : ArgMatches) (id : List ℕ) (most default : ℕ) (r : Option ℕ)
    → ((u : List ℕ) (x : Result ℕ E) → G u x → ParsesUnsigned 32 10 u x) → most ≤ 1_000_000 → IsNumberAt m id most
    → (one_text (found_of m) id ≡ None → r ≡ None) → ((t : List ℕ) → one_text (found_of m) id ≡ Some t → ReadsOne G t r)
    → unwrap_or r default ≡ number_at id default (rows_of (found_of m))
number_told E G m id most default r only few passes none some = go (one_text (found_of m) id) refl
  where
    go : (o : Option (List ℕ)) → one_text (found_of m) id ≡ o → unwrap_or r default ≡ number_at id default (rows_of (found_of m))
    go None e = ap (λ (x : Option ℕ). unwrap_or x default) (none e)
        ∙ ap (λ (x : Option (List ℕ)). option_map_or number_in x default) (sym e ∙ one_text-rows (found_of m) id)
    go (Some t) e = read_told E G most default t r only few (passes t e) (some t e)
        ∙ ap (λ (x : Option (List ℕ)). option_map_or number_in x default) (sym e ∙ one_text-rows (found_of m) id)

-- the number that is read stands in its range
pub number_ranged : (m : ArgMatches) (id : List ℕ) (most default : ℕ) → IsNumberAt m id most → IsFrom1To most default
    → IsFrom1To most (number_at id default (rows_of (found_of m)))
number_ranged m id most default passes own = go (one_text (found_of m) id) refl
  where
    go : (o : Option (List ℕ)) → one_text (found_of m) id ≡ o → IsFrom1To most (number_at id default (rows_of (found_of m)))
    go None e = subst (λ (x : Option (List ℕ)). IsFrom1To most (option_map_or number_in x default)) (sym e ∙ one_text-rows (found_of m) id) own
    go (Some t) e = subst (λ (x : Option (List ℕ)). IsFrom1To most (option_map_or number_in x default)) (sym e ∙ one_text-rows (found_of m) id) ((passes t e).2, (passes t e).3)
