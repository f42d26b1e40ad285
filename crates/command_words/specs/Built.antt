-- Inner: serves this crate's own proofs alone.
-- A command of clap's that is what a description says.
use Rattle.std.specs.Prelude.{◌≡◌, ℕ, false, List, Some}
use Rattle.clap.specs.Words.{App, app_of, IsPlain, found_of, one_text}
use Rattle.clap.specs.Values.{IsUnsignedIn}
use Rattle.clap.specs.declared.builder.command.Command.{Command}
use Rattle.clap.specs.declared.builder.command.Command.TheViews.{out-Command}
use Rattle.clap.specs.declared.parser.matches.ArgMatches.{ArgMatches}

pub record IsApp (a : App) (c : Command) : Type 0 where
  pub app : app_of c ≡ a
  pub plain : IsPlain c
  pub local : (out-Command c).has_globals ≡ false

-- the text of this id, where there is one, is a number from 1 to the most
abbrev pub IsNumberAt : ArgMatches → List ℕ → ℕ → Type 0
IsNumberAt m id most = (t : List ℕ) → one_text (found_of m) id ≡ Some t → IsUnsignedIn 1 most t
