-- The ranges of the numbers that words ask for.
use Rattle.std.specs.Prelude.{ℕ, ◌≤◌, Option, Some, None}
use Rattle.command_words.specs.declared.request.Numbers.{Numbers}
use Rattle.command_words.specs.declared.request.Request.{Request}
use Rattle.command_words.specs.declared.request.Request.TheVariants as request

-- the number is from 1 to the most
abbrev pub IsFrom1To : ℕ → ℕ → Type 0
IsFrom1To most n = (1 ≤ n) × (n ≤ most)

-- each number of an improvement stands in its range
pub record AreNumbersInRange (n : Numbers) : Type 0 where
  pub workers : IsFrom1To 64 n.workers
  pub nodes : IsFrom1To 100_000 n.nodes
  pub width : IsFrom1To 64 n.width
  pub span : IsFrom1To 64 n.span
  pub stop : IsFrom1To 1_000_000 n.stop

-- each number of what is asked for stands in its range
abbrev pub AreInRange : Option Request → Type 0
AreInRange None = Unit {0}
AreInRange (Some (request.Improve texts numbers)) = AreNumbersInRange numbers
AreInRange (Some (request.Check texts)) = Unit {0}
AreInRange (Some (request.Deorder texts span)) = IsFrom1To 64 span
AreInRange (Some (request.Replay script)) = Unit {0}
AreInRange (Some (request.Bench size)) = IsFrom1To 600 size
