-- A command of clap's that is a description, with one more argument.
use Rattle.std.proofs.Common.{◌≡◌, ◌∙◌, ◌||◌, ap₂, Bool, false}
use Rattle.clap.specs.Words.{AddsArg, App, IsPlainArg, Rule, rule_of, with_rule}
use Rattle.clap.specs.declared.builder.arg.Arg.{Arg}
use Rattle.clap.specs.declared.builder.command.Command.{Command}
use Rattle.clap.proofs.CallerLemmas.{added_plain}
use Rattle.command_words.specs.Built.{IsApp}

pub added_app : (old new : Command) (x : Arg) (r : Rule) → AddsArg old x new → IsPlainArg x → x.global ≡ false → rule_of x ≡ r
    → (a : App) → IsApp a old → IsApp (with_rule a r) new
added_app old new x r added plain local rule a is = record {
  app = added.shape local ∙ ap₂ with_rule is.app rule;
  plain = added_plain old new x added is.plain plain;
  local = added.globals ∙ ap₂ (λ (b d : Bool). b || d) is.local local;
}
