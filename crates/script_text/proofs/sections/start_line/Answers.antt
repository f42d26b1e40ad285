use Rattle.std.proofs.Common.{ap, sym, ◌∙◌, codes, arith}
use Rattle.script_text.specs.Lines.{words}
use Rattle.script_text.specs.Word.{wording}
use Rattle.script_text.proofs.LentLemmas.{key_short}
use Rattle.script_text.proofs.sections.start_line.Goals as goal

pub start_at-requires : goal.start_at-requires
start_at-requires c =
    let key = sym (ap wording c.in-Some-after_key.is) ∙ c.after_key.ensures in
    let few = key_short c.args.at.rest.now (codes "start") (words c.in-Some.line.now) (words c.in-Some-after_key.rest.now) _ c.in-Some.ensures.0 key in
    omega (arith, few, c.args.at.short)
