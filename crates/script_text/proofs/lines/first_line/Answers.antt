use Rattle.std.proofs.Common.{◌∙◌, sym, ap, map, arith, ◌<◌, length}
use Rattle.script_text.specs.Lines.{words}
use Rattle.script_text.proofs.LineLemmas.{lines-found, lines-missed}
use Rattle.script_text.proofs.lines.first_line.Goals as goal

pub returns-in-None-clause-line : goal.returns-in-None-clause-line
returns-in-None-clause-line c =
    let some : 0 < length c.args.text.now = grind arith in
    ap (map words) (lines-missed c.args.text.now some (sym c.lf_at.ensures ∙ c.in-None.is))

pub returns-in-Some-clause-line : goal.returns-in-Some-clause-line
returns-in-Some-clause-line c =
    let e = lines-found c.args.text.now c.in-Some.i (sym c.lf_at.ensures ∙ c.in-Some.is) in
    rw (c.without_cr.ensures.line, c.split_at.ensures.front, c.split_at-in-Some.ensures.back) (ap (map words) e)
