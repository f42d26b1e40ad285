use Rattle.std.proofs.Common.{◌∙◌, ap, List, map, []}
use Rattle.bd_base.specs.Facts.{plus}
use Rattle.bd_links.specs.Child.{Child}
use Rattle.bd_subtask.specs.declared.fact_rows.FactRow.{FactRow}
use Rattle.bd_subtask.specs.Level.{touched_rows}
use Rattle.bd_subtask.proofs.level.level_of.Goals as goal

pub returns-clause-kept : goal.returns-clause-kept
returns-clause-kept c = record {
  rows = c.in_ok-rows.ensures;
  touched = c.in_ok-touched.ensures ∙ ap (λ (z : List FactRow). map (λ (k : Child). plus [] (touched_rows z k)) c.args.parts.now) c.deref.ensures.value;
  whole = c.in_ok-whole.ensures;
}
