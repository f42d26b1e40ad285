use Rattle.script_text.specs.Lines.{words}
use Rattle.script_text.proofs.StartLemmas.{root_few}
use Rattle.script_text.proofs.nodes.root_at.Goals as goal

pub returns-clause-few : goal.returns-clause-few
returns-clause-few c = root_few c.args.names.now c.args.place (words c.args.line.now) _ c.read_root.ensures
