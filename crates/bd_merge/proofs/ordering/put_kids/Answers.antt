use Rattle.std.specs.Prelude.{slice_index}
use Rattle.bd_merge.proofs.RiseLemmas.{run_put}
use Rattle.bd_merge.proofs.ordering.put_kids.Goals as goal

pub returns : goal.returns
returns c = run_put c.put_run.result c.args.row.now c.put_run.new.self (slice_index c.args.starts.now c.args.from) (slice_index c.args.starts.now c.args.to) c.put_run.ensures
