use Rattle.std.proofs.Common.{◌||◌, ◌+◌, ℕ, List, ap, ◌∙◌}
use Rattle.bd_base.specs.Facts.{has}
use Rattle.bd_merge.specs.Starts.{is_in_run}
use Rattle.bd_merge.proofs.RiseLemmas.{run_put_at}
use Rattle.bd_merge.proofs.ordering.new_row.Goals as goal

pub returns : goal.returns
returns c = λ q. run_put_at c.in_ok-row.row c.put_run.new.self (c.args.a + 1) c.args.count c.in_ok-put_run.ensures q ∙ ap (λ (z : List ℕ). has z q || is_in_run (c.args.a + 1) c.args.count q) c.in_ok-row.ensures
