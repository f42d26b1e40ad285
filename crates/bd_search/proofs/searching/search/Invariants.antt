use Rattle.std.proofs.Common.{◌+◌, ◌*◌, ◌-◌, ◌≤◌, length}
use Rattle.bd_heur.specs.declared.join.Join.TheVariants.{Greatest}
use Rattle.bd_values.specs.Kept.{IsReady}
use Rattle.bd_search.specs.Search.{IsSearch}
use Rattle.bd_search.proofs.searching.search.Given as goal

abbrev pub invariant-loop-entry : goal.invariant-loop-entry
invariant-loop-entry l = record {
  search : IsSearch l.task l.bound l.closed l.opened (length l.task.actions);
  ready : IsReady Greatest l.task l.states;
  few : length l.closed ≤ l.nodes;
}

abbrev pub decreases-loop-entry : goal.decreases-loop-entry
decreases-loop-entry l = (l.nodes - length l.closed) * (length l.task.actions + 1) + length l.opened
