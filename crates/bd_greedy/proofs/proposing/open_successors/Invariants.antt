use Rattle.std.proofs.Common.{◌+◌, ◌≤◌, length}
use Rattle.bd_base.specs.Facts.{IsRising}
use Rattle.bd_heur.specs.declared.join.Join.TheVariants.{Sum}
use Rattle.bd_values.specs.Kept.{IsReady}
use Rattle.bd_greedy.specs.Hunt.{IsHunt}
use Rattle.bd_greedy.proofs.HuntLemmas.{AreTodo}
use Rattle.bd_greedy.proofs.proposing.open_successors.Given as goal

abbrev pub invariant-loop-f : goal.invariant-loop-f
invariant-loop-f l = record {
  hunt : IsHunt l.task l.closed l.opened l.done;
  few : length l.opened ≤ length l.initial.opened + l.done;
  low : l.done ≤ length l.task.actions;
  rising : IsRising l.f-iterator;
  todo : AreTodo l.task l.entry.state l.done l.f-iterator;
  ready : IsReady Sum l.task l.states;
}
