use Rattle.std.proofs.Common.{◌≡◌, ◌≤◌, ◌<◌, length, take, drop}
use Rattle.std.specs.List.{AllByRecursion}
use Rattle.bd_base.specs.Causes.{appended}
use Rattle.plan_text.specs.Printed.{plan_lines}
use Rattle.plan_text.proofs.printed.print_plan.Given as goal

abbrev pub invariant-loop-action : goal.invariant-loop-action
invariant-loop-action g l = record {
  told : g.S.Sink.told l.sink ≡ appended (g.S.Sink.told l.initial.sink) (plan_lines l.task (take l.action-index l.list));
  later : g.S.Sink.faults l.initial.sink ≤ g.S.Sink.faults l.sink;
  below : AllByRecursion (λ a. a < length l.task.actions) (drop l.action-index l.list);
}
