use Rattle.std.proofs.Common.{◌≡◌, ◌+◌, ◌++◌, drop}
use Rattle.bd_deorder.specs.Direct.{children_of}
use Rattle.bd_deorder.proofs.flat.children_of.Given as goal

abbrev pub invariant-loop-action : goal.invariant-loop-action
invariant-loop-action l = record {
  id : l.id ≡ l.action-index + 1;
  put : l.kids.items ++ children_of l.task.actions l.id (drop l.action-index l.list) ≡ children_of l.task.actions 1 l.list;
}
