use Rattle.std.proofs.Common.{◌≡◌, ◌++◌, map}
use Rattle.bd_tree.specs.Tree.{joined}
use Rattle.bd_report.specs.TreeText.{order_lines, pair_lines}
use Rattle.bd_report.proofs.orderings.push_orderings.Given as goal

abbrev pub invariant-loop-pair : goal.invariant-loop-pair
invariant-loop-pair l = l.text.items ++ joined (map (pair_lines l.task l.margin l.kids l.order) l.pair-iterator) ≡ l.initial.text.items ++ order_lines l.task l.margin l.kids l.order
