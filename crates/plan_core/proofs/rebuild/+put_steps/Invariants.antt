use Rattle.std.proofs.Common.{◌≡◌, map, drop, ◌++◌}
use Rattle.plan_core.specs.Rebuilt.{joined_nodes, leaves_of}
use Rattle.plan_core.proofs.rebuild.+put_steps.Given as goal

abbrev pub invariant-loop-kid : goal.invariant-loop-kid
invariant-loop-kid l = l.steps.items ++ joined_nodes (map leaves_of (drop l.kid-index l.kid-items)) ≡ l.initial.steps.items ++ leaves_of l.node
