use Rattle.std.proofs.Common.{◌≡◌, ◌++◌, map, drop}
use Rattle.pddl_form.specs.Things.{things_of}
use Rattle.pddl_form.proofs.rows.things_of.Given as goal

abbrev pub invariant-loop-name : goal.invariant-loop-name
invariant-loop-name l = l.things.items ++ things_of (map (λ n. n.now) (drop l.name-index l.names)) l.kinds ≡ things_of (map (λ n. n.now) l.names) l.initial.kinds
