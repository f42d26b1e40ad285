use Rattle.std.proofs.Common.{◌≡◌, ◌++◌, map, drop}
use Rattle.pddl_form.specs.Things.{heads_of}
use Rattle.pddl_form.proofs.rows.heads_of.Given as goal

abbrev pub invariant-loop-name : goal.invariant-loop-name
invariant-loop-name l = l.heads.items ++ heads_of (map (λ n. n.now) (drop l.name-index l.names)) l.arities ≡ heads_of (map (λ n. n.now) l.names) l.initial.arities
