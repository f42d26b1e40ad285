use Rattle.std.proofs.Common.{◌≡◌, ◌++◌, map, drop}
use Rattle.pddl_form.specs.Parts.{joined, parts_of}
use Rattle.pddl_form.proofs.parts.+parts_into.Given as goal

abbrev pub invariant-loop-item : goal.invariant-loop-item
invariant-loop-item l = map (λ p. p.now) l.parts.items ++ joined (map parts_of (drop l.item-index l.rest)) ≡ map (λ p. p.now) l.initial.parts.items ++ joined (map parts_of l.rest)
