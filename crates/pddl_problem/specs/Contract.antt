-- What the reader of problems promises to whoever takes one, with the domain that was read for it.
use Rattle.std.specs.Prelude.{◌<◌, ◌+◌, ◌^◌, [], length, map}
use Rattle.pddl_types.specs.declared.domains.Domain.{Domain}
use Rattle.pddl_types.specs.declared.problems.Problem.{Problem}
use Rattle.pddl_form.specs.Spells.{AreNew}
use Rattle.pddl_problem.specs.Init.{key_of}
use Rattle.pddl_types.specs.Readable.{IsProblem, AreNamed}

-- no more atoms and values than numbers of 32 bits count
pub record IsShort (p : Problem) : Type 0 where
  pub atoms : length p.init + length p.goal < 2 ^ 32
  pub values : length p.values < 2 ^ 32

-- what is stated is over the constants and objects, each of these is declared once, and each atom and value stated once
pub record IsReadFor (d : Domain) (p : Problem) : Type 0 where
  pub sound : IsProblem d p
  pub init_once : AreNew [] (map key_of p.init)
  pub values_once : AreNew [] (map (λ v. key_of v.call) p.values)
  pub named : AreNamed d p
