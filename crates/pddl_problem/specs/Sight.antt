-- What the code's sections and statements are to the reading.
use Rattle.std.specs.Option.{option_map}
use Rattle.pddl_form.specs.Sight.{headed_of, table_of}
use Rattle.pddl_problem.specs.Outline.{Outline, Body}
use Rattle.pddl_problem.specs.Known.{Known}
use Rattle.pddl_problem.specs.Init.{Init}
use Rattle.pddl_problem.specs.declared.sections.Sections.{Sections}
use Rattle.pddl_problem.specs.declared.sections.Body as code_body
use Rattle.pddl_problem.specs.declared.known.Known as code_known
use Rattle.pddl_problem.specs.declared.init.Init as code_init

abbrev pub outline_of : Sections → Outline
outline_of s = record {
  domain = option_map headed_of s.domain;
  requirements = option_map headed_of s.requirements;
  objects = option_map headed_of s.objects;
  init = option_map headed_of s.init;
  goal = option_map headed_of s.goal;
  metric = option_map headed_of s.metric;
}

abbrev pub body_of : code_body.Body → Body
body_of b = record { objects = option_map headed_of b.objects; init = headed_of b.init; goal = headed_of b.goal; metric = option_map headed_of b.metric }

abbrev pub known_in : code_known.Known → Known
known_in k = record { types = k.types; predicates = table_of k.predicates; functions = table_of k.functions }

abbrev pub init_of : code_init.Init → Init
init_of s = record { keys = s.keys; atoms = s.atoms.items; calls = s.calls; values = s.values.items }
