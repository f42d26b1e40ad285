-- A problem as its reader gives it, and the limit that is judged on it.
use Rattle.std.specs.Prelude.{ℕ, ◌+◌, Bool, false, cond, nat_lt, List, [], drop, Option, Some, None, Result, Ok, length}
use Rattle.bd_base.specs.declared.text_err.Limit.{Limit}
use Rattle.bd_base.specs.declared.text_err.Limit.TheVariants as limits
use Rattle.pddl_lex.specs.declared.sexp.Sexp.{Sexp}
use Rattle.pddl_types.specs.declared.terms.Atom.{Atom}
use Rattle.pddl_types.specs.declared.domains.Thing.{Thing}
use Rattle.pddl_types.specs.declared.domains.Domain.{Domain}
use Rattle.pddl_types.specs.declared.problems.Problem.{Problem}
use Rattle.pddl_types.specs.declared.problems.Given.{Given}
use Rattle.pddl_form.specs.Fault.{Fault, ◌>>=◌}
use Rattle.pddl_form.specs.Trees.{Headed}
use Rattle.pddl_form.specs.Groups.{groups}
use Rattle.pddl_form.specs.Things.{Table, things_from}
use Rattle.pddl_form.specs.Terms.{Scope}
use Rattle.pddl_form.specs.Things.{things_of}
use Rattle.pddl_problem.specs.Known.{Known, known_of, constants_of}
use Rattle.pddl_problem.specs.Outline.{Body, outline_at}
use Rattle.pddl_problem.specs.Init.{no_init, init_from}
use Rattle.pddl_problem.specs.Goal.{goal_at, metric_at}

-- the constants, and the objects behind them; a constant may be named again with its type
abbrev pub objects_from : List (List ℕ) → Table → Option Headed → Result Table Fault
objects_from types constants None = Ok constants
objects_from types constants (Some h) = things_from types constants (groups false h.place h.items)

abbrev pub things_behind : ℕ → Table → List Thing
things_behind count table = drop count (things_of table.names table.numbers)

-- terms are constants and objects
abbrev pub objects_scope : Table → Scope
objects_scope objects = record { params = []; objects = objects.names }

-- what was read of a problem
abbrev pub problem_of : Domain → Table → List Atom × List Given → List Atom → Bool → Problem
problem_of d objects init goal metric = record { objects = things_behind (length d.constants) objects; init = init.0; values = init.1; goal = goal; metric = metric }

-- what holds at first, and the values
abbrev pub init_at : Known → Scope → Headed → Result (List Atom × List Given) Fault
init_at k scope h = init_from scope k.predicates k.functions no_init h.items >>= λ s. Ok (s.atoms, s.values)

-- what is stated of the constants and objects
unfoldable pub stated_at : Domain → Known → Scope → Table → Body → Result Problem Fault
stated_at d k scope objects body = do
  init ← init_at k scope body.init
  goal ← goal_at scope k.predicates body.goal
  metric ← metric_at k.functions body.metric
  Ok (problem_of d objects init goal metric)

abbrev pub body_at : Domain → Known → Table → Body → Result Problem Fault
body_at d k constants body = objects_from k.types constants body.objects >>= λ objects. stated_at d k (objects_scope objects) objects body

-- the problem for the domain that a tree is, or its first fault
abbrev pub problem_at : Domain → Sexp → Result Problem Fault
problem_at d tree = outline_at tree >>= λ body. body_at d (known_of d) (constants_of d) body

-- the limit that a problem passes: more than 65,536 constants and objects
abbrev pub over_of : Domain → Problem → Option (Limit × ℕ)
over_of d p = cond (nat_lt 65_536 (length d.constants + length p.objects)) (Some (limits.Objects, 65_537)) None
