-- Domains and problems that are spelled are read, and those that are read are spelled.
use Rattle.std.proofs.Common.{◌≡◌, ℕ, false, List, [], Option, Some, None, Ok, refl, sym, ap, subst, ◌∙◌}
use Rattle.pddl_lex.specs.declared.sexp.Sexp.{Sexp}
use Rattle.pddl_types.specs.declared.terms.Atom.{Atom}
use Rattle.pddl_types.specs.declared.problems.Given.{Given}
use Rattle.pddl_types.specs.declared.domains.Domain.{Domain}
use Rattle.pddl_types.specs.declared.problems.Problem.{Problem}
use Rattle.pddl_form.specs.Trees.{Headed}
use Rattle.pddl_form.specs.Groups.{groups}
use Rattle.pddl_form.specs.Things.{Table}
use Rattle.pddl_form.proofs.Laws.{bind_ok}
use Rattle.pddl_form.proofs.TypedLemmas.{typed_read, typed_back}
use Rattle.pddl_form.proofs.ThingLemmas.{groups_back, things_spelled, things_complete}
use Rattle.pddl_domain.specs.Outline.{outline_at}
use Rattle.pddl_domain.specs.Types.{Types}
use Rattle.pddl_domain.specs.Domain.{Declared, types_section, things_section, predicates_section, functions_section, declared_at}
use Rattle.pddl_domain.specs.Actions.{actions_from}
use Rattle.pddl_domain.specs.Whole.{domain_of, with_actions, domain_at}
use Rattle.pddl_domain.proofs.HeadLemmas.{predicates_spelled, predicates_complete}
use Rattle.pddl_problem.specs.Outline as problem
use Rattle.pddl_problem.specs.Init.{no_init, init_from}
use Rattle.pddl_problem.specs.Goal.{goal_at, metric_at}
use Rattle.pddl_problem.specs.Known.{Known, known_of, constants_of}
use Rattle.pddl_problem.specs.Whole.{objects_from, objects_scope, problem_of, init_at, stated_at, body_at, problem_at}
use Rattle.pddl_laws.specs.Whole.{TypesSection, ConstantsSection, PredicatesSection, FunctionsSection, ObjectsSection, SpellsDeclared, SpellsDomain, SpellsProblem}
use Rattle.pddl_laws.proofs.GroupLemmas.{groups_read}
use Rattle.pddl_laws.proofs.OutlineLemmas.{domain_outline_read, domain_outline_spelled, problem_outline_read, problem_outline_spelled}
use Rattle.pddl_laws.proofs.TypesLemmas.{types_spelled}
use Rattle.pddl_laws.proofs.TypesReadLemmas.{types_read}
use Rattle.pddl_laws.proofs.FunctionLemmas.{functions_complete, functions_spelled}
use Rattle.pddl_laws.proofs.ActionLemmas.{actions_complete, actions_spelled}
use Rattle.pddl_laws.proofs.StatedLemmas.{stated_read, stated_spelled, goal_read, goal_spelled, metric_read, metric_spelled}

types_in : (section : Option Headed) (types : Types) → TypesSection section types → types_section section ≡ Ok types
types_in None types h = ap (λ (t : Types). Ok t) (sym h)
types_in (Some s) types h = types_read s.place s.items types h

types_out : (section : Option Headed) (types : Types) → types_section section ≡ Ok types → TypesSection section types
types_out None types e = cc
types_out (Some s) types e = types_spelled s.place s.items types e

constants_in : (types : List (List ℕ)) (section : Option Headed) (table : Table) → ConstantsSection types section table → things_section types section ≡ Ok table
constants_in types None table h = ap (λ (t : Table). Ok t) (sym h)
constants_in types (Some s) table h = things_complete types s.place s.items table h

constants_out : (types : List (List ℕ)) (section : Option Headed) (table : Table) → things_section types section ≡ Ok table → ConstantsSection types section table
constants_out types None table e = cc
constants_out types (Some s) table e = things_spelled types s.place s.items table e

predicates_in : (section : Option Headed) (table : Table) → PredicatesSection section table → predicates_section section ≡ Ok table
predicates_in None table h = ap (λ (t : Table). Ok t) (sym h)
predicates_in (Some s) table h = predicates_complete s.items table h

predicates_out : (section : Option Headed) (table : Table) → predicates_section section ≡ Ok table → PredicatesSection section table
predicates_out None table e = cc
predicates_out (Some s) table e = predicates_spelled s.items table e

functions_in : (section : Option Headed) (table : Table) → FunctionsSection section table → functions_section section ≡ Ok table
functions_in None table h = ap (λ (t : Table). Ok t) (sym h)
functions_in (Some s) table h = functions_complete s.place s.items table h

functions_out : (section : Option Headed) (table : Table) → functions_section section ≡ Ok table → FunctionsSection section table
functions_out None table e = cc
functions_out (Some s) table e = functions_spelled s.place s.items table e

objects_in : (types : List (List ℕ)) (constants : Table) (section : Option Headed) (table : Table) → ObjectsSection types constants section table → objects_from types constants section ≡ Ok table
objects_in types constants None table h = ap (λ (t : Table). Ok t) (sym h)
objects_in types constants (Some s) table h = rw (typed_read s.place h.1) (groups_read h.2)

objects_out : (types : List (List ℕ)) (constants : Table) (section : Option Headed) (table : Table) → objects_from types constants section ≡ Ok table → ObjectsSection types constants section table
objects_out types constants None table e = cc
objects_out types constants (Some s) table e =
    let r = groups_back types (groups false s.place s.items) constants table e in
    (r.0, typed_back false s.place s.items r.0 r.1, r.2)

-- domains

declared_read : (tree : Sexp) (d : Declared) → SpellsDeclared tree d → declared_at tree ≡ Ok d
unfolding declared_at
declared_read tree d h =
    rw (
      domain_outline_read tree h.outline h.sections,
      types_in h.outline.types d.types h.types,
      constants_in d.types.names h.outline.constants d.constants h.constants,
      predicates_in h.outline.predicates d.predicates h.predicates,
      functions_in h.outline.functions d.functions h.functions,
      sym h.actions,
    ) refl

declared_spelled : (tree : Sexp) (d : Declared) → declared_at tree ≡ Ok d → SpellsDeclared tree d
unfolding declared_at
declared_spelled tree d e =
    let o = bind_ok (outline_at tree) _ d e in
    let t = bind_ok (types_section o.0.types) _ d o.2 in
    let c = bind_ok (things_section t.0.names o.0.constants) _ d t.2 in
    let p = bind_ok (predicates_section o.0.predicates) _ d c.2 in
    let f = bind_ok (functions_section o.0.functions) _ d p.2 in
    let is : record { types = t.0; constants = c.0; predicates = p.0; functions = f.0; actions = o.0.actions } ≡ d = cc in
    subst (SpellsDeclared tree) is (record {
      outline = o.0;
      sections = domain_outline_spelled tree o.0 o.1;
      types = types_out o.0.types t.0 t.1;
      constants = constants_out t.0.names o.0.constants c.0 c.1;
      predicates = predicates_out o.0.predicates p.0 p.1;
      functions = functions_out o.0.functions f.0 f.1;
      actions = refl;
    })

pub domain_read : (tree : Sexp) (d : Domain) → SpellsDomain tree d → domain_at tree ≡ Ok d
domain_read tree d h = rw (declared_read tree h.declared h.before, actions_complete h.declared h.declared.actions h.schemas h.actions) (ap (λ (x : Domain). Ok x) (sym h.whole))

pub domain_spelled : (tree : Sexp) (d : Domain) → domain_at tree ≡ Ok d → SpellsDomain tree d
domain_spelled tree d e =
    let b = bind_ok (declared_at tree) (λ x. with_actions x) d e in
    let s = bind_ok (actions_from b.0 [] [] b.0.actions) (λ schemas. Ok (domain_of b.0 schemas)) d b.2 in
    let is : d ≡ domain_of b.0 s.0 = cc in
    record { declared = b.0; schemas = s.0; before = declared_spelled tree b.0 b.1; actions = actions_spelled b.0 b.0.actions s.0 s.1; whole = is }

pub domain_one : (tree : Sexp) (a b : Domain) → SpellsDomain tree a → SpellsDomain tree b → a ≡ b
domain_one tree a b h k = let x = domain_read tree a h in let y = domain_read tree b k in cc

-- problems

pub problem_read : (d : Domain) (tree : Sexp) (p : Problem) → SpellsProblem d tree p → problem_at d tree ≡ Ok p
unfolding stated_at
problem_read d tree p h =
    let k : Known = known_of d in
    rw (
      problem_outline_read tree h.body h.sections,
      objects_in k.types (constants_of d) h.body.objects h.objects h.are_objects,
      stated_read (objects_scope h.objects) k.predicates k.functions h.body.init.items h.init h.is_init,
      goal_read (objects_scope h.objects) k.predicates h.body.goal h.goal h.is_goal,
      metric_read k.functions h.body.metric h.metric h.is_metric,
    )
    (ap (λ (x : Problem). Ok x) (sym h.whole))

pub problem_spelled : (d : Domain) (tree : Sexp) (p : Problem) → problem_at d tree ≡ Ok p → SpellsProblem d tree p
unfolding stated_at
problem_spelled d tree p e =
    let k : Known = known_of d in
    let b = bind_ok (problem.outline_at tree) (λ body. body_at d k (constants_of d) body) p e in
    let o = bind_ok (objects_from k.types (constants_of d) b.0.objects) (λ objects. stated_at d k (objects_scope objects) objects b.0) p b.2 in
    let i = bind_ok (init_at k (objects_scope o.0) b.0.init) _ p o.2 in
    let s = bind_ok (init_from (objects_scope o.0) k.predicates k.functions no_init b.0.init.items) (λ s. Ok (s.atoms, s.values)) i.0 i.1 in
    let g = bind_ok (goal_at (objects_scope o.0) k.predicates b.0.goal) _ p i.2 in
    let m = bind_ok (metric_at k.functions b.0.metric) _ p g.2 in
    let is : p ≡ problem_of d o.0 i.0 g.0 m.0 = cc in
    let stated : i.0 ≡ (s.0.atoms, s.0.values) = cc in
    record {
      body = b.0;
      objects = o.0;
      init = s.0;
      goal = g.0;
      metric = m.0;
      sections = problem_outline_spelled tree b.0 b.1;
      are_objects = objects_out k.types (constants_of d) b.0.objects o.0 o.1;
      is_init = stated_spelled (objects_scope o.0) k.predicates k.functions b.0.init.items s.0 s.1;
      is_goal = goal_spelled (objects_scope o.0) k.predicates b.0.goal g.0 g.1;
      is_metric = metric_spelled k.functions b.0.metric m.0 m.1;
      whole = is ∙ ap (λ (x : List Atom × List Given). problem_of d o.0 x g.0 m.0) stated;
    }

pub problem_one : (d : Domain) (tree : Sexp) (a b : Problem) → SpellsProblem d tree a → SpellsProblem d tree b → a ≡ b
problem_one d tree a b h k = let x = problem_read d tree a h in let y = problem_read d tree b k in cc
