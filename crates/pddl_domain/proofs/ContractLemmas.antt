-- A domain that was read speaks of what it declares.
use Rattle.std.proofs.Common.{◌≡◌, ℕ, suc, ◌<◌, ◌≤◌, ◌||◌, Bool, true, false, cond, nat_lt, List, [], ◌∷◌, Option, Some, None, Result, Ok, Err, IfOk, length, map, refl, sym, ap, subst, ◌∙◌, arith}
use Rattle.std.specs.List.{AllByRecursion, list_any}
use Rattle.std.proofs.lemmas.Bool.Decides.{nat_tests}
use Rattle.bd_base.specs.declared.text_err.Limit.{Limit}
use Rattle.bd_base.specs.declared.text_err.Limit.TheVariants as limits
use Rattle.bd_base.specs.declared.text_err.TextErr.{TextErr}
use Rattle.pddl_lex.specs.declared.sexp.Sexp.{Sexp}
use Rattle.pddl_types.specs.declared.domains.Schema.{Schema}
use Rattle.pddl_types.specs.declared.domains.Domain.{Domain}
use Rattle.pddl_types.specs.Readable.{AreAtoms, AreSames, IsCost, IsSchema, AreNames}
use Rattle.pddl_form.specs.Fault.{Answers}
use Rattle.pddl_domain.specs.Domain.{Declared, types_section, things_section, predicates_section, functions_section, declared_at}
use Rattle.pddl_domain.specs.Outline.{outline_at}
use Rattle.pddl_domain.proofs.ForestLemmas.{AreEnding, types_ending, are_forest}
use Rattle.pddl_domain.specs.Actions.{actions_from}
use Rattle.pddl_domain.specs.Whole.{types_of, domain_of, with_actions, domain_at, over_of}
use Rattle.pddl_form.specs.Things.{things_of, heads_of}
use Rattle.pddl_form.specs.Contract.{IsForest, IsRead}
use Rattle.pddl_form.proofs.Laws.{bind_ok}
use Rattle.pddl_form.proofs.RangeLemmas.{rows_of}
use Rattle.pddl_domain.proofs.SchemaLemmas.{SchemaIn, actions_in}
use Rattle.pddl_domain.proofs.TableLemmas.{AreDeclared, declared_are}
use Rattle.pddl_domain.proofs.NewLemmas.{declared_once, names_of, actions_once}
use Rattle.pddl_form.proofs.SeenLemmas.{none_once, once_apart}
use Rattle.pddl_form.proofs.TableLemmas.{things_length, thing_names, things_kinds}

types_length : (names : List (List ℕ)) (parents : List (Option ℕ)) → length names ≡ length parents → length (types_of names parents) ≡ length names
types_length [] parents e = refl
types_length (n ∷ names) [] e = absurd (omega (arith, e))
types_length (n ∷ names) (p ∷ parents) e = ap (λ (k : ℕ). suc k) (types_length names parents (omega (arith, e)))

type_names : (names : List (List ℕ)) (parents : List (Option ℕ)) → length names ≡ length parents → names ≡ map (λ t. t.name) (types_of names parents)
type_names [] parents e = refl
type_names (n ∷ names) [] e = absurd (omega (arith, e))
type_names (n ∷ names) (p ∷ parents) e = ap (λ (l : List (List ℕ)). n ∷ l) (type_names names parents (omega (arith, e)))

head_names : (names : List (List ℕ)) (kinds : List ℕ) → length names ≡ length kinds → names ≡ map (λ h. h.name) (heads_of names kinds)
head_names [] kinds e = refl
head_names (n ∷ names) [] e = absurd (omega (arith, e))
head_names (n ∷ names) (k ∷ kinds) e = ap (λ (l : List (List ℕ)). n ∷ l) (head_names names kinds (omega (arith, e)))

within : (n : ℕ) → nat_lt 16 n ≡ false → n ≤ 16
within n e = grind (arith, nat_tests)

none_of : (s t : Bool) → (s || t) ≡ false → (s ≡ false) × (t ≡ false)
none_of true t e = cc
none_of false t e = (refl, e)

schema_fits : (d : Declared) (all : List Schema) (s : Schema) → AreDeclared d → length s.params ≤ 16 → SchemaIn d s → IsSchema (domain_of d all) s
schema_fits d all s are few h =
    let t : length d.types.names ≡ length (types_of d.types.names d.types.parents) = sym (types_length d.types.names d.types.parents are.types.even) in
    let c : length d.constants.names ≡ length (things_of d.constants.names d.constants.numbers) = sym (things_length d.constants.names d.constants.numbers are.constants.even) in
    let n : ℕ = length s.params in
    record {
      few = few;
      kinds = subst (λ (m : ℕ). AllByRecursion (λ k. k < m) s.params) t h.kinds;
      pre = subst (λ m. AreAtoms (rows_of d.predicates) n m s.pre) c h.pre;
      equal = subst (λ m. AreSames n m s.equal) c h.equal;
      differ = subst (λ m. AreSames n m s.differ) c h.differ;
      add = subst (λ m. AreAtoms (rows_of d.predicates) n m s.add) c h.add;
      del = subst (λ m. AreAtoms (rows_of d.predicates) n m s.del) c h.del;
      cost = subst (λ m. IsCost (rows_of d.functions) n m s.cost) c h.cost;
    }

schemas_fit : (d : Declared) (all ss : List Schema) → AreDeclared d → list_any (λ s. nat_lt 16 (length s.params)) ss ≡ false → AllByRecursion (SchemaIn d) ss → AllByRecursion (λ s. IsSchema (domain_of d all) s) ss
schemas_fit d all [] are e h = tt
schemas_fit d all (s ∷ ss) are e h =
    let n = none_of (nat_lt 16 (length s.params)) (list_any (λ s. nat_lt 16 (length s.params)) ss) e in
    (schema_fits d all s are (within (length s.params) n.0) h.0, schemas_fit d all ss are n.1 h.1)

no_limit : (t : Bool) (x : Limit × ℕ) → cond t (Some x) None ≡ None → t ≡ false
no_limit true x e = cc
no_limit false x e = refl

forest_of : (tree : Sexp) (d : Declared) → declared_at tree ≡ Ok d → AreDeclared d → IsForest (types_of d.types.names d.types.parents)
unfolding declared_at
forest_of tree d e are =
    let o = bind_ok (outline_at tree) _ d e in
    let t = bind_ok (types_section o.0.types) _ d o.2 in
    let c = bind_ok (things_section t.0.names o.0.constants) _ d t.2 in
    let p = bind_ok (predicates_section o.0.predicates) _ d c.2 in
    let f = bind_ok (functions_section o.0.functions) _ d p.2 in
    let is : record { types = t.0; constants = c.0; predicates = p.0; functions = f.0; actions = o.0.actions } ≡ d = cc in
    let same : t.0 ≡ d.types = ap (λ (x : Declared). x.types) is in
    are_forest d.types (subst AreEnding same (types_ending o.0.types t.0 t.1)) (types_length d.types.names d.types.parents are.types.even)

domain_fits : (tree : Sexp) (d : Domain) → domain_at tree ≡ Ok d → over_of d ≡ None → IsRead d
domain_fits tree d e o =
    let b = bind_ok (declared_at tree) (λ x. with_actions x) d e in
    let s = bind_ok (actions_from b.0 [] [] b.0.actions) (λ schemas. Ok (domain_of b.0 schemas)) d b.2 in
    let is : domain_of b.0 s.0 ≡ d = cc in
    let are = declared_are tree b.0 b.1 in
    let once = declared_once tree b.0 b.1 in
    let any = no_limit (list_any (λ s. nat_lt 16 (length s.params)) d.schemas) (limits.Parameters, 17) o in
    let few : list_any (λ s. nat_lt 16 (length s.params)) s.0 ≡ false = ap (λ (x : Domain). list_any (λ s. nat_lt 16 (length s.params)) x.schemas) is ∙ any in
    let all = actions_in b.0 [] [] b.0.actions s.0 (record { types = are.types.some; predicates = are.predicates; functions = are.functions }) s.1 tt in
    let t : length b.0.types.names ≡ length (types_of b.0.types.names b.0.types.parents) = sym (types_length b.0.types.names b.0.types.parents are.types.even) in
    subst IsRead is (record {
      object = omega (arith, t, are.types.some);
      forest = forest_of tree b.0 b.1 are;
      sound = record {
        kinds = subst (λ (m : ℕ). AllByRecursion (λ t. t.kind < m) (things_of b.0.constants.names b.0.constants.numbers)) t (things_kinds (length b.0.types.names) b.0.constants.names b.0.constants.numbers are.constants.kinds);
        schemas = schemas_fit b.0 s.0 s.0 are few all;
      };
      types = subst AreNames (type_names b.0.types.names b.0.types.parents are.types.even) (once_apart b.0.types.names once.types);
      constants = subst AreNames (thing_names b.0.constants.names b.0.constants.numbers are.constants.even) (once_apart b.0.constants.names once.constants);
      predicates = subst AreNames (head_names b.0.predicates.names b.0.predicates.numbers are.predicates) (once_apart b.0.predicates.names once.predicates);
      functions = subst AreNames (head_names b.0.functions.names b.0.functions.numbers are.functions) (once_apart b.0.functions.names once.functions);
      actions = once_apart (names_of s.0) (actions_once b.0 [] [] b.0.actions s.0 s.1 refl none_once);
    })

pub read_of : (tree : Sexp) (r : Result Domain TextErr) → Answers over_of r (domain_at tree) → IfOk r IsRead
read_of tree (Ok d) a = domain_fits tree d a.0 a.1
read_of tree (Err e) a = tt
