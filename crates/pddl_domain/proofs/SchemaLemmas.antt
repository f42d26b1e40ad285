-- What is read of an action speaks of what the domain declares.
use Rattle.std.proofs.Common.{◌≡◌, ℕ, ◌<◌, List, [], ◌∷◌, ◌++◌, Option, Some, None, Ok, length, subst}
use Rattle.std.specs.List.{AllByRecursion}
use Rattle.pddl_lex.specs.declared.sexp.Sexp.{Sexp}
use Rattle.pddl_types.specs.declared.domains.Schema.{Schema}
use Rattle.pddl_types.specs.Readable.{AreAtoms, AreSames, IsCost}
use Rattle.pddl_form.specs.Trees.{Headed, name_at, first_at}
use Rattle.pddl_form.specs.Reserved.{declare_at}
use Rattle.pddl_form.specs.Things.{Table}
use Rattle.pddl_form.specs.Terms.{Scope}
use Rattle.pddl_form.specs.Parts.{parts_of}
use Rattle.pddl_domain.specs.Params.{params_at}
use Rattle.pddl_domain.specs.Conditions.{Condition}
use Rattle.pddl_domain.specs.Conditions as conditions
use Rattle.pddl_domain.specs.Effects.{Effect}
use Rattle.pddl_domain.specs.Effects as effects
use Rattle.pddl_domain.specs.Domain.{Declared}
use Rattle.pddl_domain.specs.Actions.{Fields, fields_at, pre_at, post_at, scope_in, schema_of, schema_at, action_at, actions_from}
use Rattle.pddl_form.proofs.Laws.{bind_ok}
use Rattle.pddl_form.proofs.Laws.{all_more}
use Rattle.pddl_form.proofs.RangeLemmas.{IsTable, rows_of}
use Rattle.pddl_domain.proofs.StateLemmas.{ConditionIn, conditions_in, EffectIn, effects_in}
use Rattle.pddl_domain.proofs.DeclaredLemmas.{params_are}

pre_in : (scope : Scope) (predicates : Table) (field : Option Sexp) (c : Condition) → IsTable predicates → pre_at scope predicates field ≡ Ok c → ConditionIn scope predicates c
pre_in scope predicates None c same e = let is : conditions.none ≡ c = cc in subst (ConditionIn scope predicates) is (record { pre = tt; equal = tt; differ = tt })
pre_in scope predicates (Some x) c same e = conditions_in scope predicates conditions.none (parts_of x) c same e (record { pre = tt; equal = tt; differ = tt })

post_in : (scope : Scope) (predicates functions : Table) (field : Option Sexp) (c : Effect) → IsTable predicates → IsTable functions → post_at scope predicates functions field ≡ Ok c → EffectIn scope predicates functions c
post_in scope predicates functions None c same too e = let is : effects.none ≡ c = cc in subst (EffectIn scope predicates functions) is (record { add = tt; del = tt; cost = tt })
post_in scope predicates functions (Some x) c same too e = effects_in scope predicates functions effects.none (parts_of x) c same too e (record { add = tt; del = tt; cost = tt })

-- the tables of a domain have a number for each name, and `object` is a type
pub record AreTables (d : Declared) : Type 0 where
  pub types : 0 < length d.types.names
  pub predicates : IsTable d.predicates
  pub functions : IsTable d.functions

-- a schema, whose terms are its parameters and so many constants
pub record SchemaIn (d : Declared) (s : Schema) : Type 0 where
  pub kinds : AllByRecursion (λ k. k < length d.types.names) s.params
  pub pre : AreAtoms (rows_of d.predicates) (length s.params) (length d.constants.names) s.pre
  pub equal : AreSames (length s.params) (length d.constants.names) s.equal
  pub differ : AreSames (length s.params) (length d.constants.names) s.differ
  pub add : AreAtoms (rows_of d.predicates) (length s.params) (length d.constants.names) s.add
  pub del : AreAtoms (rows_of d.predicates) (length s.params) (length d.constants.names) s.del
  pub cost : IsCost (rows_of d.functions) (length s.params) (length d.constants.names) s.cost

schema_in : (d : Declared) (name : List ℕ) (f : Fields) (s : Schema) → AreTables d → schema_at d name f ≡ Ok s → SchemaIn d s
unfolding schema_at
schema_in d name f s h e =
    let ps = bind_ok (params_at d.types.names f.params) _ s e in
    let c = bind_ok (pre_at (scope_in ps.0 d) d.predicates f.pre) _ s ps.2 in
    let x = bind_ok (post_at (scope_in ps.0 d) d.predicates d.functions f.effect) _ s c.2 in
    let is : schema_of name ps.0 c.0 x.0 ≡ s = cc in
    let are = params_are d.types.names f.params ps.0 h.types ps.1 in
    let cs = pre_in (scope_in ps.0 d) d.predicates f.pre c.0 h.predicates c.1 in
    let xs = post_in (scope_in ps.0 d) d.predicates d.functions f.effect x.0 h.predicates h.functions x.1 in
    let n : ℕ = length d.constants.names in
    subst (SchemaIn d) is (record {
      kinds = are.kinds;
      pre = subst (λ m. AreAtoms (rows_of d.predicates) m n c.0.pre) are.all cs.pre;
      equal = subst (λ m. AreSames m n c.0.equal) are.all cs.equal;
      differ = subst (λ m. AreSames m n c.0.differ) are.all cs.differ;
      add = subst (λ m. AreAtoms (rows_of d.predicates) m n x.0.add) are.all xs.add;
      del = subst (λ m. AreAtoms (rows_of d.predicates) m n x.0.del) are.all xs.del;
      cost = subst (λ m. IsCost (rows_of d.functions) m n x.0.cost) are.all xs.cost;
    })

action_in : (d : Declared) (names : List (List ℕ)) (h : Headed) (r : Schema × List (List ℕ)) → AreTables d → action_at d names h ≡ Ok r → SchemaIn d r.0
unfolding action_at
action_in d names h r k e =
    let a = bind_ok (first_at h.place h.items) _ r e in
    let n = bind_ok (name_at a.0.0) _ r a.2 in
    let m = bind_ok (declare_at n.0 names) _ r n.2 in
    let f = bind_ok (fields_at h.place a.0.1) _ r m.2 in
    let s = bind_ok (schema_at d n.0.1 f.0) _ r f.2 in
    let is : (s.0, m.0) ≡ r = cc in
    subst (λ (q : Schema × List (List ℕ)). SchemaIn d q.0) is (schema_in d n.0.1 f.0 s.0 k s.1)

pub actions_in : (d : Declared) (names : List (List ℕ)) (done : List Schema) (hs : List Headed) (all : List Schema) → AreTables d → actions_from d names done hs ≡ Ok all → AllByRecursion (SchemaIn d) done → AllByRecursion (SchemaIn d) all
actions_in d names done [] all k e h = let is : done ≡ all = cc in subst (AllByRecursion (SchemaIn d)) is h
actions_in d names done (x ∷ xs) all k e h =
    let b = bind_ok (action_at d names x) (λ r. actions_from d r.1 (done ++ r.0 ∷ []) xs) all e in
    actions_in d b.0.1 (done ++ b.0.0 ∷ []) xs all k b.2 (all_more (SchemaIn d) done b.0.0 h (action_in d names x b.0 k b.1))
