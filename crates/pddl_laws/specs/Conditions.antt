-- What preconditions spell.
use Rattle.std.specs.Prelude.{◌≡◌, List, [], ◌∷◌, codes}
use Rattle.pddl_lex.specs.declared.sexp.Sexp.{Sexp}
use Rattle.pddl_types.specs.declared.terms.Atom.{Atom}
use Rattle.pddl_types.specs.declared.terms.Same.{Same}
use Rattle.pddl_form.specs.Trees.{Headed}
use Rattle.pddl_form.specs.Things.{Table}
use Rattle.pddl_form.specs.Parts.{parts_of}
use Rattle.pddl_form.specs.Terms.{Scope}
use Rattle.pddl_domain.specs.Conditions.{Condition, none}
use Rattle.pddl_laws.specs.Terms.{SpellsList, SpellsTerm, SpellsAtom, HasOne}

-- `(= TERM TERM)`
pub record SpellsSame (scope : Scope) (h : Headed) (s : Same) : Type 0 where
  pub is : h.head.1 ≡ codes "="
  pub left : Sexp
  pub right : Sexp
  pub both : h.items ≡ left ∷ right ∷ []
  pub is_left : SpellsTerm scope left s.left
  pub is_right : SpellsTerm scope right s.right

-- the parts of a condition: atoms, equations, and equations under `not`; each kind is told in text order
pub data SpellsParts : Scope → Table → List Sexp → Condition → Type 0 where
  parts_none : {scope : Scope} {table : Table} {parts : List Sexp} {c : Condition} → parts ≡ [] → c ≡ none → SpellsParts scope table parts c
  parts_atom : {scope : Scope} {table : Table} {parts : List Sexp} {c : Condition} (x : Sexp) (xs : List Sexp) (h : Headed) (a : Atom) (rest : Condition) →
      SpellsList x h → SpellsAtom scope table h a → SpellsParts scope table xs rest →
      parts ≡ x ∷ xs → c ≡ record { pre = a ∷ rest.pre; equal = rest.equal; differ = rest.differ } → SpellsParts scope table parts c
  parts_same : {scope : Scope} {table : Table} {parts : List Sexp} {c : Condition} (x : Sexp) (xs : List Sexp) (h : Headed) (s : Same) (rest : Condition) →
      SpellsList x h → SpellsSame scope h s → SpellsParts scope table xs rest →
      parts ≡ x ∷ xs → c ≡ record { pre = rest.pre; equal = s ∷ rest.equal; differ = rest.differ } → SpellsParts scope table parts c
  parts_differ : {scope : Scope} {table : Table} {parts : List Sexp} {c : Condition} (x : Sexp) (xs : List Sexp) (h inner : Headed) (s : Same) (rest : Condition) →
      SpellsList x h → h.head.1 ≡ codes "not" → HasOne h inner → SpellsSame scope inner s → SpellsParts scope table xs rest →
      parts ≡ x ∷ xs → c ≡ record { pre = rest.pre; equal = rest.equal; differ = s ∷ rest.differ } → SpellsParts scope table parts c

-- a precondition states what its parts do
abbrev pub SpellsCondition : Scope → Table → Sexp → Condition → Type 0
SpellsCondition scope predicates tree c = SpellsParts scope predicates (parts_of tree) c
