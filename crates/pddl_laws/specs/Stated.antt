-- What `:init`, `:goal` and `:metric` spell.
use Rattle.std.specs.Prelude.{◌≡◌, ℕ, Bool, true, false, List, [], ◌∷◌, Option, Some, None, codes, slice_get}
use Rattle.std.specs.Str.{bytes_eq}
use Rattle.pddl_lex.specs.declared.sexp.Sexp.{Sexp}
use Rattle.pddl_types.specs.declared.terms.Atom.{Atom}
use Rattle.pddl_types.specs.declared.problems.Given.{Given}
use Rattle.pddl_form.specs.Trees.{Named, Headed}
use Rattle.pddl_form.specs.Names.{place_of}
use Rattle.pddl_form.specs.Number.{value_of}
use Rattle.pddl_form.specs.Things.{Table}
use Rattle.pddl_form.specs.Parts.{parts_of}
use Rattle.pddl_form.specs.Terms.{Scope}
use Rattle.pddl_form.specs.Spells.{IsWord}
use Rattle.pddl_problem.specs.Init.{Init, key_of, put_atom, with_value}
use Rattle.pddl_laws.specs.Terms.{SpellsList, SpellsAtom, HasOne}

-- the tree is an atom
pub record SpellsFact (scope : Scope) (predicates : Table) (tree : Sexp) (a : Atom) : Type 0 where
  pub h : Headed
  pub list : SpellsList tree h
  pub atom : SpellsAtom scope predicates h a

abbrev pub SpellsFacts : Scope → Table → List Sexp → List Atom → Type 0
SpellsFacts scope predicates [] [] = Unit {0}
SpellsFacts scope predicates [] (a ∷ others) = ⊥
SpellsFacts scope predicates (x ∷ xs) [] = ⊥
SpellsFacts scope predicates (x ∷ xs) (a ∷ others) = SpellsFact scope predicates x a × SpellsFacts scope predicates xs others

-- one goal, whose parts are atoms
pub record SpellsGoal (scope : Scope) (predicates : Table) (h : Headed) (atoms : List Atom) : Type 0 where
  pub goal : Sexp
  pub only : h.items ≡ goal ∷ []
  pub facts : SpellsFacts scope predicates (parts_of goal) atoms

-- `minimize (total-cost)`, where `total-cost` is declared
pub record IsMetric (functions : Table) (h : Headed) : Type 0 where
  pub word : Sexp
  pub expression : Sexp
  pub place : ℕ
  pub inner : Headed
  pub number : ℕ
  pub both : h.items ≡ word ∷ expression ∷ []
  pub direction : IsWord word (place, codes "minimize")
  pub list : SpellsList expression inner
  pub is_total : inner.head.1 ≡ codes "total-cost"
  pub known : place_of (codes "total-cost") functions.names ≡ Some number
  pub bare : inner.items ≡ []

abbrev pub SpellsMetric : Table → Option Headed → Bool → Type 0
SpellsMetric functions None metric = metric ≡ false
SpellsMetric functions (Some h) metric = IsMetric functions h × (metric ≡ true)

-- `(= CALL NUMBER)`
pub record SpellsValue (scope : Scope) (functions : Table) (h : Headed) (name : List ℕ) (call : Atom) (number : ℕ) : Type 0 where
  pub is : h.head.1 ≡ codes "="
  pub tree : Sexp
  pub value : Sexp
  pub inner : Headed
  pub w : Named
  pub both : h.items ≡ tree ∷ value ∷ []
  pub list : SpellsList tree inner
  pub named : inner.head.1 ≡ name
  pub atom : SpellsAtom scope functions inner call
  pub word : IsWord value w
  pub counts : value_of w.1 ≡ Some number

-- a value of `total-cost` states nothing, a call has one value, and it may be given again
pub data Values : List ℕ → Atom → ℕ → Init → Init → Type 0 where
  values_total : {name : List ℕ} {call : Atom} {number : ℕ} {s next : Init} → bytes_eq name (codes "total-cost") ≡ true → next ≡ s → Values name call number s next
  values_again : {name : List ℕ} {call : Atom} {number : ℕ} {s next : Init} (i : ℕ) (v : Given) → bytes_eq name (codes "total-cost") ≡ false → place_of (key_of call) s.calls ≡ Some i → slice_get s.values i ≡ Some v → v.number ≡ number → next ≡ s → Values name call number s next
  values_new : {name : List ℕ} {call : Atom} {number : ℕ} {s next : Init} → bytes_eq name (codes "total-cost") ≡ false → place_of (key_of call) s.calls ≡ None → next ≡ with_value call number s → Values name call number s next

-- the items behind those that stated s: atoms, of which each is stated once, atoms under `not`, which state nothing, and values
pub data SpellsInit : Scope → Table → Table → Init → List Sexp → Init → Type 0 where
  init_none : {scope : Scope} {predicates functions : Table} {s : Init} {items : List Sexp} {all : Init} → items ≡ [] → all ≡ s → SpellsInit scope predicates functions s items all
  init_atom : {scope : Scope} {predicates functions : Table} {s : Init} {items : List Sexp} {all : Init} (x : Sexp) (xs : List Sexp) (h : Headed) (a : Atom) →
      SpellsList x h → SpellsAtom scope predicates h a → SpellsInit scope predicates functions (put_atom a s) xs all → items ≡ x ∷ xs → SpellsInit scope predicates functions s items all
  init_not : {scope : Scope} {predicates functions : Table} {s : Init} {items : List Sexp} {all : Init} (x : Sexp) (xs : List Sexp) (h inner : Headed) (a : Atom) →
      SpellsList x h → h.head.1 ≡ codes "not" → HasOne h inner → SpellsAtom scope predicates inner a → SpellsInit scope predicates functions s xs all → items ≡ x ∷ xs → SpellsInit scope predicates functions s items all
  init_value : {scope : Scope} {predicates functions : Table} {s : Init} {items : List Sexp} {all : Init} (x : Sexp) (xs : List Sexp) (h : Headed) (name : List ℕ) (call : Atom) (number : ℕ) (next : Init) →
      SpellsList x h → SpellsValue scope functions h name call number → Values name call number s next → SpellsInit scope predicates functions next xs all → items ≡ x ∷ xs → SpellsInit scope predicates functions s items all
