-- What effects spell.
use Rattle.std.specs.Prelude.{◌≡◌, ℕ, List, [], ◌∷◌, Some, codes}
use Rattle.pddl_lex.specs.declared.sexp.Sexp.{Sexp}
use Rattle.pddl_types.specs.declared.terms.Atom.{Atom}
use Rattle.pddl_types.specs.declared.terms.CostTerm.{CostTerm}
use Rattle.pddl_types.specs.declared.terms.CostTerm.TheVariants as costs
use Rattle.pddl_form.specs.Trees.{Named, Headed}
use Rattle.pddl_form.specs.Names.{place_of}
use Rattle.pddl_form.specs.Things.{Table}
use Rattle.pddl_form.specs.Number.{value_of}
use Rattle.pddl_form.specs.Parts.{parts_of}
use Rattle.pddl_form.specs.Terms.{Scope}
use Rattle.pddl_form.specs.Spells.{IsWord}
use Rattle.pddl_domain.specs.Effects.{Effect, none}
use Rattle.pddl_laws.specs.Terms.{SpellsList, SpellsAtom, HasOne}

-- a number, or a function at terms
pub data SpellsAmount : Scope → Table → Sexp → CostTerm → Type 0 where
  amount_number : {scope : Scope} {functions : Table} {tree : Sexp} {c : CostTerm} (w : Named) (n : ℕ) → IsWord tree w → value_of w.1 ≡ Some n → c ≡ costs.Number n → SpellsAmount scope functions tree c
  amount_value : {scope : Scope} {functions : Table} {tree : Sexp} {c : CostTerm} (h : Headed) (a : Atom) → SpellsList tree h → SpellsAtom scope functions h a → c ≡ costs.Value a → SpellsAmount scope functions tree c

-- `(increase (total-cost) AMOUNT)`, where `total-cost` is declared
pub record SpellsIncrease (scope : Scope) (functions : Table) (h : Headed) (c : CostTerm) : Type 0 where
  pub is : h.head.1 ≡ codes "increase"
  pub total : Sexp
  pub amount : Sexp
  pub both : h.items ≡ total ∷ amount ∷ []
  pub inner : Headed
  pub list : SpellsList total inner
  pub is_total : inner.head.1 ≡ codes "total-cost"
  pub bare : inner.items ≡ []
  pub number : ℕ
  pub known : place_of (codes "total-cost") functions.names ≡ Some number
  pub is_amount : SpellsAmount scope functions amount c

-- the parts of an effect: atoms, atoms under `not`, and one increase of the total cost at most; each kind is told in text order
pub data SpellsChanges : Scope → Table → Table → List Sexp → Effect → Type 0 where
  changes_none : {scope : Scope} {predicates functions : Table} {parts : List Sexp} {e : Effect} → parts ≡ [] → e ≡ none → SpellsChanges scope predicates functions parts e
  changes_add : {scope : Scope} {predicates functions : Table} {parts : List Sexp} {e : Effect} (x : Sexp) (xs : List Sexp) (h : Headed) (a : Atom) (rest : Effect) →
      SpellsList x h → SpellsAtom scope predicates h a → SpellsChanges scope predicates functions xs rest →
      parts ≡ x ∷ xs → e ≡ record { add = a ∷ rest.add; del = rest.del; cost = rest.cost } → SpellsChanges scope predicates functions parts e
  changes_del : {scope : Scope} {predicates functions : Table} {parts : List Sexp} {e : Effect} (x : Sexp) (xs : List Sexp) (h inner : Headed) (a : Atom) (rest : Effect) →
      SpellsList x h → h.head.1 ≡ codes "not" → HasOne h inner → SpellsAtom scope predicates inner a → SpellsChanges scope predicates functions xs rest →
      parts ≡ x ∷ xs → e ≡ record { add = rest.add; del = a ∷ rest.del; cost = rest.cost } → SpellsChanges scope predicates functions parts e
  changes_cost : {scope : Scope} {predicates functions : Table} {parts : List Sexp} {e : Effect} (x : Sexp) (xs : List Sexp) (h : Headed) (c : CostTerm) (rest : Effect) →
      SpellsList x h → SpellsIncrease scope functions h c → SpellsChanges scope predicates functions xs rest → rest.cost ≡ costs.Absent →
      parts ≡ x ∷ xs → e ≡ record { add = rest.add; del = rest.del; cost = c } → SpellsChanges scope predicates functions parts e

-- an effect states what its parts do
abbrev pub SpellsEffect : Scope → Table → Table → Sexp → Effect → Type 0
SpellsEffect scope predicates functions tree e = SpellsChanges scope predicates functions (parts_of tree) e
