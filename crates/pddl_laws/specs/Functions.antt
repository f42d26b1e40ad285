-- What `:functions` spell.
use Rattle.std.specs.Prelude.{◌≡◌, ℕ, Bool, true, false, List, [], ◌∷◌, codes}
use Rattle.pddl_lex.specs.declared.sexp.Sexp.{Sexp}
use Rattle.pddl_form.specs.Things.{Table}
use Rattle.pddl_form.specs.Spells.{IsWord, AreNew}
use Rattle.pddl_domain.specs.Spells.{IsHead}

-- declarations, behind each of which `- number` may stand; fresh: one stands before these items
pub data SpellsHeads : Bool → List Sexp → List (List ℕ) → List ℕ → Type 0 where
  heads_none : {fresh : Bool} {items : List Sexp} {names : List (List ℕ)} {arities : List ℕ} → items ≡ [] → names ≡ [] → arities ≡ [] → SpellsHeads fresh items names arities
  heads_type : {fresh : Bool} {items : List Sexp} {names : List (List ℕ)} {arities : List ℕ} (dash type : Sexp) (rest : List Sexp) (at place : ℕ) →
      fresh ≡ true → IsWord dash (at, codes "-") → IsWord type (place, codes "number") → SpellsHeads false rest names arities → items ≡ dash ∷ type ∷ rest → SpellsHeads fresh items names arities
  heads_more : {fresh : Bool} {items : List Sexp} {names : List (List ℕ)} {arities : List ℕ} (x : Sexp) (xs : List Sexp) (name : List ℕ) (arity : ℕ) (ns : List (List ℕ)) (ks : List ℕ) →
      IsHead x name arity → (name ≡ codes "total-cost" → arity ≡ 0) → SpellsHeads true xs ns ks → items ≡ x ∷ xs → names ≡ name ∷ ns → arities ≡ arity ∷ ks → SpellsHeads fresh items names arities

-- the items of `:functions` declare the names with their numbers of variables; `total-cost` has none
pub record SpellsFunctions (items : List Sexp) (table : Table) : Type 0 where
  pub heads : SpellsHeads false items table.names table.numbers
  pub new : AreNew [] table.names
