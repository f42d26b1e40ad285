-- What typed lists and declarations spell.
use Rattle.std.specs.Prelude.{◌≡◌, ℕ, true, false, List, [], ◌∷◌}
use Rattle.pddl_lex.specs.declared.sexp.Sexp.{Sexp}
use Rattle.pddl_lex.specs.declared.sexp.Sexp.TheOpen.{Sexp-F}
use Rattle.pddl_lex.specs.declared.sexp.Sexp.TheViews.{out-Sexp}
use Rattle.pddl_form.specs.Trees.{is_name}
use Rattle.pddl_form.specs.Groups.{Group}
use Rattle.pddl_form.specs.Reserved.{is_reserved}
use Rattle.pddl_form.specs.Things.{Table}
use Rattle.pddl_form.specs.Spells.{IsWord, AreNew, names_in, IsTyped}

-- the tree is a list of the name and so many variables with their types
pub record IsHead (tree : Sexp) (name : List ℕ) (arity : ℕ) : Type 0 where
  pub place : ℕ
  pub head_place : ℕ
  pub head : Sexp
  pub items : List Sexp
  pub groups : List Group
  pub whole : out-Sexp tree ≡ Sexp-F.List place (head ∷ items)
  pub named : IsWord head (head_place, name)
  pub is_name : is_name name ≡ true
  pub free : is_reserved name ≡ false
  pub typed : IsTyped true items groups
  pub counted : arity ≡ names_in groups

abbrev pub AreHeads : List Sexp → List (List ℕ) → List ℕ → Type 0
AreHeads [] [] [] = Unit {0}
AreHeads [] [] (n ∷ ns) = ⊥
AreHeads [] (w ∷ ws) numbers = ⊥
AreHeads (x ∷ xs) [] numbers = ⊥
AreHeads (x ∷ xs) (w ∷ ws) [] = ⊥
AreHeads (x ∷ xs) (w ∷ ws) (n ∷ ns) = IsHead x w n × AreHeads xs ws ns

-- the items of `:predicates` declare the names with their numbers of variables
pub record SpellsPredicates (items : List Sexp) (table : Table) : Type 0 where
  pub heads : AreHeads items table.names table.numbers
  pub new : AreNew [] table.names
