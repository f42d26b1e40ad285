-- Lists with a head, terms and atoms, as trees spell them.
use Rattle.std.specs.Prelude.{◌≡◌, ℕ, false, List, [], ◌∷◌, Some, None, length, slice_get}
use Rattle.pddl_lex.specs.declared.sexp.Sexp.{Sexp}
use Rattle.pddl_lex.specs.declared.sexp.Sexp.TheOpen.{Sexp-F}
use Rattle.pddl_lex.specs.declared.sexp.Sexp.TheViews.{out-Sexp}
use Rattle.pddl_types.specs.declared.terms.Term.{Term}
use Rattle.pddl_types.specs.declared.terms.Term.TheVariants as terms
use Rattle.pddl_types.specs.declared.terms.Atom.{Atom}
use Rattle.pddl_form.specs.Trees.{Named, Headed}
use Rattle.pddl_form.specs.Names.{place_of}
use Rattle.pddl_form.specs.Things.{Table}
use Rattle.pddl_form.specs.Reserved.{is_reserved}
use Rattle.pddl_form.specs.Terms.{Scope}
use Rattle.pddl_form.specs.Spells.{IsWord}

-- the tree is a list: its place, a word as its head, and the items behind it
pub record SpellsList (tree : Sexp) (h : Headed) : Type 0 where
  pub head : Sexp
  pub whole : out-Sexp tree ≡ Sexp-F.List h.place (head ∷ h.items)
  pub named : IsWord head h.head

-- the tree is a parameter's word, or else the word of a constant or an object
pub data SpellsTerm : Scope → Sexp → Term → Type 0 where
  term_param : {scope : Scope} {tree : Sexp} {t : Term} (w : Named) (i : ℕ) → IsWord tree w → place_of w.1 scope.params ≡ Some i → t ≡ terms.Param i → SpellsTerm scope tree t
  term_object : {scope : Scope} {tree : Sexp} {t : Term} (w : Named) (i : ℕ) → IsWord tree w → place_of w.1 scope.params ≡ None → place_of w.1 scope.objects ≡ Some i → t ≡ terms.Object i → SpellsTerm scope tree t

abbrev pub SpellsTerms : Scope → List Sexp → List Term → Type 0
SpellsTerms scope [] [] = Unit {0}
SpellsTerms scope [] (t ∷ ts) = ⊥
SpellsTerms scope (x ∷ xs) [] = ⊥
SpellsTerms scope (x ∷ xs) (t ∷ ts) = SpellsTerm scope x t × SpellsTerms scope xs ts

-- a declared head, which is no word of PDDL's own, and as many terms as it has arguments
pub record SpellsAtom (scope : Scope) (table : Table) (h : Headed) (a : Atom) : Type 0 where
  pub free : is_reserved h.head.1 ≡ false
  pub known : place_of h.head.1 table.names ≡ Some a.head
  pub fits : slice_get table.numbers a.head ≡ Some (length h.items)
  pub terms : SpellsTerms scope h.items a.args

-- one list stands behind the head
pub record HasOne (h inner : Headed) : Type 0 where
  pub tree : Sexp
  pub only : h.items ≡ tree ∷ []
  pub list : SpellsList tree inner
