-- Stated atoms by keys: a predicate alone, or a predicate, a place and the object there.
use Rattle.std.specs.Prelude.{◌≡◌, ℕ, true, cond, List, [], ◌∷◌, slice_get, length, Option, Some}
use Rattle.pddl_types.specs.declared.terms.Term.{Term}
use Rattle.pddl_types.specs.declared.terms.Term.TheVariants as terms
use Rattle.pddl_types.specs.declared.terms.Atom.{Atom}
use Rattle.pddl_types.specs.declared.domains.Schema.{Schema}
use Rattle.pddl_types.specs.declared.domains.Domain.{Domain}
use Rattle.bd_ground.specs.Atoms.{same_atom, is_among}
use Rattle.bd_ground.specs.Instances.{is_static}
use Rattle.bd_ground.specs.Offers.{could_fill, has_param}

-- the rows at a key's place
abbrev pub rows_by : List (List ℕ) → List (List (List ℕ)) → List ℕ → List (List ℕ)
rows_by [] rows key = []
rows_by (k ∷ keys) [] key = []
rows_by (k ∷ keys) (r ∷ rows) key = cond (same_atom key k) r (rows_by keys rows key)

-- an atom stands among the rows of its head, and among those of its head with each of its objects at its place
pub record Finds (keys : List (List ℕ)) (rows : List (List (List ℕ))) (h : ℕ) (os : List ℕ) : Type 0 where
  pub head : is_among (h ∷ os) (rows_by keys rows (h ∷ [])) ≡ true
  pub place : (k o : ℕ) → slice_get os k ≡ Some o → is_among (h ∷ os) (rows_by keys rows (h ∷ k ∷ o ∷ [])) ≡ true

abbrev pub FindsAll : List (List ℕ) → List (List (List ℕ)) → List (List ℕ) → Type 0
FindsAll keys rows atoms = (h : ℕ) (os : List ℕ) → is_among (h ∷ os) atoms ≡ true → Finds keys rows h os

-- the object that a term stands for already, where the first parameters are chosen
abbrev pub settled : List ℕ → Term → Option ℕ
settled chosen (terms.Param k) = slice_get chosen k
settled chosen (terms.Object o) = Some o

-- the rows have each of the atoms that the atom may still stand for
abbrev pub Covers : List (List ℕ) → List ℕ → Atom → List (List ℕ) → Type 0
Covers atoms chosen a rows = (g : List ℕ) → is_among g atoms ≡ true → could_fill chosen a g ≡ true → is_among g rows ≡ true

-- a static atom of the precondition that speaks of the next parameter, with rows for it
pub record Narrows (d : Domain) (atoms : List (List ℕ)) (schema : Schema) (chosen : List ℕ) (a : Atom) (rows : List (List ℕ)) : Type 0 where
  pub place : ℕ
  pub at : slice_get schema.pre place ≡ Some a
  pub static : is_static d.schemas a.head ≡ true
  pub param : has_param (length chosen) a.args ≡ true
  pub covers : Covers atoms chosen a rows
