-- Which objects fit a type, and which a stated atom allows for the next parameter.
use Rattle.std.specs.Prelude.{ℕ, ◌==◌, ◌&&◌, ◌||◌, not, nat_lt, Bool, true, false, cond, Option, Some, None, List, [], ◌∷◌, filter, length, slice_index}
use Rattle.std.specs.List.{list_any, filter_map}
use Rattle.pddl_types.specs.declared.terms.Term.{Term}
use Rattle.pddl_types.specs.declared.terms.Term.TheVariants as terms
use Rattle.pddl_types.specs.declared.terms.Atom.{Atom}
use Rattle.pddl_types.specs.declared.domains.Domain.{Domain}
use Rattle.pddl_types.specs.declared.problems.Problem.{Problem}
use Rattle.bd_ground.specs.Instances.{things_of, fits, objects_of}

-- the objects whose type is this one or lies under it, in order
abbrev pub fitting : Domain → Problem → ℕ → List ℕ
fitting d p kind = filter (λ o. fits d.types (things_of d p) kind o) (objects_of d p)

-- whether a term may still stand for the object, where the first parameters are chosen
abbrev pub could_stand : List ℕ → Term → ℕ → Bool
could_stand chosen (terms.Param k) o = not (nat_lt k (length chosen)) || slice_index chosen k == o
could_stand chosen (terms.Object c) o = c == o

abbrev pub could_match : List ℕ → List Term → List ℕ → Bool
could_match chosen [] [] = true
could_match chosen [] (o ∷ os) = false
could_match chosen (t ∷ ts) [] = false
could_match chosen (t ∷ ts) (o ∷ os) = could_stand chosen t o && could_match chosen ts os

-- whether an atom may still stand for the ground atom
abbrev pub could_fill : List ℕ → Atom → List ℕ → Bool
could_fill chosen a [] = false
could_fill chosen a (h ∷ os) = a.head == h && could_match chosen a.args os

-- whether an atom may still stand for one of these
abbrev pub could_be : List ℕ → Atom → List (List ℕ) → Bool
could_be chosen a atoms = list_any (λ g. could_fill chosen a g) atoms

-- whether a parameter stands among terms
abbrev pub has_param : ℕ → List Term → Bool
has_param k [] = false
has_param k (terms.Param j ∷ ts) = j == k || has_param k ts
has_param k (terms.Object o ∷ ts) = has_param k ts

-- the object at a parameter's first place
abbrev pub object_at : ℕ → List Term → List ℕ → Option ℕ
object_at k [] os = None
object_at k (t ∷ ts) [] = None
object_at k (terms.Param j ∷ ts) (o ∷ os) = cond (j == k) (Some o) (object_at k ts os)
object_at k (terms.Object c ∷ ts) (o ∷ os) = object_at k ts os

abbrev pub if_below : ℕ → Option ℕ → Option ℕ
if_below n None = None
if_below n (Some o) = cond (nat_lt o n) (Some o) None

-- the object, below n, that the next parameter stands for where the atom is this ground atom
abbrev pub allowed_by : ℕ → List ℕ → Atom → List ℕ → Option ℕ
allowed_by n chosen a [] = None
allowed_by n chosen a (h ∷ os) = cond (a.head == h && could_match chosen a.args os) (if_below n (object_at (length chosen) a.args os)) None

-- the objects that stated atoms allow for the next parameter
abbrev pub allowed : ℕ → List ℕ → Atom → List (List ℕ) → List ℕ
allowed n chosen a atoms = filter_map (λ g. allowed_by n chosen a g) atoms
