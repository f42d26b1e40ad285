-- What `:types` spell.
use Rattle.std.specs.Prelude.{◌≡◌, ◌⊎◌, ℕ, zero, suc, false, List, [], ◌∷◌, ◌++◌, Option, Some, None, length, codes}
use Rattle.pddl_lex.specs.declared.sexp.Sexp.{Sexp}
use Rattle.pddl_form.specs.Trees.{Named}
use Rattle.pddl_form.specs.Names.{place_of, names_from}
use Rattle.pddl_form.specs.Groups.{Group}
use Rattle.pddl_form.specs.Spells.{IsTyped, IsKind}
use Rattle.pddl_domain.specs.Types.{Types, parent_at}
use Rattle.pddl_laws.specs.Params.{texts}

abbrev pub kind_text : Option Named → List (List ℕ)
kind_text None = []
kind_text (Some w) = w.1 ∷ []

-- the words of the groups as they are named: the names of a group, and then its type
abbrev pub mentions : List Group → List (List ℕ)
mentions [] = []
mentions (g ∷ gs) = texts g.names ++ (kind_text g.kind ++ mentions gs)

-- the type i stands under the type k; type 0 is `object`, which stands under itself alone
abbrev pub StandsUnder : List (Option ℕ) → ℕ → ℕ → Type 0
StandsUnder parents zero k = k ≡ 0
StandsUnder parents (suc i) k = parent_at parents (suc i) ≡ Some k

abbrev pub AreUnder : Types → ℕ → List Named → Type 0
AreUnder t k [] = Unit {0}
AreUnder t k (w ∷ ws) = ((i : ℕ) × (place_of w.1 t.names ≡ Some i) × StandsUnder t.parents i k) × AreUnder t k ws

-- the names of each group stand under its type
abbrev pub AllUnder : Types → List Group → Type 0
AllUnder t [] = Unit {0}
AllUnder t (g ∷ gs) = ((k : ℕ) × IsKind t.names g.kind k × AreUnder t k g.names) × AllUnder t gs

-- one of the words names the type i
abbrev pub IsOne : List (List ℕ) → ℕ → List Named → Type 0
IsOne names i [] = ⊥
IsOne names i (w ∷ ws) = (place_of w.1 names ≡ Some i) ⊎ IsOne names i ws

-- one of the groups puts the type i under the type k
abbrev pub Puts : Types → List Group → ℕ → ℕ → Type 0
Puts t [] i k = ⊥
Puts t (g ∷ gs) i k = (IsKind t.names g.kind k × IsOne t.names i g.names) ⊎ Puts t gs i k

-- by parents one comes to an end
pub data EndsUp : List (Option ℕ) → ℕ → Type 0 where
  ends_here : {ps : List (Option ℕ)} {i : ℕ} → parent_at ps i ≡ None → EndsUp ps i
  ends_above : {ps : List (Option ℕ)} {i : ℕ} (p : ℕ) → parent_at ps i ≡ Some p → EndsUp ps p → EndsUp ps i

-- types by first mention, `object` first; each stands under the type that is written behind it and no other, and none under itself
pub record SpellsTypes (items : List Sexp) (t : Types) : Type 0 where
  pub groups : List Group
  pub typed : IsTyped false items groups
  pub names : t.names ≡ names_from (codes "object" ∷ []) (mentions groups)
  pub even : length t.names ≡ length t.parents
  pub under : AllUnder t groups
  pub only : (i k : ℕ) → parent_at t.parents i ≡ Some k → Puts t groups i k
  pub ends : (i : ℕ) → EndsUp t.parents i
