-- What typed lists and things spell.
use Rattle.std.specs.Prelude.{◌≡◌, ℕ, ◌+◌, Bool, true, false, List, [], ◌∷◌, ◌++◌, Option, Some, None, length, codes, slice_get}
use Rattle.pddl_lex.specs.declared.sexp.Sexp.{Sexp}
use Rattle.pddl_lex.specs.declared.sexp.Sexp.TheOpen.{Sexp-F}
use Rattle.pddl_lex.specs.declared.sexp.Sexp.TheViews.{out-Sexp}
use Rattle.pddl_form.specs.Trees.{Named, is_name, is_variable}
use Rattle.pddl_form.specs.Groups.{Group, no_names}
use Rattle.pddl_form.specs.Names.{place_of, is_declared}
use Rattle.pddl_form.specs.Things.{Table, no_rows, with_row}

-- the tree is the word
abbrev pub IsWord : Sexp → Named → Type 0
IsWord tree w = out-Sexp tree ≡ Sexp-F.Word w.0 w.1

abbrev pub is_entry : Bool → List ℕ → Bool
is_entry true text = is_variable text
is_entry false text = is_name text

-- the trees are these words, each a variable or each a name
abbrev pub AreEntries : Bool → List Sexp → List Named → Type 0
AreEntries variables [] [] = Unit {0}
AreEntries variables [] (w ∷ ws) = ⊥
AreEntries variables (x ∷ xs) [] = ⊥
AreEntries variables (x ∷ xs) (w ∷ ws) = IsWord x w × (is_entry variables w.1 ≡ true) × AreEntries variables xs ws

-- names, `-` and a type, any number of times; the last names may stand without a type
pub data IsTyped : Bool → List Sexp → List Group → Type 0 where
  typed_none : {variables : Bool} {items : List Sexp} {gs : List Group} → items ≡ [] → gs ≡ [] → IsTyped variables items gs
  typed_last : {variables : Bool} {items : List Sexp} {gs : List Group} (names : List Named) → no_names names ≡ false → AreEntries variables items names → gs ≡ record { names = names; kind = None } ∷ [] → IsTyped variables items gs
  typed_more : {variables : Bool} {items : List Sexp} {gs : List Group} (front rest : List Sexp) (names : List Named) (dash type : Sexp) (place : ℕ) (kind : Named) (more : List Group) →
      no_names names ≡ false → AreEntries variables front names → IsWord dash (place, codes "-") → IsWord type kind → is_name kind.1 ≡ true → IsTyped variables rest more →
      items ≡ front ++ dash ∷ type ∷ rest → gs ≡ record { names = names; kind = Some kind } ∷ more → IsTyped variables items gs

-- how many names the groups have
abbrev pub names_in : List Group → ℕ
names_in [] = 0
names_in (g ∷ gs) = length g.names + names_in gs

-- each is none of those before it
abbrev pub AreNew : List (List ℕ) → List (List ℕ) → Type 0
AreNew before [] = Unit {0}
AreNew before (n ∷ names) = (is_declared n before ≡ false) × AreNew (before ++ n ∷ []) names

-- the number of the type that is written, or of `object`
abbrev pub IsKind : List (List ℕ) → Option Named → ℕ → Type 0
IsKind types None k = k ≡ 0
IsKind types (Some w) k = place_of w.1 types ≡ Some k

-- things of one type come behind those of a table; one that is there already has that type
pub data PutsNames : ℕ → Table → List Named → Table → Type 0 where
  puts_none : {k : ℕ} {table : Table} {names : List Named} {all : Table} → names ≡ [] → all ≡ table → PutsNames k table names all
  puts_again : {k : ℕ} {table : Table} {names : List Named} {all : Table} (w : Named) (ws : List Named) (i : ℕ) → place_of w.1 table.names ≡ Some i → slice_get table.numbers i ≡ Some k → PutsNames k table ws all → names ≡ w ∷ ws → PutsNames k table names all
  puts_new : {k : ℕ} {table : Table} {names : List Named} {all : Table} (w : Named) (ws : List Named) → place_of w.1 table.names ≡ None → PutsNames k (with_row w.1 k table) ws all → names ≡ w ∷ ws → PutsNames k table names all

-- the things of each group have its type
pub data PutsGroups : List (List ℕ) → Table → List Group → Table → Type 0 where
  groups_none : {types : List (List ℕ)} {table : Table} {gs : List Group} {all : Table} → gs ≡ [] → all ≡ table → PutsGroups types table gs all
  groups_more : {types : List (List ℕ)} {table : Table} {gs : List Group} {all : Table} (g : Group) (more : List Group) (k : ℕ) (next : Table) → IsKind types g.kind k → PutsNames k table g.names next → PutsGroups types next more all → gs ≡ g ∷ more → PutsGroups types table gs all

-- the items of `:constants` name the things with their types
pub record SpellsThings (types : List (List ℕ)) (items : List Sexp) (table : Table) : Type 0 where
  pub groups : List Group
  pub typed : IsTyped false items groups
  pub puts : PutsGroups types no_rows groups table
