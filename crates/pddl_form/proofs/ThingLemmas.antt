-- Things that are spelled are read, and those that are read are spelled.
use Rattle.std.proofs.Common.{◌≡◌, ℕ, ◌==◌, Bool, true, false, cond, List, [], ◌∷◌, Option, Some, None, Result, Ok, Err, map, refl, sym, ap, subst, arith}
use Rattle.std.specs.Prelude.{slice_get}
use Rattle.std.proofs.lemmas.Bool.Decides.{nat_tests}
use Rattle.bd_base.specs.declared.text_err.Cause.TheVariants as cause
use Rattle.bd_base.specs.declared.text_err.TextErr.{TextErr}
use Rattle.bd_base.specs.declared.text_err.TextErr.TheVariants as errors
use Rattle.pddl_lex.specs.declared.sexp.Sexp.{Sexp}
use Rattle.pddl_form.specs.Fault.{Fault, needed, Gives, Says}
use Rattle.pddl_form.specs.Trees.{Named}
use Rattle.pddl_form.specs.Groups.{Group, Grouped, group, wrong, groups}
use Rattle.pddl_form.specs.Names.{place_of}
use Rattle.pddl_form.specs.Things.{Table, no_rows, with_row, has_number, put_thing_by, put_thing, put_things, kind_at, thing_group, things_from}
use Rattle.pddl_form.specs.Spells.{IsKind, PutsNames, puts_none, puts_again, puts_new, PutsGroups, groups_none, groups_more, SpellsThings}
use Rattle.pddl_form.proofs.TypedLemmas.{typed_read, typed_back}
use Rattle.pddl_form.proofs.Laws.{bind_ok}

same : (n : ℕ) → (n == n) ≡ true
same n = grind (arith, nat_tests)

again_read : (w : Named) (k i : ℕ) (table : Table) → place_of w.1 table.names ≡ Some i → slice_get table.numbers i ≡ Some k → put_thing w k table ≡ Ok table
unfolding put_thing
again_read w k i table p n = rw (p, n, same k) refl

new_read : (w : Named) (k : ℕ) (table : Table) → place_of w.1 table.names ≡ None → put_thing w k table ≡ Ok (with_row w.1 k table)
unfolding put_thing
new_read w k table p = rw p refl

names_read : {k : ℕ} {table : Table} {names : List Named} {all : Table} → PutsNames k table names all → put_things k names table ≡ Ok all
names_read (puts_none n a) = rw (n, a) refl
names_read {k} {table} (puts_again w ws i p s h n) = rw (n, again_read w k i table p s) (names_read h)
names_read {k} {table} (puts_new w ws p h n) = rw (n, new_read w k table p) (names_read h)

kind_read : (types : List (List ℕ)) (kind : Option Named) (k : ℕ) → IsKind types kind k → kind_at types kind ≡ Ok k
kind_read types None k h = ap (λ (n : ℕ). Ok n) (sym h)
kind_read types (Some w) k h = rw h refl

groups_read : {types : List (List ℕ)} {table : Table} {gs : List Group} {all : Table} → PutsGroups types table gs all → things_from types table (map group gs) ≡ Ok all
groups_read (groups_none g a) = rw (g, a) refl
groups_read {types} {table} (groups_more g more k next is h others e) = rw (e, kind_read types g.kind k is, names_read h) (groups_read others)

same_number : (r : Option ℕ) (k : ℕ) → has_number r k ≡ true → r ≡ Some k
same_number None k e = cc
same_number (Some n) k e = let is : n ≡ k = grind (arith, nat_tests) in ap (λ (m : ℕ). Some m) is

-- what one thing that was put says
abbrev Put : Named → ℕ → Table → List Named → Table → Table → Type 0
Put w k table ws next all = PutsNames k next ws all → PutsNames k table (w ∷ ws) all

put_back : (w : Named) (k : ℕ) (table : Table) (ws : List Named) (next all : Table) → put_thing w k table ≡ Ok next → Put w k table ws next all
unfolding put_thing
put_back w k table ws next all e = by_place (place_of w.1 table.names) refl e
  where
    by_number : (i : ℕ) (f : Fault) (t : Bool) → place_of w.1 table.names ≡ Some i → has_number (slice_get table.numbers i) k ≡ t → cond t (Ok table) (Err f) ≡ Ok next → Put w k table ws next all
    by_number i f true p q h rest = let is : next ≡ table = cc in puts_again w ws i p (same_number (slice_get table.numbers i) k q) (subst (λ (t : Table). PutsNames k t ws all) is rest) refl
    by_number i f false p q h rest = cc

    by_place : (r : Option ℕ) → place_of w.1 table.names ≡ r → put_thing_by r w k table ≡ Ok next → Put w k table ws next all
    by_place None p h rest = let is : next ≡ with_row w.1 k table = cc in puts_new w ws p (subst (λ (t : Table). PutsNames k t ws all) is rest) refl
    by_place (Some i) p h rest = by_number i (w.0, cause.Clash w.1) (has_number (slice_get table.numbers i) k) p refl h rest

names_back : (k : ℕ) (names : List Named) (table all : Table) → put_things k names table ≡ Ok all → PutsNames k table names all
names_back k [] table all e = let is : all ≡ table = cc in puts_none refl is
names_back k (w ∷ ws) table all e =
    let b = bind_ok (put_thing w k table) (λ more. put_things k ws more) all e in
    put_back w k table ws b.0 all b.1 (names_back k ws b.0 all b.2)

kind_back : (types : List (List ℕ)) (kind : Option Named) (k : ℕ) → kind_at types kind ≡ Ok k → IsKind types kind k
kind_back types None k e = let is : k ≡ 0 = cc in is
kind_back types (Some w) k e = by_place (w.0, cause.Unknown w.1) (place_of w.1 types) e
  where
    by_place : (f : Fault) (r : Option ℕ) → needed f r ≡ Ok k → r ≡ Some k
    by_place f None h = cc
    by_place f (Some i) h = let is : i ≡ k = cc in ap (λ (n : ℕ). Some n) is

-- the groups of a list that was read, and what they put
abbrev pub IsRead : List (List ℕ) → Table → List Grouped → Table → Type 0
IsRead types table list all = (gs : List Group) × (list ≡ map group gs) × PutsGroups types table gs all

pub groups_back : (types : List (List ℕ)) (list : List Grouped) (table all : Table) → things_from types table list ≡ Ok all → IsRead types table list all
groups_back types [] table all e = let is : all ≡ table = cc in ([], refl, groups_none refl is)
groups_back types (wrong f ∷ list) table all e = cc
groups_back types (group g ∷ list) table all e =
    let b = bind_ok (thing_group types g table) (λ more. things_from types more list) all e in
    let k = bind_ok (kind_at types g.kind) (λ kind. put_things kind g.names table) b.0 b.1 in
    let r = groups_back types list b.0 all b.2 in
    (g ∷ r.0, ap (λ (l : List Grouped). group g ∷ l) r.1, groups_more g r.0 k.0 b.0 (kind_back types g.kind k.0 k.1) (names_back k.0 g.names table b.0 k.2) r.2 refl)

pub things_spelled : (types : List (List ℕ)) (place : ℕ) (items : List Sexp) (table : Table) → things_from types no_rows (groups false place items) ≡ Ok table → SpellsThings types items table
things_spelled types place items table e =
    let r = groups_back types (groups false place items) no_rows table e in
    record { groups = r.0; typed = typed_back false place items r.0 r.1; puts = r.2 }

pub things_complete : (types : List (List ℕ)) (place : ℕ) (items : List Sexp) (table : Table) → SpellsThings types items table → things_from types no_rows (groups false place items) ≡ Ok table
things_complete types place items table h = rw (typed_read place h.typed) (groups_read h.puts)

no_things : (types : List (List ℕ)) (place : ℕ) (items : List Sexp) (f : Fault) → things_from types no_rows (groups false place items) ≡ Err f → (table : Table) → SpellsThings types items table → ⊥
no_things types place items f e table h = let c = things_complete types place items table h in cc

pub things_say : {X : Type 0} (view : X → Table) (types : List (List ℕ)) (place : ℕ) (items : List Sexp) (r : Result X TextErr) → Gives view r (things_from types no_rows (groups false place items)) → Says view (SpellsThings types items) r
things_say view types place items (Ok x) g = things_spelled types place items (view x) g
things_say view types place items (Err errors.NoMemory) g = tt
things_say view types place items (Err (errors.Over limit count)) g = absurd g
things_say view types place items (Err (errors.At p c)) g = no_things types place items (p, c) g
