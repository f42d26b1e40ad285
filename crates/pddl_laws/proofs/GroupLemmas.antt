-- Things that are spelled behind those of a table are read.
use Rattle.std.proofs.Common.{◌≡◌, ℕ, ◌==◌, true, List, Option, Some, None, Ok, map, refl, sym, ap, arith}
use Rattle.std.specs.Prelude.{slice_get}
use Rattle.std.proofs.lemmas.Bool.Decides.{nat_tests}
use Rattle.pddl_form.specs.Trees.{Named}
use Rattle.pddl_form.specs.Groups.{Group, group}
use Rattle.pddl_form.specs.Names.{place_of}
use Rattle.pddl_form.specs.Things.{Table, with_row, put_thing, put_things, kind_at, things_from}
use Rattle.pddl_form.specs.Spells.{IsKind, PutsNames, puts_none, puts_again, puts_new, PutsGroups, groups_none, groups_more}

same : (n : ℕ) → (n == n) ≡ true
same n = grind (arith, nat_tests)

again_read : (w : Named) (k i : ℕ) (table : Table) → place_of w.1 table.names ≡ Some i → slice_get table.numbers i ≡ Some k → put_thing w k table ≡ Ok table
unfolding put_thing
again_read w k i table p n = rw (p, n, same k) refl

new_read : (w : Named) (k : ℕ) (table : Table) → place_of w.1 table.names ≡ None → put_thing w k table ≡ Ok (with_row w.1 k table)
unfolding put_thing
new_read w k table p = rw p refl

names_read : {k : ℕ} {table : Table} {names : List Named} {all : Table} → PutsNames k table names all → put_things k names table ≡ Ok all
names_read (puts_none n a) = rw (n, a) refl
names_read {k} {table} (puts_again w ws i p s h n) = rw (n, again_read w k i table p s) (names_read h)
names_read {k} {table} (puts_new w ws p h n) = rw (n, new_read w k table p) (names_read h)

kind_read : (types : List (List ℕ)) (kind : Option Named) (k : ℕ) → IsKind types kind k → kind_at types kind ≡ Ok k
kind_read types None k h = ap (λ (n : ℕ). Ok n) (sym h)
kind_read types (Some w) k h = rw h refl

pub groups_read : {types : List (List ℕ)} {table : Table} {gs : List Group} {all : Table} → PutsGroups types table gs all → things_from types table (map group gs) ≡ Ok all
groups_read (groups_none g a) = rw (g, a) refl
groups_read {types} {table} (groups_more g more k next is h others e) = rw (e, kind_read types g.kind k is, names_read h) (groups_read others)
