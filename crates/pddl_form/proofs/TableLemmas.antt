-- Tables of things: as many types as names, each name once.
use Rattle.std.proofs.Common.{◌≡◌, ℕ, suc, ◌<◌, List, [], ◌∷◌, ◌++◌, Option, Some, None, length, map, refl, sym, ap, subst, ◌∙◌, arith, append_assoc, false}
use Rattle.std.proofs.lemmas.List.{append-nil}
use Rattle.std.specs.List.{AllByRecursion}
use Rattle.pddl_types.specs.declared.domains.Thing.{Thing}
use Rattle.pddl_types.specs.declared.domains.Head.{Head}
use Rattle.pddl_form.specs.Trees.{Named}
use Rattle.pddl_form.specs.Names.{place_of, is_declared, names_from}
use Rattle.pddl_form.specs.Groups.{Group}
use Rattle.pddl_form.specs.Things.{Table, things_of, heads_of}
use Rattle.pddl_form.specs.Spells.{AreNew, IsKind, PutsNames, puts_none, puts_again, puts_new, PutsGroups, groups_none, groups_more}
use Rattle.pddl_form.proofs.Laws.{all_more, length_more}
use Rattle.pddl_form.proofs.NameLemmas.{absent}
use Rattle.pddl_form.proofs.RangeLemmas.{place_below, IsTable}

pub longer : (names : List (List ℕ)) (numbers : List ℕ) (more : List (List ℕ)) (w : List ℕ) (n : ℕ) → more ≡ names ++ w ∷ [] → length names ≡ length numbers → length more ≡ length (numbers ++ n ∷ [])
longer names numbers more w n is same =
    let l = ap (λ (xs : List (List ℕ)). length xs) is ∙ length_more names w in
    let m = length_more numbers n in
    omega (arith, l, m, same)

pub record AreThings (types : List (List ℕ)) (table : Table) : Type 0 where
  pub even : IsTable table
  pub kinds : AllByRecursion (λ k. k < length types) table.numbers

names_put : {types : List (List ℕ)} {k : ℕ} {table : Table} {names : List Named} {all : Table} → k < length types → PutsNames k table names all → AreThings types table → AreThings types all
names_put {types} b (puts_none n a) h = subst (AreThings types) (sym a) h
names_put b (puts_again w ws i p s more n) h = names_put b more h
names_put {types} {k} {table} b (puts_new w ws p more n) h =
    names_put b more (record { even = longer table.names table.numbers (table.names ++ w.1 ∷ []) w.1 k refl h.even; kinds = all_more (λ k. k < length types) table.numbers k h.kinds b })

kind_is : (types : List (List ℕ)) (kind : Option Named) (k : ℕ) → 0 < length types → IsKind types kind k → k < length types
kind_is types None k b h = omega (arith, b, h)
kind_is types (Some w) k b h = place_below w.1 types k h

pub groups_put : {types : List (List ℕ)} {table : Table} {gs : List Group} {all : Table} → 0 < length types → PutsGroups types table gs all → AreThings types table → AreThings types all
groups_put {types} b (groups_none g a) h = subst (AreThings types) (sym a) h
groups_put {types} b (groups_more g more k next is puts others e) h = groups_put b others (names_put (kind_is types g.kind k b is) puts h)

pub new_more : (before names : List (List ℕ)) (w : List ℕ) → AreNew before names → is_declared w (before ++ names) ≡ false → AreNew before (names ++ w ∷ [])
new_more before [] w h e = (subst (λ l. is_declared w l ≡ false) (append-nil before) e, tt)
new_more before (n ∷ names) w h e = (h.0, new_more (before ++ n ∷ []) names w h.1 (subst (λ l. is_declared w l ≡ false) (sym (append_assoc before (n ∷ []) names)) e))

pub things_length : (names : List (List ℕ)) (kinds : List ℕ) → length names ≡ length kinds → length (things_of names kinds) ≡ length names
things_length [] kinds e = refl
things_length (n ∷ names) [] e = absurd (omega (arith, e))
things_length (n ∷ names) (k ∷ kinds) e = ap (λ (m : ℕ). suc m) (things_length names kinds (omega (arith, e)))

pub things_kinds : (bound : ℕ) (names : List (List ℕ)) (kinds : List ℕ) → AllByRecursion (λ k. k < bound) kinds → AllByRecursion (λ t. t.kind < bound) (things_of names kinds)
things_kinds bound [] kinds h = tt
things_kinds bound (n ∷ names) [] h = tt
things_kinds bound (n ∷ names) (k ∷ kinds) h = (h.0, things_kinds bound names kinds h.1)

pub thing_names : (names : List (List ℕ)) (kinds : List ℕ) → length names ≡ length kinds → names ≡ map (λ t. t.name) (things_of names kinds)
thing_names [] kinds e = refl
thing_names (n ∷ names) [] e = absurd (omega (arith, e))
thing_names (n ∷ names) (k ∷ kinds) e = ap (λ (l : List (List ℕ)). n ∷ l) (thing_names names kinds (omega (arith, e)))

pub things_end : (done : List Thing) (names : List (List ℕ)) (kinds : List ℕ) (all : List Thing) → length kinds ≡ 0 → done ++ things_of names kinds ≡ all → done ≡ all
things_end done [] kinds all e h = sym (append-nil done) ∙ h
things_end done (n ∷ names) [] all e h = sym (append-nil done) ∙ h
things_end done (n ∷ names) (k ∷ kinds) all e h = absurd (omega (arith, e))

pub heads_end : (done : List Head) (names : List (List ℕ)) (arities : List ℕ) (all : List Head) → length arities ≡ 0 → done ++ heads_of names arities ≡ all → done ≡ all
heads_end done [] arities all e h = sym (append-nil done) ∙ h
heads_end done (n ∷ names) [] all e h = sym (append-nil done) ∙ h
heads_end done (n ∷ names) (k ∷ arities) all e h = absurd (omega (arith, e))

pub names_are : (done names : List (List ℕ)) → AreNew done names → names_from done names ≡ done ++ names
names_are done [] h = sym (append-nil done)
names_are done (n ∷ names) h = rw h.0 (names_are (done ++ n ∷ []) names h.1 ∙ append_assoc done (n ∷ []) names)
