-- A problem that was read, for a domain that was read, is over its constants and objects.
use Rattle.std.proofs.Common.{◌≡◌, ℕ, suc, ◌+◌, ◌<◌, ◌≤◌, Bool, true, false, cond, nat_lt, List, [], ◌∷◌, ◌++◌, Option, Some, None, Result, Ok, Err, IfOk, length, map, drop, refl, sym, ap, subst, ◌∙◌, arith, append_assoc}
use Rattle.std.proofs.lemmas.List.{append-nil}
use Rattle.std.proofs.lemmas.Bool.Decides.{nat_tests}
use Rattle.std.specs.List.{AllByRecursion}
use Rattle.bd_base.specs.declared.text_err.Limit.{Limit}
use Rattle.bd_base.specs.declared.text_err.Limit.TheVariants as limits
use Rattle.bd_base.specs.declared.text_err.TextErr.{TextErr}
use Rattle.pddl_lex.specs.declared.sexp.Sexp.{Sexp}
use Rattle.pddl_types.specs.declared.terms.Atom.{Atom}
use Rattle.pddl_types.specs.declared.domains.Thing.{Thing}
use Rattle.pddl_types.specs.declared.domains.Head.{Head}
use Rattle.pddl_types.specs.declared.domains.TypeDecl.{TypeDecl}
use Rattle.pddl_types.specs.declared.domains.Domain.{Domain}
use Rattle.pddl_types.specs.declared.problems.Problem.{Problem}
use Rattle.pddl_types.specs.declared.problems.Given.{Given}
use Rattle.pddl_types.specs.Readable.{IsAtom, AreAtoms, AreNames}
use Rattle.pddl_form.specs.Fault.{Answers}
use Rattle.pddl_form.specs.Trees.{Named, Headed}
use Rattle.pddl_form.specs.Groups.{Group, groups}
use Rattle.pddl_form.specs.Things.{Table, with_row}
use Rattle.pddl_form.specs.Spells.{AreNew, PutsNames, puts_none, puts_again, puts_new, PutsGroups, groups_none, groups_more}
use Rattle.pddl_form.specs.Terms.{Scope}
use Rattle.pddl_form.specs.Things.{things_of, heads_of as rows}
use Rattle.pddl_form.specs.Contract.{IsRead}
use Rattle.pddl_problem.specs.Known.{constants_of, heads_of, known_of}
use Rattle.pddl_problem.specs.Outline.{Body, outline_at}
use Rattle.pddl_problem.specs.Init.{no_init, init_from}
use Rattle.pddl_problem.specs.Goal.{goal_at, metric_at}
use Rattle.pddl_problem.specs.Whole.{objects_from, things_behind, objects_scope, problem_of, init_at, stated_at, body_at, problem_at, over_of}
use Rattle.pddl_problem.specs.Contract.{IsShort, IsReadFor}
use Rattle.pddl_form.proofs.Laws.{bind_ok}
use Rattle.pddl_form.proofs.ThingLemmas.{groups_back}
use Rattle.pddl_form.proofs.TypedLemmas.{typed_back}
use Rattle.pddl_form.proofs.SeenLemmas.{typed_seen, AreOnce, groups_put_once, once_apart, apart_once}
use Rattle.pddl_form.proofs.RangeLemmas.{IsTable, rows_of}
use Rattle.pddl_form.proofs.TableLemmas.{AreThings, groups_put, names_are}
use Rattle.pddl_form.proofs.TableLemmas.{things_length, thing_names, things_kinds}
use Rattle.pddl_problem.proofs.StatedLemmas.{init_in, goal_fits}

heads_even : (heads : List Head) → length (map (λ h. h.name) heads) ≡ length (map (λ h. h.arity) heads)
heads_even [] = refl
heads_even (h ∷ heads) = ap (λ (n : ℕ). suc n) (heads_even heads)

rows_back : (heads : List Head) → rows (map (λ h. h.name) heads) (map (λ h. h.arity) heads) ≡ heads
rows_back [] = refl
rows_back (h ∷ heads) = ap (λ (l : List Head). h ∷ l) (rows_back heads)

table_even : (heads : List Head) → AreNames (map (λ h. h.name) heads) → IsTable (heads_of heads)
table_even heads h = ap (λ (l : List (List ℕ)). length l) (names_are [] (map (λ h. h.name) heads) (apart_once _ h).new) ∙ heads_even heads

table_rows : (heads : List Head) → AreNames (map (λ h. h.name) heads) → rows_of (heads_of heads) ≡ heads
table_rows heads h = ap (λ (l : List (List ℕ)). rows l (map (λ h. h.arity) heads)) (names_are [] (map (λ h. h.name) heads) (apart_once _ h).new) ∙ rows_back heads

things_even : (things : List Thing) → length (map (λ t. t.name) things) ≡ length (map (λ t. t.kind) things)
things_even [] = refl
things_even (t ∷ things) = ap (λ (n : ℕ). suc n) (things_even things)

things_back : (things : List Thing) → things_of (map (λ t. t.name) things) (map (λ t. t.kind) things) ≡ things
things_back [] = refl
things_back (t ∷ things) = ap (λ (l : List Thing). t ∷ l) (things_back things)

kinds_map : (bound : ℕ) (things : List Thing) → AllByRecursion (λ t. t.kind < bound) things → AllByRecursion (λ k. k < bound) (map (λ t. t.kind) things)
kinds_map bound [] h = tt
kinds_map bound (t ∷ things) h = (h.0, kinds_map bound things h.1)

types_even : (types : List TypeDecl) → length (map (λ t. t.name) types) ≡ length types
types_even [] = refl
types_even (t ∷ types) = ap (λ (n : ℕ). suc n) (types_even types)

-- a table that begins with the rows of another
record Behind (a b : Table) : Type 0 where
  names : List (List ℕ)
  numbers : List ℕ
  are_names : b.names ≡ a.names ++ names
  are_numbers : b.numbers ≡ a.numbers ++ numbers

same_behind : (a b : Table) → b ≡ a → Behind a b
same_behind a b e = record { names = []; numbers = []; are_names = ap (λ (t : Table). t.names) e ∙ sym (append-nil a.names); are_numbers = ap (λ (t : Table). t.numbers) e ∙ sym (append-nil a.numbers) }

row_behind : (w : List ℕ) (k : ℕ) (a b : Table) → Behind (with_row w k a) b → Behind a b
row_behind w k a b h = record { names = w ∷ h.names; numbers = k ∷ h.numbers; are_names = h.are_names ∙ append_assoc a.names (w ∷ []) h.names; are_numbers = h.are_numbers ∙ append_assoc a.numbers (k ∷ []) h.numbers }

both_behind : (a b c : Table) → Behind a b → Behind b c → Behind a c
both_behind a b c h k = record {
  names = h.names ++ k.names;
  numbers = h.numbers ++ k.numbers;
  are_names = k.are_names ∙ ap (λ (l : List (List ℕ)). l ++ k.names) h.are_names ∙ append_assoc a.names h.names k.names;
  are_numbers = k.are_numbers ∙ ap (λ (l : List ℕ). l ++ k.numbers) h.are_numbers ∙ append_assoc a.numbers h.numbers k.numbers;
}

names_behind : {k : ℕ} {table : Table} {names : List Named} {all : Table} → PutsNames k table names all → Behind table all
names_behind {k} {table} {names} {all} (puts_none n a) = same_behind table all a
names_behind (puts_again w ws i p s more n) = names_behind more
names_behind {k} {table} {names} {all} (puts_new w ws p more n) = row_behind w.1 k table all (names_behind more)

groups_behind : {types : List (List ℕ)} {table : Table} {gs : List Group} {all : Table} → PutsGroups types table gs all → Behind table all
groups_behind {types} {table} {gs} {all} (groups_none g a) = same_behind table all a
groups_behind {types} {table} {gs} {all} (groups_more g more k next is puts others e) = both_behind table next all (names_behind puts) (groups_behind others)

things_append : (names more : List (List ℕ)) (kinds others : List ℕ) → length names ≡ length kinds → things_of (names ++ more) (kinds ++ others) ≡ things_of names kinds ++ things_of more others
things_append [] more [] others e = refl
things_append [] more (k ∷ kinds) others e = absurd (omega (arith, e))
things_append (n ∷ names) more [] others e = absurd (omega (arith, e))
things_append (n ∷ names) more (k ∷ kinds) others e = ap (λ (l : List Thing). record { name = n; kind = k } ∷ l) (things_append names more kinds others (omega (arith, e)))

drop_front : (xs ys : List Thing) → drop (length xs) (xs ++ ys) ≡ ys
drop_front [] ys = refl
drop_front (x ∷ xs) ys = drop_front xs ys

-- the constants with what was read of objects
record IsWhole (d : Domain) (objects : Table) : Type 0 where
  even : IsTable objects
  once : AreOnce objects.names
  kinds : AllByRecursion (λ k. k < length d.types) objects.numbers
  whole : d.constants ++ things_behind (length d.constants) objects ≡ things_of objects.names objects.numbers

constants_are : (d : Domain) → IsRead d → constants_of d ≡ record { names = map (λ t. t.name) d.constants; numbers = map (λ t. t.kind) d.constants }
constants_are d h = ap (λ (l : List (List ℕ)). record { names = l; numbers = map (λ t. t.kind) d.constants }) (names_are [] (map (λ t. t.name) d.constants) (apart_once _ h.constants).new)

-- by the plain table of the constants
whole_by : (d : Domain) (objects : Table) → Behind (record { names = map (λ t. t.name) d.constants; numbers = map (λ t. t.kind) d.constants }) objects → things_of objects.names objects.numbers ≡ d.constants ++ things_behind (length d.constants) objects
whole_by d objects b =
    let names : List (List ℕ) = map (λ t. t.name) d.constants in
    let kinds : List ℕ = map (λ t. t.kind) d.constants in
    let rest : List Thing = things_of b.names b.numbers in
    let cut : things_of objects.names objects.numbers ≡ d.constants ++ rest =
    ap (λ (l : List (List ℕ)). things_of l objects.numbers) b.are_names ∙ ap (λ (l : List ℕ). things_of (names ++ b.names) l) b.are_numbers
    ∙ things_append names b.names kinds b.numbers (things_even d.constants) ∙ ap (λ (l : List Thing). l ++ rest) (things_back d.constants) in
    cut ∙ sym (ap (λ (l : List Thing). d.constants ++ drop (length d.constants) l) cut ∙ ap (λ (l : List Thing). d.constants ++ l) (drop_front d.constants rest))

types_count : (d : Domain) → IsRead d → length (known_of d).types ≡ length d.types
types_count d h = ap (λ (l : List (List ℕ)). length l) (names_are [] (map (λ t. t.name) d.types) (apart_once _ h.types).new) ∙ types_even d.types

constants_fit : (d : Domain) → IsRead d → AreThings (known_of d).types (constants_of d)
constants_fit d h = record {
  even = ap (λ (l : List (List ℕ)). length l) (names_are [] (map (λ t. t.name) d.constants) (apart_once _ h.constants).new) ∙ things_even d.constants;
  kinds = subst (λ (m : ℕ). AllByRecursion (λ k. k < m) (map (λ t. t.kind) d.constants)) (sym (types_count d h)) (kinds_map (length d.types) d.constants h.sound.kinds);
}

whole_of : (d : Domain) (objects : Table) → IsRead d → AreThings (known_of d).types objects → AreOnce objects.names → Behind (constants_of d) objects → IsWhole d objects
whole_of d objects h are once b = record {
  even = are.even;
  once = once;
  kinds = subst (λ (m : ℕ). AllByRecursion (λ k. k < m) objects.numbers) (types_count d h) are.kinds;
  whole = sym (whole_by d objects (subst (λ (t : Table). Behind t objects) (constants_are d h) b));
}

objects_whole : (d : Domain) (section : Option Headed) (objects : Table) → IsRead d → objects_from (known_of d).types (constants_of d) section ≡ Ok objects → IsWhole d objects
objects_whole d section objects h e = by_section section e
  where
    once : AreOnce (constants_of d).names
    once = subst AreOnce (sym (names_are [] (map (λ t. t.name) d.constants) (apart_once _ h.constants).new)) (apart_once _ h.constants)

    by_section : (s : Option Headed) → objects_from (known_of d).types (constants_of d) s ≡ Ok objects → IsWhole d objects
    by_section None q =
        let is : constants_of d ≡ objects = cc in
        subst (IsWhole d) is (whole_of d (constants_of d) h (constants_fit d h) once (same_behind (constants_of d) (constants_of d) refl))
    by_section (Some s) q =
        let r = groups_back (known_of d).types (groups false s.place s.items) (constants_of d) objects q in
        let some : 0 < length (known_of d).types = omega (arith, types_count d h, h.object) in
        whole_of d objects h (groups_put some r.2 (constants_fit d h)) (groups_put_once r.2 (typed_seen (typed_back false s.place s.items r.0 r.1) refl) once) (groups_behind r.2)

all_back : {X : Type 0} (P : X → Type 0) (xs ys : List X) → AllByRecursion P (xs ++ ys) → AllByRecursion P ys
all_back P [] ys h = h
all_back P (x ∷ xs) ys h = all_back P xs ys h.1

few_of : (m n : ℕ) (x : Limit × ℕ) → cond (nat_lt 65_536 (m + n)) (Some x) None ≡ None → m + n ≤ 65_536
few_of m n x e = by_test (nat_lt 65_536 (m + n)) refl e
  where
    by_test : (t : Bool) → nat_lt 65_536 (m + n) ≡ t → cond t (Some x) None ≡ None → m + n ≤ 65_536
    by_test true q k = cc
    by_test false q k = grind (arith, nat_tests)

length_both : (xs ys : List Thing) → length (xs ++ ys) ≡ length xs + length ys
length_both [] ys = omega arith
length_both (x ∷ xs) ys = let h = length_both xs ys in omega (arith, h)

stated_fits : (d : Domain) (objects : Table) (body : Body) (p : Problem) → IsRead d → IsWhole d objects → stated_at d (known_of d) (objects_scope objects) objects body ≡ Ok p → over_of d p ≡ None → IsShort p → IsReadFor d p
unfolding stated_at
stated_fits d objects body p h w e o few =
    let scope : Scope = objects_scope objects in
    let i = bind_ok (init_at (known_of d) scope body.init) _ p e in
    let s = bind_ok (init_from scope (known_of d).predicates (known_of d).functions no_init body.init.items) (λ s. Ok (s.atoms, s.values)) i.0 i.1 in
    let g = bind_ok (goal_at scope (known_of d).predicates body.goal) _ p i.2 in
    let m = bind_ok (metric_at (known_of d).functions body.metric) _ p g.2 in
    let pair : (s.0.atoms, s.0.values) ≡ i.0 = cc in
    let last : problem_of d objects i.0 g.0 m.0 ≡ p = cc in
    let is : problem_of d objects (s.0.atoms, s.0.values) g.0 m.0 ≡ p = ap (λ (q : List Atom × List Given). problem_of d objects q g.0 m.0) pair ∙ last in
    let pe = table_even d.predicates h.predicates in
    let fe = table_even d.functions h.functions in
    let stated = init_in scope (known_of d).predicates (known_of d).functions no_init body.init.items s.0 pe fe s.1 (record { atoms = tt; values = tt; keys = refl; once = tt; calls = refl; given = tt }) in
    let goal = goal_fits scope (known_of d).predicates body.goal g.0 pe g.1 in
    let behind : List Thing = things_behind (length d.constants) objects in
    let count : length objects.names ≡ length (d.constants ++ behind) = sym (ap (λ (l : List Thing). length l) w.whole ∙ things_length objects.names objects.numbers w.even) in
    let pr = table_rows d.predicates h.predicates in
    let fr = table_rows d.functions h.functions in
    let made : over_of d (problem_of d objects (s.0.atoms, s.0.values) g.0 m.0) ≡ None = ap (λ (q : Problem). over_of d q) is ∙ o in
    let count_few = few_of (length d.constants) (length behind) (limits.Objects, 65_537) made in
    let short : IsShort (problem_of d objects (s.0.atoms, s.0.values) g.0 m.0) = subst IsShort (sym is) few in
    let kinds = subst (λ (l : List Thing). AllByRecursion (λ t. t.kind < length d.types) l) (sym w.whole) (things_kinds (length d.types) objects.names objects.numbers w.kinds) in
    let apart = once_apart objects.names w.once in
    subst (IsReadFor d) is (record {
      sound = record {
        few = omega (arith, count_few, length_both d.constants behind);
        short = short.atoms;
        few_values = short.values;
        kinds = all_back (λ t. t.kind < length d.types) d.constants behind kinds;
        init = subst (λ (n : ℕ). AreAtoms d.predicates 0 n s.0.atoms) count (subst (λ (hs : List Head). AreAtoms hs 0 (length objects.names) s.0.atoms) pr stated.atoms);
        goal = subst (λ (n : ℕ). AreAtoms d.predicates 0 n g.0) count (subst (λ (hs : List Head). AreAtoms hs 0 (length objects.names) g.0) pr goal);
        values = subst (λ (n : ℕ). AllByRecursion (λ v. IsAtom d.functions 0 n v.call × (v.number ≤ 1_000_000_000)) s.0.values) count (subst (λ (hs : List Head). AllByRecursion (λ v. IsAtom hs 0 (length objects.names) v.call × (v.number ≤ 1_000_000_000)) s.0.values) fr stated.values);
      };
      init_once = subst (AreNew []) stated.keys stated.once;
      values_once = subst (AreNew []) stated.calls stated.given;
      named = record {
        predicates = h.predicates;
        actions = h.actions;
        things = subst AreNames (thing_names objects.names objects.numbers w.even ∙ ap (λ (l : List Thing). map (λ t. t.name) l) (sym w.whole)) apart;
      };
    })

problem_fits : (d : Domain) (tree : Sexp) (p : Problem) → IsRead d → problem_at d tree ≡ Ok p → over_of d p ≡ None → IsShort p → IsReadFor d p
problem_fits d tree p h e o few =
    let b = bind_ok (outline_at tree) (λ body. body_at d (known_of d) (constants_of d) body) p e in
    let x = bind_ok (objects_from (known_of d).types (constants_of d) b.0.objects) (λ objects. stated_at d (known_of d) (objects_scope objects) objects b.0) p b.2 in
    stated_fits d x.0 b.0 p h (objects_whole d b.0.objects x.0 h x.1) x.2 o few

pub read_for : (d : Domain) (tree : Sexp) (r : Result Problem TextErr) → Answers (over_of d) r (problem_at d tree) → IfOk r IsShort → IfOk r (λ p. IsRead d → IsReadFor d p)
read_for d tree (Ok p) a few = λ h. problem_fits d tree p h a.0 a.1 few
read_for d tree (Err e) a few = tt
