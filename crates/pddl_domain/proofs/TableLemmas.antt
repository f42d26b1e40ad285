-- The tables of a domain that was read have a number for each name.
use Rattle.std.proofs.Common.{◌≡◌, ℕ, suc, ◌<◌, ◌==◌, Bool, true, false, cond, List, [], ◌∷◌, ◌++◌, Option, Some, None, Ok, Err, length, refl, sym, ap, subst, ◌∙◌, arith, length-set}
use Rattle.std.specs.Prelude.{codes, slice_set}
use Rattle.bd_base.specs.declared.text_err.Cause.TheVariants as cause
use Rattle.pddl_lex.specs.declared.sexp.Sexp.{Sexp}
use Rattle.pddl_form.specs.Fault.{Fault, ◌>>=◌}
use Rattle.pddl_form.specs.Trees.{Named, Headed, place_at, is_word, must}
use Rattle.pddl_form.specs.Names.{place_of}
use Rattle.pddl_form.specs.Groups.{Grouped, group, wrong, groups}
use Rattle.pddl_domain.specs.Types.{Types, only_object, mention_by, mention, mention_all, mention_kind, parent_at, reaches, give_by, give, give_all, type_group, types_from}
use Rattle.pddl_form.specs.Things.{Table, no_rows}
use Rattle.pddl_domain.specs.Heads.{declaration_at, with_arity, fits_total, function_in, number_type_at, functions_from}
use Rattle.pddl_domain.specs.Spells.{AreHeads}
use Rattle.pddl_domain.specs.Domain.{Declared, types_section, things_section, predicates_section, functions_section, declared_at}
use Rattle.pddl_domain.specs.Outline.{outline_at}
use Rattle.pddl_form.proofs.Laws.{bind_ok}
use Rattle.pddl_domain.proofs.HeadLemmas.{declaration_back, predicates_spelled}
use Rattle.pddl_form.proofs.ThingLemmas.{things_spelled}
use Rattle.pddl_form.proofs.Laws.{length_more}
use Rattle.pddl_form.proofs.RangeLemmas.{IsTable}
use Rattle.pddl_form.proofs.TableLemmas.{longer, AreThings, groups_put}

heads_even : (xs : List Sexp) (ws : List (List ℕ)) (ns : List ℕ) → AreHeads xs ws ns → length ws ≡ length ns
heads_even [] [] [] h = refl
heads_even [] [] (n ∷ ns) h = absurd h
heads_even [] (w ∷ ws) ns h = absurd h
heads_even (x ∷ xs) [] ns h = absurd h
heads_even (x ∷ xs) (w ∷ ws) [] h = absurd h
heads_even (x ∷ xs) (w ∷ ws) (n ∷ ns) h = ap (λ (k : ℕ). suc k) (heads_even xs ws ns h.1)

predicates_even : (section : Option Headed) (table : Table) → predicates_section section ≡ Ok table → IsTable table
predicates_even None table e = let is : no_rows ≡ table = cc in subst IsTable is refl
predicates_even (Some h) table e = heads_even h.items table.names table.numbers (predicates_spelled h.items table e).heads

function_even : (tree : Sexp) (table more : Table) → function_in tree table ≡ Ok more → IsTable table → IsTable more
function_even tree table more e h =
    let d = bind_ok (declaration_at table.names tree) (λ d. fits_total d.0.0 d.0.1 >>= λ fit. Ok (with_arity d table)) more e in
    let f = bind_ok (fits_total d.0.0.0 d.0.0.1) (λ fit. Ok (with_arity d.0 table)) more d.2 in
    let is : with_arity d.0 table ≡ more = cc in
    subst IsTable is (longer table.names table.numbers d.0.1 d.0.0.0.head.1 d.0.0.1 (declaration_back table.names tree d.0 d.1).more h)

functions_from_even : (place : ℕ) (waiting fresh : Bool) (table : Table) (xs : List Sexp) (all : Table) → functions_from place waiting fresh table xs ≡ Ok all → IsTable table → IsTable all
functions_from_even place true fresh table [] all e h = cc
functions_from_even place false fresh table [] all e h = let is : table ≡ all = cc in subst IsTable is h
functions_from_even place true fresh table (x ∷ xs) all e h =
    let n = bind_ok (number_type_at x) (λ u. functions_from place false false table xs) all e in
    functions_from_even place false false table xs all n.2 h
functions_from_even place false fresh table (x ∷ xs) all e h = by_test (is_word (codes "-") x) (functions_from_even place true false table xs all) (λ more. functions_from_even place false true more xs all) e
  where
    by_test : (t : Bool) → (functions_from place true false table xs ≡ Ok all → IsTable table → IsTable all) → ((more : Table) → functions_from place false true more xs ≡ Ok all → IsTable more → IsTable all)
        → cond t (must fresh (place_at x) >>= λ u. functions_from place true false table xs) (function_in x table >>= λ more. functions_from place false true more xs) ≡ Ok all → IsTable all
    by_test true type name q = let m = bind_ok (must fresh (place_at x)) (λ u. functions_from place true false table xs) all q in type m.2 h
    by_test false type name q = let m = bind_ok (function_in x table) (λ more. functions_from place false true more xs) all q in name m.0 m.2 (function_even x table m.0 m.1 h)

functions_even : (section : Option Headed) (table : Table) → functions_section section ≡ Ok table → IsTable table
functions_even None table e = let is : no_rows ≡ table = cc in subst IsTable is refl
functions_even (Some h) table e = functions_from_even h.place false false no_rows h.items table e refl

-- types

-- `object` and a parent, or none, for each
pub record AreTypes (types : Types) : Type 0 where
  pub some : 0 < length types.names
  pub even : length types.names ≡ length types.parents

mentioned : (r : Option ℕ) (name : List ℕ) (types : Types) → AreTypes types → AreTypes (mention_by r name types).1
mentioned (Some i) name types h = h
mentioned None name types h =
    let l = length_more types.names name in
    let m = length_more types.parents None in
    record { some = omega (arith, l, h.some); even = omega (arith, l, m, h.even) }

all_mentioned : (done : List (Named × ℕ)) (ws : List Named) (types : Types) → AreTypes types → AreTypes (mention_all done ws types).1
all_mentioned done [] types h = h
all_mentioned done (w ∷ ws) types h = all_mentioned (done ++ (w, (mention w.1 types).0) ∷ []) ws (mention w.1 types).1 (mentioned (place_of w.1 types.names) w.1 types h)

kind_mentioned : (kind : Option Named) (types : Types) → AreTypes types → AreTypes (mention_kind kind types).1
kind_mentioned None types h = h
kind_mentioned (Some w) types h = mentioned (place_of w.1 types.names) w.1 types h

given : (r : Option ℕ) (w : Named) (i k : ℕ) (types more : Types) → give_by r w i k types ≡ Ok more → AreTypes types → AreTypes more
given (Some before) w i k types more e h = by_test (before == k) (w.0, cause.Clash w.1) e
  where
    by_test : (t : Bool) (f : Fault) → cond t (Ok types) (Err f) ≡ Ok more → AreTypes more
    by_test true f q = let is : types ≡ more = cc in subst AreTypes is h
    by_test false f q = cc
given None w i k types more e h = by_test (reaches types.parents types.parents i (Some k)) (w.0, cause.Clash w.1) e
  where
    by_test : (t : Bool) (f : Fault) → cond t (Err f) (Ok (record { names = types.names; parents = slice_set types.parents i (Some k) })) ≡ Ok more → AreTypes more
    by_test true f q = cc
    by_test false f q =
        let is : record { names = types.names; parents = slice_set types.parents i (Some k) } ≡ more = cc in
        subst AreTypes is (record { some = h.some; even = h.even ∙ sym (length-set types.parents i (Some k)) })

gives : (w : Named) (i k : ℕ) (types more : Types) → give w i k types ≡ Ok more → AreTypes types → AreTypes more
gives w i k types more e h = by_tests (i == 0) (k == 0) (w.0, cause.Clash w.1) e
  where
    by_tests : (s t : Bool) (f : Fault) → cond s (cond t (Ok types) (Err f)) (give_by (parent_at types.parents i) w i k types) ≡ Ok more → AreTypes more
    by_tests true true f q = let is : types ≡ more = cc in subst AreTypes is h
    by_tests true false f q = cc
    by_tests false t f q = given (parent_at types.parents i) w i k types more q h

all_given : (k : ℕ) (ms : List (Named × ℕ)) (types more : Types) → give_all k ms types ≡ Ok more → AreTypes types → AreTypes more
all_given k [] types more e h = let is : types ≡ more = cc in subst AreTypes is h
all_given k (m ∷ ms) types more e h =
    let b = bind_ok (give m.0 m.1 k types) (λ more. give_all k ms more) more e in
    all_given k ms b.0 more b.2 (gives m.0 m.1 k types b.0 b.1 h)

types_are : (types : Types) (list : List Grouped) (all : Types) → types_from types list ≡ Ok all → AreTypes types → AreTypes all
types_are types [] all e h = let is : types ≡ all = cc in subst AreTypes is h
types_are types (wrong f ∷ gs) all e h = cc
types_are types (group g ∷ gs) all e h =
    let b = bind_ok (type_group g types) (λ more. types_from more gs) all e in
    let named = mention_all [] g.names types in
    let kind = mention_kind g.kind named.1 in
    types_are b.0 gs all b.2 (all_given kind.0 named.0 kind.1 b.0 b.1 (kind_mentioned g.kind named.1 (all_mentioned [] g.names types h)))

only_is : AreTypes only_object
only_is = record { some = omega arith; even = refl }

types_read : (section : Option Headed) (types : Types) → types_section section ≡ Ok types → AreTypes types
types_read None types e = let is : only_object ≡ types = cc in subst AreTypes is only_is
types_read (Some h) types e = types_are only_object (groups false h.place h.items) types e only_is

-- things

things_read : (types : List (List ℕ)) (section : Option Headed) (table : Table) → 0 < length types → things_section types section ≡ Ok table → AreThings types table
things_read types None table b e = let is : no_rows ≡ table = cc in subst (AreThings types) is (record { even = refl; kinds = tt })
things_read types (Some h) table b e = groups_put b (things_spelled types h.place h.items table e).puts (record { even = refl; kinds = tt })

-- all that is declared before the actions
pub record AreDeclared (d : Declared) : Type 0 where
  pub types : AreTypes d.types
  pub constants : AreThings d.types.names d.constants
  pub predicates : IsTable d.predicates
  pub functions : IsTable d.functions

pub declared_are : (tree : Sexp) (d : Declared) → declared_at tree ≡ Ok d → AreDeclared d
unfolding declared_at
declared_are tree d e =
    let o = bind_ok (outline_at tree) _ d e in
    let t = bind_ok (types_section o.0.types) _ d o.2 in
    let c = bind_ok (things_section t.0.names o.0.constants) _ d t.2 in
    let p = bind_ok (predicates_section o.0.predicates) _ d c.2 in
    let f = bind_ok (functions_section o.0.functions) _ d p.2 in
    let is : record { types = t.0; constants = c.0; predicates = p.0; functions = f.0; actions = o.0.actions } ≡ d = cc in
    let types = types_read o.0.types t.0 t.1 in
    subst AreDeclared is (record {
      types = types;
      constants = things_read t.0.names o.0.constants c.0 types.some c.1;
      predicates = predicates_even o.0.predicates p.0 p.1;
      functions = functions_even o.0.functions f.0 f.1;
    })
