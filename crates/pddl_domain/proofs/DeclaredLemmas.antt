-- What is read of an action and of a domain speaks of what the domain declares.
use Rattle.std.proofs.Common.{◌≡◌, ℕ, suc, zero, ◌+◌, ◌-◌, ◌<◌, ◌≤◌, Bool, true, false, cond, List, [], ◌∷◌, ◌++◌, Option, Some, None, Ok, length, take, replicate, refl, ap, subst, ◌∙◌, arith}
use Rattle.std.specs.Prelude.{codes}
use Rattle.std.specs.List.{AllByRecursion}
use Rattle.bd_base.specs.declared.text_err.Cause.TheVariants as cause
use Rattle.pddl_lex.specs.declared.sexp.Sexp.{Sexp}
use Rattle.pddl_form.specs.Fault.{◌>>=◌, needed}
use Rattle.pddl_form.specs.Trees.{Named, place_at, list_at, variable_at, is_word, must}
use Rattle.pddl_form.specs.Names.{place_of}
use Rattle.pddl_form.specs.Groups.{type_at}
use Rattle.pddl_form.specs.Things.{Table, no_rows, kind_at}
use Rattle.pddl_form.specs.Reserved.{declare_at}
use Rattle.pddl_domain.specs.Params.{is_fresh, settle, named_too, settled_at, param_at, params_from, params_at}
use Rattle.pddl_form.proofs.Laws.{bind_ok}
use Rattle.pddl_form.proofs.Laws.{declare_back}
use Rattle.pddl_form.proofs.Laws.{length_more}
use Rattle.pddl_form.proofs.RangeLemmas.{place_below}
use Rattle.pddl_form.proofs.RangeLemmas.{IsTable}

take_all : {X : Type 0} (n : ℕ) (xs : List X) → length xs ≤ n → take n xs ≡ xs
take_all zero [] l = refl
take_all zero (x ∷ xs) l = absurd (omega (arith, l))
take_all (suc n) [] l = refl
take_all (suc n) (x ∷ xs) l = ap (λ (ys : List _). x ∷ ys) (take_all n xs (omega (arith, l)))

length_append : {X : Type 0} (xs ys : List X) → length (xs ++ ys) ≡ length xs + length ys
length_append [] ys = omega arith
length_append (x ∷ xs) ys = let h = length_append xs ys in omega (arith, h)

length_same : {X : Type 0} (n : ℕ) (x : X) → length (replicate n x) ≡ n
length_same zero x = refl
length_same (suc n) x = ap (λ (m : ℕ). suc m) (length_same n x)

all_append : {X : Type 0} (P : X → Type 0) (xs ys : List X) → AllByRecursion P xs → AllByRecursion P ys → AllByRecursion P (xs ++ ys)
all_append P [] ys h k = k
all_append P (x ∷ xs) ys h k = (h.0, all_append P xs ys h.1 k)

all_same : {X : Type 0} (P : X → Type 0) (n : ℕ) (x : X) → P x → AllByRecursion P (replicate n x)
all_same P zero x p = tt
all_same P (suc n) x p = (p, all_same P n x p)

-- the numbers are those of types, and no more than the names
record ArePartly (types : List (List ℕ)) (table : Table) : Type 0 where
  few : length table.numbers ≤ length table.names
  kinds : AllByRecursion (λ k. k < length types) table.numbers

pub record AreParams (types : List (List ℕ)) (table : Table) : Type 0 where
  pub all : IsTable table
  pub kinds : AllByRecursion (λ k. k < length types) table.numbers

settled_in : (types : List (List ℕ)) (kind : ℕ) (table : Table) → kind < length types → ArePartly types table → AreParams types (settle kind table)
settled_in types kind table b h =
    let n : ℕ = length table.names - length table.numbers in
    let whole : take (length table.names) table.numbers ≡ table.numbers = take_all (length table.names) table.numbers h.few in
    let rest = length_same n kind in
    let P : List ℕ → Type 0 = AllByRecursion (λ k. k < length types) in
    let both : P (table.numbers ++ replicate n kind) = all_append (λ k. k < length types) table.numbers (replicate n kind) h.kinds (all_same (λ k. k < length types) n kind b) in
    record {
      all = rw whole (omega (arith, length_append table.numbers (replicate n kind), rest, h.few));
      kinds = rw whole both;
    }

partly : (types : List (List ℕ)) (table : Table) → AreParams types table → ArePartly types table
partly types table h = record { few = omega (arith, h.all); kinds = h.kinds }

kind_below : (types : List (List ℕ)) (w : Named) (r : Option ℕ) (k : ℕ) → place_of w.1 types ≡ r → needed (w.0, cause.Unknown w.1) r ≡ Ok k → k < length types
kind_below types w None k p e = cc
kind_below types w (Some i) k p e = let is : i ≡ k = cc in let l = place_below w.1 types i p in omega (arith, l, is)

settled_back : (types : List (List ℕ)) (tree : Sexp) (table more : Table) → settled_at types tree table ≡ Ok more → ArePartly types table → ArePartly types more
settled_back types tree table more e h =
    let w = bind_ok (type_at tree) _ more e in
    let k = bind_ok (kind_at types (Some w.0)) (λ kind. Ok (settle kind table)) more w.2 in
    let is : settle k.0 table ≡ more = cc in
    subst (ArePartly types) is (partly types (settle k.0 table) (settled_in types k.0 table (kind_below types w.0 (place_of w.0.1 types) k.0 refl k.1) h))

declared_more : (w : Named) (names more : List (List ℕ)) → declare_at w names ≡ Ok more → more ≡ names ++ w.1 ∷ []
declared_more w names more e = (declare_back _ (w.0, cause.Clash w.1) (names ++ w.1 ∷ []) more e).1

named_back : (types : List (List ℕ)) (tree : Sexp) (table more : Table) → param_at tree table ≡ Ok more → ArePartly types table → ArePartly types more
named_back types tree table more e h =
    let w = bind_ok (variable_at tree) (λ w. named_too w table) more e in
    let n = bind_ok (declare_at w.0 table.names) (λ names. Ok (record { names = names; numbers = table.numbers })) more w.2 in
    let is : record { names = n.0; numbers = table.numbers } ≡ more = cc in
    let longer = ap (λ (l : List (List ℕ)). length l) (declared_more w.0 table.names n.0 n.1) ∙ length_more table.names w.0.1 in
    subst (ArePartly types) is (record { few = omega (arith, longer, h.few); kinds = h.kinds })

params_in : (types : List (List ℕ)) (place : ℕ) (waiting : Bool) (table : Table) (xs : List Sexp) (all : Table) → 0 < length types → params_from types place waiting table xs ≡ Ok all → ArePartly types table → AreParams types all
params_in types place true table [] all b e h = cc
params_in types place false table [] all b e h = let is : settle 0 table ≡ all = cc in subst (AreParams types) is (settled_in types 0 table b h)
params_in types place true table (x ∷ xs) all b e h =
    let s = bind_ok (settled_at types x table) (λ more. params_from types place false more xs) all e in
    params_in types place false s.0 xs all b s.2 (settled_back types x table s.0 s.1 h)
params_in types place false table (x ∷ xs) all b e h = by_test (is_word (codes "-") x) (params_in types place true table xs all b) (λ more. params_in types place false more xs all b) e
  where
    by_test : (t : Bool) → (params_from types place true table xs ≡ Ok all → ArePartly types table → AreParams types all) → ((more : Table) → params_from types place false more xs ≡ Ok all → ArePartly types more → AreParams types all)
        → cond t (must (is_fresh table) (place_at x) >>= λ u. params_from types place true table xs) (param_at x table >>= λ more. params_from types place false more xs) ≡ Ok all → AreParams types all
    by_test true type name q = let m = bind_ok (must (is_fresh table) (place_at x)) (λ u. params_from types place true table xs) all q in type m.2 h
    by_test false type name q = let m = bind_ok (param_at x table) (λ more. params_from types place false more xs) all q in name m.0 m.2 (named_back types x table m.0 m.1 h)

pub params_are : (types : List (List ℕ)) (field : Option Sexp) (all : Table) → 0 < length types → params_at types field ≡ Ok all → AreParams types all
params_are types None all b e = let is : no_rows ≡ all = cc in subst (AreParams types) is (record { all = refl; kinds = tt })
params_are types (Some tree) all b e =
    let l = bind_ok (list_at tree) (λ l. params_from types l.0 false no_rows l.1) all e in
    params_in types l.0.0 false no_rows l.0.1 all b l.2 (record { few = omega arith; kinds = tt })
