-- Types that were read are a forest under `object`.
use Rattle.std.proofs.Common.{◌≡◌, ℕ, suc, zero, ◌<◌, ◌==◌, Bool, true, false, cond, List, [], ◌∷◌, ◌++◌, Option, Some, None, Ok, Err, length, refl, sym, ap, subst, ◌∙◌, arith, length-set}
use Rattle.std.specs.Prelude.{slice_get, slice_set}
use Rattle.bd_base.specs.declared.text_err.Cause.TheVariants as cause
use Rattle.pddl_types.specs.declared.domains.TypeDecl.{TypeDecl}
use Rattle.pddl_form.specs.Contract.{LeadsUp, at_object, leads_on, IsForest}
use Rattle.pddl_form.specs.Fault.{Fault}
use Rattle.pddl_form.specs.Trees.{Named, Headed}
use Rattle.pddl_form.specs.Names.{place_of}
use Rattle.pddl_form.specs.Groups.{Grouped, group, wrong, groups}
use Rattle.pddl_domain.specs.Types.{Types, only_object, mention_by, mention, mention_all, mention_kind, parent_at, reaches, give_by, give, give_all, type_group, types_from}
use Rattle.pddl_domain.specs.Domain.{types_section}
use Rattle.pddl_domain.specs.Whole.{parent_or_object, types_of}
use Rattle.pddl_form.proofs.Laws.{bind_ok, length_more}
use Rattle.pddl_form.proofs.RangeLemmas.{place_below}
use Rattle.pddl_domain.proofs.NewLemmas.{gives}
use Rattle.pddl_domain.proofs.EndLemmas.{Ends, ends_none, ends_step, set_ends, push_ends, one_ends}

-- a parent for each name or none, parents are types, and each chain of parents ends
pub record AreEnding (types : Types) : Type 0 where
  pub even : length types.names ≡ length types.parents
  pub ranged : (j p : ℕ) → parent_at types.parents j ≡ Some p → p < length types.names
  pub ends : (j : ℕ) → Ends types.parents (Some j)

pushed_parent : (ps : List (Option ℕ)) (j p : ℕ) → parent_at (ps ++ None ∷ []) j ≡ Some p → parent_at ps j ≡ Some p
pushed_parent [] zero p e = cc
pushed_parent [] (suc j) p e = cc
pushed_parent (x ∷ ps) zero p e = e
pushed_parent (x ∷ ps) (suc j) p e = pushed_parent ps j p e

-- a mentioned type is one of them
record IsMentioned (r : ℕ × Types) : Type 0 where
  below : r.0 < length r.1.names
  types : AreEnding r.1

mentioned : (r : Option ℕ) (name : List ℕ) (types : Types) → place_of name types.names ≡ r → AreEnding types → IsMentioned (mention_by r name types)
mentioned (Some i) name types p h = record { below = place_below name types.names i p; types = h }
mentioned None name types p h =
    let n = length_more types.names name in
    let m = length_more types.parents None in
    record {
      below = omega (arith, n);
      types = record {
        even = omega (arith, n, m, h.even);
        ranged = λ j p e. let l = h.ranged j p (pushed_parent types.parents j p e) in omega (arith, l, n);
        ends = λ j. push_ends types.parents (h.ends j);
      };
    }

all_mentioned : (done : List (Named × ℕ)) (ws : List Named) (types : Types) → AreEnding types → AreEnding (mention_all done ws types).1
all_mentioned done [] types h = h
all_mentioned done (w ∷ ws) types h =
    all_mentioned (done ++ (w, (mention w.1 types).0) ∷ []) ws (mention w.1 types).1 (mentioned (place_of w.1 types.names) w.1 types refl h).types

kind_mentioned : (kind : Option Named) (types : Types) → 0 < length types.names → AreEnding types → IsMentioned (mention_kind kind types)
kind_mentioned None types some h = record { below = some; types = h }
kind_mentioned (Some w) types some h = mentioned (place_of w.1 types.names) w.1 types refl h

set_ranged : (n : ℕ) (ps : List (Option ℕ)) (i k j p : ℕ) → k < n → parent_at (slice_set ps i (Some k)) j ≡ Some p → (parent_at ps j ≡ Some p → p < n) → p < n
set_ranged n [] i k j p b e h = h e
set_ranged n (x ∷ ps) zero k zero p b e h = let is : k ≡ p = cc in omega (arith, is, b)
set_ranged n (x ∷ ps) zero k (suc j) p b e h = h e
set_ranged n (x ∷ ps) (suc i) k zero p b e h = h e
set_ranged n (x ∷ ps) (suc i) k (suc j) p b e h = set_ranged n ps i k j p b e h

given : (r : Option ℕ) (w : Named) (i k : ℕ) (types more : Types) → parent_at types.parents i ≡ r → k < length types.names → give_by r w i k types ≡ Ok more → AreEnding types → AreEnding more
given (Some before) w i k types more root b e h = by_test (before == k) (w.0, cause.Clash w.1) e
  where
    by_test : (t : Bool) (f : Fault) → cond t (Ok types) (Err f) ≡ Ok more → AreEnding more
    by_test true f q = let is : types ≡ more = cc in subst AreEnding is h
    by_test false f q = cc
given None w i k types more root b e h = by_test (reaches types.parents types.parents i (Some k)) (w.0, cause.Clash w.1) refl e
  where
    by_test : (t : Bool) (f : Fault) → reaches types.parents types.parents i (Some k) ≡ t → cond t (Err f) (Ok (record { names = types.names; parents = slice_set types.parents i (Some k) })) ≡ Ok more → AreEnding more
    by_test true f r q = cc
    by_test false f r q =
        let is : record { names = types.names; parents = slice_set types.parents i (Some k) } ≡ more = cc in
        subst AreEnding is (record {
          even = h.even ∙ sym (length-set types.parents i (Some k));
          ranged = λ j p x. set_ranged (length types.names) types.parents i k j p b x (h.ranged j p);
          ends = set_ends types.parents i k root r h.ends;
        })

give_ends : (w : Named) (i k : ℕ) (types more : Types) → k < length types.names → give w i k types ≡ Ok more → AreEnding types → AreEnding more
give_ends w i k types more b e h = by_tests (i == 0) (k == 0) (w.0, cause.Clash w.1) e
  where
    by_tests : (s t : Bool) (f : Fault) → cond s (cond t (Ok types) (Err f)) (give_by (parent_at types.parents i) w i k types) ≡ Ok more → AreEnding more
    by_tests true true f q = let is : types ≡ more = cc in subst AreEnding is h
    by_tests true false f q = cc
    by_tests false t f q = given (parent_at types.parents i) w i k types more refl b q h

all_given : (k : ℕ) (ms : List (Named × ℕ)) (types more : Types) → k < length types.names → give_all k ms types ≡ Ok more → AreEnding types → AreEnding more × (k < length more.names)
all_given k [] types more b e h = let is : types ≡ more = cc in (subst AreEnding is h, subst (λ (t : Types). k < length t.names) is b)
all_given k (m ∷ ms) types more b e h =
    let g = bind_ok (give m.0 m.1 k types) (λ more. give_all k ms more) more e in
    all_given k ms g.0 more (subst (λ (l : List (List ℕ)). k < length l) (gives m.0 m.1 k types g.0 g.1) b) g.2 (give_ends m.0 m.1 k types g.0 b g.1 h)

types_end : (types : Types) (list : List Grouped) (all : Types) → 0 < length types.names → types_from types list ≡ Ok all → AreEnding types → AreEnding all
types_end types [] all some e h = let is : types ≡ all = cc in subst AreEnding is h
types_end types (wrong f ∷ gs) all some e h = cc
types_end types (group g ∷ gs) all some e h =
    let b = bind_ok (type_group g types) (λ more. types_from more gs) all e in
    let named = mention_all [] g.names types in
    let before = all_mentioned [] g.names types h in
    let m = kind_mentioned g.kind named.1 (more_names [] g.names types some) before in
    let kind = mention_kind g.kind named.1 in
    let r = all_given kind.0 named.0 kind.1 b.0 m.below b.1 m.types in
    types_end b.0 gs all (omega (arith, r.1)) b.2 r.0
  where
    longer : (r : Option ℕ) (name : List ℕ) (types : Types) → 0 < length types.names → 0 < length (mention_by r name types).1.names
    longer (Some i) name types l = l
    longer None name types l = let n = length_more types.names name in omega (arith, n)

    more_names : (done : List (Named × ℕ)) (ws : List Named) (types : Types) → 0 < length types.names → 0 < length (mention_all done ws types).1.names
    more_names done [] types l = l
    more_names done (w ∷ ws) types l = more_names (done ++ (w, (mention w.1 types).0) ∷ []) ws (mention w.1 types).1 (longer (place_of w.1 types.names) w.1 types l)

one_ranged : (j p : ℕ) → parent_at (None ∷ []) j ≡ Some p → p < 1
one_ranged zero p e = cc
one_ranged (suc j) p e = cc

only_ends : AreEnding only_object
only_ends = record { even = refl; ranged = one_ranged; ends = one_ends }

pub types_ending : (section : Option Headed) (types : Types) → types_section section ≡ Ok types → AreEnding types
types_ending None types e = let is : only_object ≡ types = cc in subst AreEnding is only_ends
types_ending (Some h) types e = types_end only_object (groups false h.place h.items) types (omega arith) e only_ends

-- as they stand in the domain

row_at : (names : List (List ℕ)) (parents : List (Option ℕ)) (k : ℕ) → length names ≡ length parents → k < length names
    → (n : List ℕ) × (slice_get (types_of names parents) k ≡ Some (record { name = n; parent = parent_or_object (parent_at parents k) }))
row_at [] parents k e b = absurd (omega (arith, b))
row_at (n ∷ names) [] k e b = absurd (omega (arith, e))
row_at (n ∷ names) (p ∷ parents) zero e b = (n, refl)
row_at (n ∷ names) (p ∷ parents) (suc k) e b = row_at names parents k (omega (arith, e)) (omega (arith, b))

up : (types : Types) → AreEnding types → (o : Option ℕ) → Ends types.parents o → (k : ℕ) → o ≡ Some k → k < length types.names → LeadsUp (types_of types.names types.parents) k
up types h o (ends_none e) k q b = cc
up types h o (ends_step j e more) k q b =
    let is : j ≡ k = cc in
    by_parent (parent_at types.parents k) refl (λ m p. up types h (parent_at types.parents j) more m (ap (λ (x : ℕ). parent_at types.parents x) is ∙ p))
  where
    all : List TypeDecl
    all = types_of types.names types.parents

    by_parent : (v : Option ℕ) → parent_at types.parents k ≡ v → ((m : ℕ) → parent_at types.parents k ≡ Some m → m < length types.names → LeadsUp all m) → LeadsUp all k
    by_parent None p rest =
        let r = row_at types.names types.parents k h.even b in
        leads_on (record { name = r.0; parent = parent_or_object (parent_at types.parents k) }) r.1 (at_object (ap parent_or_object p))
    by_parent (Some m) p rest =
        let r = row_at types.names types.parents k h.even b in
        let same : m ≡ parent_or_object (parent_at types.parents k) = sym (ap parent_or_object p) in
        leads_on (record { name = r.0; parent = parent_or_object (parent_at types.parents k) }) r.1 (subst (LeadsUp all) same (rest m p (h.ranged k m p)))

pub are_forest : (types : Types) → AreEnding types → length (types_of types.names types.parents) ≡ length types.names → IsForest (types_of types.names types.parents)
are_forest types h e = λ k b. up types h (Some k) (h.ends k) k refl (omega (arith, e, b))
