-- Types that are read are spelled: what naming a word and giving it a parent do, word by word and group by group.
use Rattle.std.proofs.Common.{◌≡◌, ◌⊎◌, inl, inr, ℕ, suc, zero, ◌<◌, ◌==◌, Bool, true, false, cond, List, [], ◌∷◌, ◌++◌, Option, Some, None, Ok, Err, length, map, refl, sym, ap, subst, ◌∙◌, arith, append_assoc, length-set}
use Rattle.std.specs.Prelude.{slice_set}
use Rattle.std.proofs.lemmas.List.{append-nil}
use Rattle.std.proofs.lemmas.Bool.Decides.{nat_tests}
use Rattle.bd_base.specs.declared.text_err.Cause.TheVariants as cause
use Rattle.pddl_lex.specs.declared.sexp.Sexp.{Sexp}
use Rattle.pddl_form.specs.Fault.{Fault}
use Rattle.pddl_form.specs.Trees.{Named, Headed}
use Rattle.pddl_form.specs.Names.{place_of, names_from}
use Rattle.pddl_form.specs.Groups.{Group, Grouped, group, wrong, groups}
use Rattle.pddl_form.specs.Spells.{IsKind}
use Rattle.pddl_form.proofs.Laws.{bind_ok, length_more}
use Rattle.pddl_form.proofs.NameLemmas.{absent}
use Rattle.pddl_form.proofs.RangeLemmas.{place_below}
use Rattle.pddl_form.proofs.TypedLemmas.{typed_back}
use Rattle.pddl_domain.specs.Types.{Types, only_object, mention_by, mention, mention_all, mention_kind, parent_at, reaches, give_by, give, give_all, type_group, types_from}
use Rattle.pddl_domain.proofs.EndLemmas.{Ends, ends_none, ends_step}
use Rattle.pddl_domain.proofs.ForestLemmas.{types_ending}
use Rattle.pddl_laws.specs.Params.{texts}
use Rattle.pddl_laws.specs.Types.{kind_text, mentions, StandsUnder, AreUnder, AllUnder, IsOne, Puts, EndsUp, ends_here, ends_above, SpellsTypes}
use Rattle.pddl_laws.proofs.PlaceLemmas.{place_last, place_kept, present, names_both}

abbrev pub IsEven : Types → Type 0
IsEven t = length t.names ≡ length t.parents

-- more names and more parents
pub record Grows (t u : Types) : Type 0 where
  pub names : (w : List ℕ) (i : ℕ) → place_of w t.names ≡ Some i → place_of w u.names ≡ Some i
  pub parents : (i k : ℕ) → parent_at t.parents i ≡ Some k → parent_at u.parents i ≡ Some k

grows_all : (t u v : Types) → Grows t u → Grows u v → Grows t v
grows_all t u v g h = record { names = λ w i e. h.names w i (g.names w i e); parents = λ i k e. h.parents i k (g.parents i k e) }

grows_same : (t u : Types) → t ≡ u → Grows t u
grows_same t u e = subst (Grows t) e (record { names = λ w i q. q; parents = λ i k q. q })

pushed : (ps : List (Option ℕ)) (j : ℕ) → parent_at (ps ++ None ∷ []) j ≡ parent_at ps j
pushed [] zero = refl
pushed [] (suc j) = refl
pushed (x ∷ ps) zero = refl
pushed (x ∷ ps) (suc j) = pushed ps j

-- one word is named

pub record Names (name : List ℕ) (t u : Types) (i : ℕ) : Type 0 where
  pub place : place_of name u.names ≡ Some i
  pub names : u.names ≡ names_from t.names (name ∷ [])
  pub grows : Grows t u
  pub old : (j k : ℕ) → parent_at u.parents j ≡ Some k → parent_at t.parents j ≡ Some k
  pub even : IsEven u

named : (r : Option ℕ) (name : List ℕ) (t : Types) → place_of name t.names ≡ r → IsEven t → Names name t (mention_by r name t).1 (mention_by r name t).0
named (Some i) name t p e = record { place = p; names = rw (present name t.names i p) refl; grows = grows_same t t refl; old = λ j k q. q; even = e }
named None name t p e =
    let a = length_more t.names name in
    let b = length_more t.parents None in
    record {
      place = place_last name t.names p;
      names = rw (absent name t.names p) refl;
      grows = record { names = λ w i q. place_kept w t.names (name ∷ []) i q; parents = λ i k q. pushed t.parents i ∙ q };
      old = λ j k q. sym (pushed t.parents j) ∙ q;
      even = omega (arith, a, b, e);
    }

-- the numbers of words
abbrev pub AreNumbered : List (List ℕ) → List Named → List (Named × ℕ) → Type 0
AreNumbered names [] [] = Unit {0}
AreNumbered names [] (m ∷ ms) = ⊥
AreNumbered names (w ∷ ws) [] = ⊥
AreNumbered names (w ∷ ws) (m ∷ ms) = (place_of w.1 names ≡ Some m.1) × AreNumbered names ws ms

pub record NamesAll (done : List (Named × ℕ)) (ws : List Named) (t : Types) (r : List (Named × ℕ) × Types) : Type 0 where
  pub pairs : List (Named × ℕ)
  pub whole : r.0 ≡ done ++ pairs
  pub are : AreNumbered r.1.names ws pairs
  pub names : r.1.names ≡ names_from t.names (texts ws)
  pub grows : Grows t r.1
  pub old : (j k : ℕ) → parent_at r.1.parents j ≡ Some k → parent_at t.parents j ≡ Some k
  pub even : IsEven r.1

pub all_named : (done : List (Named × ℕ)) (ws : List Named) (t : Types) → IsEven t → NamesAll done ws t (mention_all done ws t)
all_named done [] t e = record { pairs = []; whole = sym (append-nil done); are = tt; names = refl; grows = grows_same t t refl; old = λ j k q. q; even = e }
all_named done (w ∷ ws) t e =
    let n = named (place_of w.1 t.names) w.1 t refl e in
    let next : Types = (mention w.1 t).1 in
    let pair : Named × ℕ = (w, (mention w.1 t).0) in
    let r = all_named (done ++ pair ∷ []) ws next n.even in
    record {
      pairs = pair ∷ r.pairs;
      whole = r.whole ∙ append_assoc done (pair ∷ []) r.pairs;
      are = (r.grows.names w.1 pair.1 n.place, r.are);
      names = r.names ∙ ap (λ (l : List (List ℕ)). names_from l (texts ws)) n.names;
      grows = grows_all t next (mention_all (done ++ pair ∷ []) ws next).1 n.grows r.grows;
      old = λ j k q. n.old j k (r.old j k q);
      even = r.even;
    }

pub record NamesKind (kind : Option Named) (t : Types) (r : ℕ × Types) : Type 0 where
  pub is : IsKind r.1.names kind r.0
  pub names : r.1.names ≡ names_from t.names (kind_text kind)
  pub grows : Grows t r.1
  pub old : (j k : ℕ) → parent_at r.1.parents j ≡ Some k → parent_at t.parents j ≡ Some k
  pub even : IsEven r.1

pub kind_named : (kind : Option Named) (t : Types) → IsEven t → NamesKind kind t (mention_kind kind t)
kind_named None t e = record { is = refl; names = refl; grows = grows_same t t refl; old = λ j k q. q; even = e }
kind_named (Some w) t e =
    let n = named (place_of w.1 t.names) w.1 t refl e in
    record { is = n.place; names = n.names; grows = n.grows; old = n.old; even = n.even }

-- one type is given a parent

pub set_is : (xs : List (Option ℕ)) (i k j u : ℕ) → parent_at (slice_set xs i (Some k)) j ≡ Some u → ((j ≡ i) × (u ≡ k)) ⊎ (parent_at xs j ≡ Some u)
set_is [] i k j u e = inr e
set_is (x ∷ xs) zero k zero u e = inl (refl, cc)
set_is (x ∷ xs) zero k (suc j) u e = inr e
set_is (x ∷ xs) (suc i) k zero u e = inr e
set_is (x ∷ xs) (suc i) k (suc j) u e = by_case (set_is xs i k j u e)
  where
    by_case : ((j ≡ i) × (u ≡ k)) ⊎ (parent_at xs j ≡ Some u) → ((suc j ≡ suc i) × (u ≡ k)) ⊎ (parent_at xs j ≡ Some u)
    by_case (inl b) = inl (ap suc b.0, b.1)
    by_case (inr r) = inr r

set_at : (xs : List (Option ℕ)) (i k : ℕ) → i < length xs → parent_at (slice_set xs i (Some k)) i ≡ Some k
set_at [] i k l = absurd (omega (arith, l))
set_at (x ∷ xs) zero k l = refl
set_at (x ∷ xs) (suc i) k l = set_at xs i k (omega (arith, l))

set_old : (xs : List (Option ℕ)) (i k j u : ℕ) → parent_at xs i ≡ None → parent_at xs j ≡ Some u → parent_at (slice_set xs i (Some k)) j ≡ Some u
set_old [] i k j u n e = e
set_old (x ∷ xs) zero k zero u n e = let clash : None ≡ Some u = sym n ∙ e in cc
set_old (x ∷ xs) zero k (suc j) u n e = e
set_old (x ∷ xs) (suc i) k zero u n e = e
set_old (x ∷ xs) (suc i) k (suc j) u n e = set_old xs i k j u n e

not_zero : (i : ℕ) → (suc i == 0) ≡ false
not_zero i = grind (arith, nat_tests)

give_zero : (w : Named) (k : ℕ) (t : Types) → give w 0 k t ≡ cond (k == 0) (Ok t) (Err (w.0, cause.Clash w.1))
give_zero w k t = refl

pub give_suc : (w : Named) (i k : ℕ) (t : Types) → give w (suc i) k t ≡ give_by (parent_at t.parents (suc i)) w (suc i) k t
give_suc w i k t = ap (λ (b : Bool). cond b (cond (k == 0) (Ok t) (Err (w.0, cause.Clash w.1))) (give_by (parent_at t.parents (suc i)) w (suc i) k t)) (not_zero i)

by_set : (t : Types) (i k j m : ℕ) → ((j ≡ i) × (m ≡ k)) ⊎ (parent_at t.parents j ≡ Some m) → (parent_at t.parents j ≡ Some m) ⊎ ((j ≡ i) × (m ≡ k))
by_set t i k j m (inl y) = inr y
by_set t i k j m (inr y) = inl y

pub record Gave (i k : ℕ) (t u : Types) : Type 0 where
  pub names : u.names ≡ t.names
  pub under : StandsUnder u.parents i k
  pub parents : (j p : ℕ) → parent_at t.parents j ≡ Some p → parent_at u.parents j ≡ Some p
  pub old : (j p : ℕ) → parent_at u.parents j ≡ Some p → (parent_at t.parents j ≡ Some p) ⊎ ((j ≡ i) × (p ≡ k))
  pub even : IsEven u

same_given : (i k : ℕ) (t u : Types) → StandsUnder t.parents i k → IsEven t → t ≡ u → Gave i k t u
same_given i k t u s e q = subst (Gave i k t) q (record { names = refl; under = s; parents = λ j p x. x; old = λ j p x. inl x; even = e })

gave : (w : Named) (i k : ℕ) (t u : Types) → i < length t.parents → IsEven t → give w i k t ≡ Ok u → Gave i k t u
gave w zero k t u l e q = by_test (k == 0) (w.0, cause.Clash w.1) refl (sym (give_zero w k t) ∙ q)
  where
    by_test : (b : Bool) (f : Fault) → (k == 0) ≡ b → cond b (Ok t) (Err f) ≡ Ok u → Gave zero k t u
    by_test true f z x = let is : t ≡ u = cc in let none : k ≡ 0 = grind (arith, nat_tests) in same_given zero k t u none e is
    by_test false f z x = cc
gave w (suc i) k t u l e q = by_parent (parent_at t.parents (suc i)) refl (sym (give_suc w i k t) ∙ q)
  where
    by_same : (before : ℕ) (b : Bool) (f : Fault) → parent_at t.parents (suc i) ≡ Some before → (before == k) ≡ b → cond b (Ok t) (Err f) ≡ Ok u → Gave (suc i) k t u
    by_same before true f p z x = let is : t ≡ u = cc in let same : before ≡ k = grind (arith, nat_tests) in same_given (suc i) k t u (p ∙ ap (λ (n : ℕ). Some n) same) e is
    by_same before false f p z x = cc

    by_new : (b : Bool) (f : Fault) → parent_at t.parents (suc i) ≡ None → cond b (Err f) (Ok (record { names = t.names; parents = slice_set t.parents (suc i) (Some k) })) ≡ Ok u → Gave (suc i) k t u
    by_new true f p x = cc
    by_new false f p x =
        let is : record { names = t.names; parents = slice_set t.parents (suc i) (Some k) } ≡ u = cc in
        subst (Gave (suc i) k t) is (record {
          names = refl;
          under = set_at t.parents (suc i) k l;
          parents = λ j m y. set_old t.parents (suc i) k j m p y;
          old = λ j m y. by_set t (suc i) k j m (set_is t.parents (suc i) k j m y);
          even = e ∙ sym (length-set t.parents (suc i) (Some k));
        })

    by_parent : (r : Option ℕ) → parent_at t.parents (suc i) ≡ r → give_by r w (suc i) k t ≡ Ok u → Gave (suc i) k t u
    by_parent (Some before) p x = by_same before (before == k) (w.0, cause.Clash w.1) p refl x
    by_parent None p x = by_new (reaches t.parents t.parents (suc i) (Some k)) (w.0, cause.Clash w.1) p x

-- what holds stays as types grow

under_grows : (ps qs : List (Option ℕ)) (i k : ℕ) → ((j p : ℕ) → parent_at ps j ≡ Some p → parent_at qs j ≡ Some p) → StandsUnder ps i k → StandsUnder qs i k
under_grows ps qs zero k h s = s
under_grows ps qs (suc i) k h s = h (suc i) k s

are_under_grow : (t u : Types) (k : ℕ) (ws : List Named) → Grows t u → AreUnder t k ws → AreUnder u k ws
are_under_grow t u k [] g h = tt
are_under_grow t u k (w ∷ ws) g h = ((h.0.0, g.names w.1 h.0.0 h.0.1, under_grows t.parents u.parents h.0.0 k g.parents h.0.2), are_under_grow t u k ws g h.1)

kind_grows : (t u : Types) (kind : Option Named) (k : ℕ) → Grows t u → IsKind t.names kind k → IsKind u.names kind k
kind_grows t u None k g h = h
kind_grows t u (Some w) k g h = g.names w.1 k h

one_grows : (t u : Types) (i : ℕ) (ws : List Named) → Grows t u → IsOne t.names i ws → IsOne u.names i ws
one_grows t u i [] g h = absurd h
one_grows t u i (w ∷ ws) g (inl e) = inl (g.names w.1 i e)
one_grows t u i (w ∷ ws) g (inr h) = inr (one_grows t u i ws g h)

pub record GaveAll (k : ℕ) (ws : List Named) (t u : Types) : Type 0 where
  pub names : u.names ≡ t.names
  pub under : AreUnder u k ws
  pub grows : Grows t u
  pub old : (j p : ℕ) → parent_at u.parents j ≡ Some p → (parent_at t.parents j ≡ Some p) ⊎ ((p ≡ k) × IsOne u.names j ws)
  pub even : IsEven u

grows_by : (t u : Types) → u.names ≡ t.names → ((j p : ℕ) → parent_at t.parents j ≡ Some p → parent_at u.parents j ≡ Some p) → Grows t u
grows_by t u n h = record { names = λ w i e. subst (λ (l : List (List ℕ)). place_of w l ≡ Some i) (sym n) e; parents = h }

pub all_gave : (k : ℕ) (ws : List Named) (ms : List (Named × ℕ)) (t u : Types) → AreNumbered t.names ws ms → IsEven t → give_all k ms t ≡ Ok u → GaveAll k ws t u
all_gave k [] [] t u n e q = let is : t ≡ u = cc in subst (GaveAll k [] t) is (record { names = refl; under = tt; grows = grows_same t t refl; old = λ j p x. inl x; even = e })
all_gave k [] (m ∷ ms) t u n e q = absurd n
all_gave k (w ∷ ws) [] t u n e q = absurd n
all_gave k (w ∷ ws) (m ∷ ms) t u n e q =
    let b = bind_ok (give m.0 m.1 k t) (λ more. give_all k ms more) u q in
    let l = place_below w.1 t.names m.1 n.0 in
    let g = gave m.0 m.1 k t b.0 (omega (arith, l, e)) e b.1 in
    let first : Grows t b.0 = grows_by t b.0 g.names g.parents in
    let r = all_gave k ws ms b.0 u (subst (λ (l : List (List ℕ)). AreNumbered l ws ms) (sym g.names) n.1) g.even b.2 in
    let there : place_of w.1 u.names ≡ Some m.1 = r.grows.names w.1 m.1 (first.names w.1 m.1 n.0) in
    record {
      names = r.names ∙ g.names;
      under = ((m.1, there, under_grows b.0.parents u.parents m.1 k r.grows.parents g.under), r.under);
      grows = grows_all t b.0 u first r.grows;
      old = λ j p x. by_rest m.1 b.0 there g.old j p (r.old j p x);
      even = r.even;
    }
  where
    by_first : (i : ℕ) → place_of w.1 u.names ≡ Some i → (j p : ℕ) → (parent_at t.parents j ≡ Some p) ⊎ ((j ≡ i) × (p ≡ k)) → (parent_at t.parents j ≡ Some p) ⊎ ((p ≡ k) × IsOne u.names j (w ∷ ws))
    by_first i there j p (inl x) = inl x
    by_first i there j p (inr x) = inr (x.1, inl (there ∙ ap (λ (n : ℕ). Some n) (sym x.0)))

    by_rest : (i : ℕ) (b : Types) → place_of w.1 u.names ≡ Some i → ((j p : ℕ) → parent_at b.parents j ≡ Some p → (parent_at t.parents j ≡ Some p) ⊎ ((j ≡ i) × (p ≡ k)))
        → (j p : ℕ) → (parent_at b.parents j ≡ Some p) ⊎ ((p ≡ k) × IsOne u.names j ws) → (parent_at t.parents j ≡ Some p) ⊎ ((p ≡ k) × IsOne u.names j (w ∷ ws))
    by_rest i b there h j p (inl x) = by_first i there j p (h j p x)
    by_rest i b there h j p (inr x) = inr (x.0, inr x.1)

-- all groups

pub record GaveGroups (gs : List Group) (t u : Types) : Type 0 where
  pub names : u.names ≡ names_from t.names (mentions gs)
  pub under : AllUnder u gs
  pub grows : Grows t u
  pub old : (j p : ℕ) → parent_at u.parents j ≡ Some p → (parent_at t.parents j ≡ Some p) ⊎ Puts u gs j p
  pub even : IsEven u

pub groups_gave : (gs : List Group) (t u : Types) → IsEven t → types_from t (map group gs) ≡ Ok u → GaveGroups gs t u
groups_gave [] t u e q = let is : t ≡ u = cc in subst (GaveGroups [] t) is (record { names = refl; under = tt; grows = grows_same t t refl; old = λ j p x. inl x; even = e })
groups_gave (g ∷ gs) t u e q =
    let b = bind_ok (type_group g t) (λ more. types_from more (map group gs)) u q in
    let a = all_named [] g.names t e in
    let after : Types = (mention_all [] g.names t).1 in
    let c = kind_named g.kind after a.even in
    let kind : ℕ × Types = mention_kind g.kind after in
    let numbered : AreNumbered kind.1.names g.names (mention_all [] g.names t).0 = subst (AreNumbered kind.1.names g.names) (sym a.whole) (numbers_grow after kind.1 g.names a.pairs c.grows a.are) in
    let d = all_gave kind.0 g.names (mention_all [] g.names t).0 kind.1 b.0 numbered c.even b.1 in
    let r = groups_gave gs b.0 u d.even b.2 in
    let front : Grows t b.0 = grows_all t after b.0 a.grows (grows_all after kind.1 b.0 c.grows d.grows) in
    let known : IsKind u.names g.kind kind.0 = kind_grows kind.1 u g.kind kind.0 (grows_all kind.1 b.0 u d.grows r.grows) c.is in
    record {
      names = r.names ∙ ap (λ (l : List (List ℕ)). names_from l (mentions gs)) (d.names ∙ c.names ∙ ap (λ (l : List (List ℕ)). names_from l (kind_text g.kind)) a.names)
          ∙ sym (names_both t.names (texts g.names) (kind_text g.kind ++ mentions gs) ∙ names_both (names_from t.names (texts g.names)) (kind_text g.kind) (mentions gs));
      under = ((kind.0, known, are_under_grow b.0 u kind.0 g.names r.grows d.under), r.under);
      grows = grows_all t b.0 u front r.grows;
      old = λ j p x. by_rest b.0 kind.0 known (λ i m y. by_group kind.1 b.0 kind.0 (λ i2 m2 z. a.old i2 m2 (c.old i2 m2 z)) r.grows i m (d.old i m y)) j p (r.old j p x);
      even = r.even;
    }
  where
    numbers_grow : (t u : Types) (ws : List Named) (ms : List (Named × ℕ)) → Grows t u → AreNumbered t.names ws ms → AreNumbered u.names ws ms
    numbers_grow t u [] [] g h = tt
    numbers_grow t u [] (m ∷ ms) g h = absurd h
    numbers_grow t u (w ∷ ws) [] g h = absurd h
    numbers_grow t u (w ∷ ws) (m ∷ ms) g h = (g.names w.1 m.1 h.0, numbers_grow t u ws ms g h.1)

    by_group : (kinds b : Types) (k : ℕ) → ((i m : ℕ) → parent_at kinds.parents i ≡ Some m → parent_at t.parents i ≡ Some m) → Grows b u
        → (i m : ℕ) → (parent_at kinds.parents i ≡ Some m) ⊎ ((m ≡ k) × IsOne b.names i g.names) → (parent_at t.parents i ≡ Some m) ⊎ ((m ≡ k) × IsOne u.names i g.names)
    by_group kinds b k h grow i m (inl x) = inl (h i m x)
    by_group kinds b k h grow i m (inr x) = inr (x.0, one_grows b u i g.names grow x.1)

    by_old : (k : ℕ) → IsKind u.names g.kind k → (j p : ℕ) → (parent_at t.parents j ≡ Some p) ⊎ ((p ≡ k) × IsOne u.names j g.names) → (parent_at t.parents j ≡ Some p) ⊎ Puts u (g ∷ gs) j p
    by_old k known j p (inl y) = inl y
    by_old k known j p (inr y) = inr (inl (subst (λ (n : ℕ). IsKind u.names g.kind n) (sym y.0) known, y.1))

    by_rest : (b : Types) (k : ℕ) → IsKind u.names g.kind k → ((i m : ℕ) → parent_at b.parents i ≡ Some m → (parent_at t.parents i ≡ Some m) ⊎ ((m ≡ k) × IsOne u.names i g.names))
        → (j p : ℕ) → (parent_at b.parents j ≡ Some p) ⊎ Puts u gs j p → (parent_at t.parents j ≡ Some p) ⊎ Puts u (g ∷ gs) j p
    by_rest b k known h j p (inr x) = inr (inr x)
    by_rest b k known h j p (inl x) = by_old k known j p (h j p x)

-- no cycle

ends_of : {ps : List (Option ℕ)} {o : Option ℕ} → Ends ps o → (j : ℕ) → o ≡ Some j → EndsUp ps j
ends_of (ends_none e) j q = cc
ends_of {ps} (ends_step k e more) j q =
    let is : k ≡ j = cc in
    subst (EndsUp ps) is (by_parent (parent_at ps k) refl (λ p x. ends_of more p x))
  where
    by_parent : (v : Option ℕ) → parent_at ps k ≡ v → ((p : ℕ) → parent_at ps k ≡ Some p → EndsUp ps p) → EndsUp ps k
    by_parent None x rest = ends_here x
    by_parent (Some p) x rest = ends_above p x (rest p x)

pub none_first : (j k : ℕ) → parent_at (None ∷ []) j ≡ Some k → ⊥
none_first zero k e = cc
none_first (suc j) k e = cc

all_groups : (t : Types) (list : List Grouped) (all : Types) → types_from t list ≡ Ok all → (gs : List Group) × (list ≡ map group gs)
all_groups t [] all e = ([], refl)
all_groups t (wrong f ∷ list) all e = cc
all_groups t (group g ∷ list) all e =
    let b = bind_ok (type_group g t) (λ more. types_from more list) all e in
    let r = all_groups b.0 list all b.2 in
    (g ∷ r.0, ap (λ (l : List Grouped). group g ∷ l) r.1)

pub types_spelled : (place : ℕ) (items : List Sexp) (t : Types) → types_from only_object (groups false place items) ≡ Ok t → SpellsTypes items t
types_spelled place items t e =
    let g = all_groups only_object (groups false place items) t e in
    let read : types_from only_object (map group g.0) ≡ Ok t = subst (λ (l : List Grouped). types_from only_object l ≡ Ok t) g.1 e in
    let r = groups_gave g.0 only_object t refl read in
    let section : Headed = record { place = place; head = (place, []); items = items } in
    let ends = types_ending (Some section) t e in
    record {
      groups = g.0;
      typed = typed_back false place items g.0 g.1;
      names = r.names;
      even = r.even;
      under = r.under;
      only = λ i k x. by_case g.0 i k (r.old i k x);
      ends = λ i. ends_of (ends.ends i) i refl;
    }
  where
    by_case : (gs : List Group) (i k : ℕ) → (parent_at (None ∷ []) i ≡ Some k) ⊎ Puts t gs i k → Puts t gs i k
    by_case gs i k (inl x) = absurd (none_first i k x)
    by_case gs i k (inr x) = x
