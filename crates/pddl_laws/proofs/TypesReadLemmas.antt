-- Types that are spelled are read: those that come by the groups in turn are the ones that the relation names.
use Rattle.std.proofs.Common.{◌≡◌, ◌⊎◌, inl, inr, ℕ, suc, zero, ◌==◌, ◌||◌, Bool, true, false, List, [], ◌∷◌, ◌++◌, Option, Some, None, Ok, length, map, refl, sym, ap, subst, ◌∙◌, arith}
use Rattle.std.specs.Prelude.{slice_set}
use Rattle.std.proofs.lemmas.Bool.Decides.{nat_tests}
use Rattle.pddl_lex.specs.declared.sexp.Sexp.{Sexp}
use Rattle.pddl_form.specs.Trees.{Named}
use Rattle.pddl_form.specs.Names.{place_of, names_from}
use Rattle.pddl_form.specs.Groups.{Group, group, groups}
use Rattle.pddl_form.specs.Spells.{IsKind}
use Rattle.pddl_form.proofs.TypedLemmas.{typed_read}
use Rattle.pddl_domain.specs.Types.{Types, only_object, mention_all, mention_kind, parent_at, reaches, give_by, give, give_all, types_from}
use Rattle.pddl_laws.specs.Params.{texts}
use Rattle.pddl_laws.specs.Types.{kind_text, mentions, StandsUnder, AreUnder, AllUnder, IsOne, Puts, EndsUp, ends_here, ends_above, SpellsTypes}
use Rattle.pddl_laws.proofs.PlaceLemmas.{names_both, names_kept}
use Rattle.pddl_laws.proofs.TypesLemmas.{IsEven, Grows, AreNumbered, all_named, kind_named, set_is, give_suc, none_first, all_gave, groups_gave}

data Above : List (Option ℕ) → ℕ → ℕ → Type 0 where
  above_self : {ps : List (Option ℕ)} {k r : ℕ} → k ≡ r → Above ps k r
  above_step : {ps : List (Option ℕ)} {k r : ℕ} (p : ℕ) → parent_at ps k ≡ Some p → Above ps p r → Above ps k r

above_one : {ps : List (Option ℕ)} {k i m : ℕ} → Above ps k i → parent_at ps i ≡ Some m → Above ps k m
above_one {ps} {k} {i} {m} (above_self e) q = above_step m (ap (λ (x : ℕ). parent_at ps x) e ∙ q) (above_self refl)
above_one (above_step p e more) q = above_step p e (above_one more q)

-- a chain that ends has no cycle
no_cycle : {A : Type 0} {ps : List (Option ℕ)} {k : ℕ} (i : ℕ) → EndsUp ps k → Above ps k i → parent_at ps i ≡ Some k → A
no_cycle {A} {ps} {k} i (ends_here n) (above_self e) q = let clash : Some k ≡ None = sym q ∙ ap (λ (x : ℕ). parent_at ps x) (sym e) ∙ n in cc
no_cycle {A} {ps} {k} i (ends_here n) (above_step p e more) q = let clash : None ≡ Some p = sym n ∙ e in cc
no_cycle {A} {ps} {k} i (ends_above p n up) (above_self e) q =
    let same : Some p ≡ Some k = sym n ∙ ap (λ (x : ℕ). parent_at ps x) e ∙ q in
    let is : p ≡ k = cc in
    no_cycle k up (above_self is) n
no_cycle {A} {ps} {k} i (ends_above p n up) (above_step m e more) q =
    let same : Some p ≡ Some m = sym n ∙ e in
    let is : m ≡ p = cc in
    no_cycle k up (above_one (subst (λ (x : ℕ). Above ps x i) is more) q) n

reached : (steps ps qs : List (Option ℕ)) (i k : ℕ) → ((j p : ℕ) → parent_at ps j ≡ Some p → parent_at qs j ≡ Some p) → reaches steps ps i (Some k) ≡ true → Above qs k i
reached [] ps qs i k h e = let is : k ≡ i = grind (arith, nat_tests) in above_self is
reached (s ∷ steps) ps qs i k h e = by_test (k == i) refl e (λ m. reached steps ps qs i m h)
  where
    by_parent : (v : Option ℕ) → parent_at ps k ≡ v → reaches steps ps i v ≡ true → ((m : ℕ) → reaches steps ps i (Some m) ≡ true → Above qs m i) → Above qs k i
    by_parent None p x ih = cc
    by_parent (Some m) p x ih = above_step m (h k m p) (ih m x)

    by_test : (b : Bool) → (k == i) ≡ b → (b || reaches steps ps i (parent_at ps k)) ≡ true → ((m : ℕ) → reaches steps ps i (Some m) ≡ true → Above qs m i) → Above qs k i
    by_test true p x ih = let is : k ≡ i = grind (arith, nat_tests) in above_self is
    by_test false p x ih = by_parent (parent_at ps k) refl x ih

-- each parent is one of the other's
abbrev Within : Types → Types → Type 0
Within t f = (j p : ℕ) → parent_at t.parents j ≡ Some p → parent_at f.parents j ≡ Some p

same_test : (n : ℕ) → (n == n) ≡ true
same_test n = grind (arith, nat_tests)

give_read : (f : Types) → ((i : ℕ) → EndsUp f.parents i) → (w : Named) (i k : ℕ) (t : Types) → Within t f → StandsUnder f.parents i k → (u : Types) × (give w i k t ≡ Ok u) × Within u f
give_read f ends w zero k t h s = (t, rw s refl, h)
give_read f ends w (suc i) k t h s = whole (parent_at t.parents (suc i)) (by_parent (parent_at t.parents (suc i)) refl) refl
  where
    by_reach : (b : Bool) → reaches t.parents t.parents (suc i) (Some k) ≡ b → b ≡ false
    by_reach true x = no_cycle (suc i) (ends k) (reached t.parents t.parents f.parents (suc i) k h x) s
    by_reach false x = refl

    by_case : (j p : ℕ) → ((j ≡ suc i) × (p ≡ k)) ⊎ (parent_at t.parents j ≡ Some p) → parent_at f.parents j ≡ Some p
    by_case j p (inl y) = ap (λ (n : ℕ). parent_at f.parents n) y.0 ∙ s ∙ ap (λ (n : ℕ). Some n) (sym y.1)
    by_case j p (inr y) = h j p y

    within_set : Within (record { names = t.names; parents = slice_set t.parents (suc i) (Some k) }) f
    within_set = λ j p x. by_case j p (set_is t.parents (suc i) k j p x)

    by_parent : (r : Option ℕ) → parent_at t.parents (suc i) ≡ r → (u : Types) × (give_by r w (suc i) k t ≡ Ok u) × Within u f
    by_parent (Some before) p =
        let same : Some before ≡ Some k = sym (h (suc i) before p) ∙ s in
        let is : before ≡ k = cc in
        (t, rw (is, same_test k) refl, h)
    by_parent None p = (record { names = t.names; parents = slice_set t.parents (suc i) (Some k) }, rw (by_reach (reaches t.parents t.parents (suc i) (Some k)) refl) refl, within_set)

    whole : (r : Option ℕ) → (u : Types) × (give_by r w (suc i) k t ≡ Ok u) × Within u f → r ≡ parent_at t.parents (suc i) → (u : Types) × (give w (suc i) k t ≡ Ok u) × Within u f
    whole r b e = (b.0, give_suc w i k t ∙ ap (λ (o : Option ℕ). give_by o w (suc i) k t) (sym e) ∙ b.1, b.2)

-- the numbers of words, and where these types stand
abbrev AreSet : Types → ℕ → List (Named × ℕ) → Type 0
AreSet f k [] = Unit {0}
AreSet f k (m ∷ ms) = StandsUnder f.parents m.1 k × AreSet f k ms

all_read : (f : Types) → ((i : ℕ) → EndsUp f.parents i) → (k : ℕ) (ms : List (Named × ℕ)) (t : Types) → Within t f → AreSet f k ms → (u : Types) × (give_all k ms t ≡ Ok u) × Within u f
all_read f ends k [] t h s = (t, refl, h)
all_read f ends k (m ∷ ms) t h s =
    let g = give_read f ends m.0 m.1 k t h s.0 in
    let r = all_read f ends k ms g.0 g.2 s.1 in
    (r.0, rw g.1 r.1, r.2)

are_set : (f : Types) (k : ℕ) (names : List (List ℕ)) (ws : List Named) (ms : List (Named × ℕ)) → ((w : List ℕ) (i : ℕ) → place_of w names ≡ Some i → place_of w f.names ≡ Some i) → AreNumbered names ws ms → AreUnder f k ws → AreSet f k ms
are_set f k names [] [] h n u = tt
are_set f k names [] (m ∷ ms) h n u = absurd n
are_set f k names (w ∷ ws) [] h n u = absurd n
are_set f k names (w ∷ ws) (m ∷ ms) h n u =
    let same : Some m.1 ≡ Some u.0.0 = sym (h w.1 m.1 n.0) ∙ u.0.1 in
    let is : u.0.0 ≡ m.1 = cc in
    (subst (λ (i : ℕ). StandsUnder f.parents i k) is u.0.2, are_set f k names ws ms h n.1 u.1)

one_kind : (names : List (List ℕ)) (kind : Option Named) (j k : ℕ) → IsKind names kind j → IsKind names kind k → j ≡ k
one_kind names None j k g h = g ∙ sym h
one_kind names (Some w) j k g h = let same : Some j ≡ Some k = sym g ∙ h in cc

groups_read : (f : Types) → ((i : ℕ) → EndsUp f.parents i) → (gs : List Group) (t : Types) → IsEven t → Within t f → names_from t.names (mentions gs) ≡ f.names → AllUnder f gs → (u : Types) × (types_from t (map group gs) ≡ Ok u) × Within u f
groups_read f ends [] t e h n u = (t, refl, h)
groups_read f ends (g ∷ gs) t e h n u =
    let a = all_named [] g.names t e in
    let after : Types = (mention_all [] g.names t).1 in
    let c = kind_named g.kind after a.even in
    let kind : ℕ × Types = mention_kind g.kind after in
    let rest : names_from after.names (kind_text g.kind ++ mentions gs) ≡ f.names = ap (λ (l : List (List ℕ)). names_from l (kind_text g.kind ++ mentions gs)) a.names ∙ sym (names_both t.names (texts g.names) (kind_text g.kind ++ mentions gs)) ∙ n in
    let last : names_from kind.1.names (mentions gs) ≡ f.names = ap (λ (l : List (List ℕ)). names_from l (mentions gs)) c.names ∙ sym (names_both after.names (kind_text g.kind) (mentions gs)) ∙ rest in
    let kept : (w : List ℕ) (i : ℕ) → place_of w kind.1.names ≡ Some i → place_of w f.names ≡ Some i = λ w i x. subst (λ (l : List (List ℕ)). place_of w l ≡ Some i) last (names_kept w kind.1.names (mentions gs) i x) in
    let known : IsKind f.names g.kind kind.0 = kind_kept kind.1.names g.kind kind.0 kept c.is in
    let same : u.0.0 ≡ kind.0 = one_kind f.names g.kind u.0.0 kind.0 u.0.1 known in
    let numbered : AreNumbered after.names g.names (mention_all [] g.names t).0 = subst (AreNumbered after.names g.names) (sym a.whole) a.are in
    let set = are_set f kind.0 after.names g.names (mention_all [] g.names t).0 (λ w i x. kept w i (c.grows.names w i x)) numbered (subst (λ (k : ℕ). AreUnder f k g.names) same u.0.2) in
    let d = all_read f ends kind.0 (mention_all [] g.names t).0 kind.1 (λ j p x. h j p (a.old j p (c.old j p x))) set in
    let all = all_gave kind.0 g.names (mention_all [] g.names t).0 kind.1 d.0 (grown after kind.1 g.names (mention_all [] g.names t).0 c.grows numbered) c.even d.1 in
    let r = groups_read f ends gs d.0 all.even d.2 (ap (λ (l : List (List ℕ)). names_from l (mentions gs)) all.names ∙ last) u.1 in
    (r.0, rw d.1 r.1, r.2)
  where
    kind_kept : (names : List (List ℕ)) (kind : Option Named) (k : ℕ) → ((w : List ℕ) (i : ℕ) → place_of w names ≡ Some i → place_of w f.names ≡ Some i) → IsKind names kind k → IsKind f.names kind k
    kind_kept names None k h x = x
    kind_kept names (Some w) k h x = h w.1 k x

    grown : (t u : Types) (ws : List Named) (ms : List (Named × ℕ)) → Grows t u → AreNumbered t.names ws ms → AreNumbered u.names ws ms
    grown t u [] [] g h = tt
    grown t u [] (m ∷ ms) g h = absurd h
    grown t u (w ∷ ws) [] g h = absurd h
    grown t u (w ∷ ws) (m ∷ ms) g h = (g.names w.1 m.1 h.0, grown t u ws ms g h.1)

-- the same parents

parents_same : (ps qs : List (Option ℕ)) → length ps ≡ length qs → ((i : ℕ) → parent_at ps i ≡ parent_at qs i) → ps ≡ qs
parents_same [] [] l h = refl
parents_same [] (q ∷ qs) l h = absurd (omega (arith, l))
parents_same (p ∷ ps) [] l h = absurd (omega (arith, l))
parents_same (p ∷ ps) (q ∷ qs) l h =
    let first : p ≡ q = h 0 in
    let rest : ps ≡ qs = parents_same ps qs (omega (arith, l)) (λ i. h (suc i)) in
    cc

one_under : (u : Types) (k i : ℕ) (ws : List Named) → IsOne u.names i ws → AreUnder u k ws → StandsUnder u.parents i k
one_under u k i [] o h = absurd o
one_under u k i (w ∷ ws) (inl e) h = let same : Some h.0.0 ≡ Some i = sym h.0.1 ∙ e in let is : h.0.0 ≡ i = cc in subst (λ (j : ℕ). StandsUnder u.parents j k) is h.0.2
one_under u k i (w ∷ ws) (inr o) h = one_under u k i ws o h.1

puts_under : (f u : Types) (gs : List Group) (i k : ℕ) → u.names ≡ f.names → Puts f gs i k → AllUnder u gs → StandsUnder u.parents i k
puts_under f u [] i k n p h = absurd p
puts_under f u (g ∷ gs) i k n (inl p) h =
    let kind : IsKind u.names g.kind k = subst (λ (l : List (List ℕ)). IsKind l g.kind k) (sym n) p.0 in
    let same : h.0.0 ≡ k = one_kind u.names g.kind h.0.0 k h.0.1 kind in
    one_under u k i g.names (subst (λ (l : List (List ℕ)). IsOne l i g.names) (sym n) p.1) (subst (λ (m : ℕ). AreUnder u m g.names) same h.0.2)
puts_under f u (g ∷ gs) i k n (inr p) h = puts_under f u gs i k n p h.1

abbrev types_of : List (List ℕ) → List (Option ℕ) → Types
types_of names parents = record { names = names; parents = parents }

types_same : (u t : Types) → u.names ≡ t.names → u.parents ≡ t.parents → u ≡ t
types_same u t n p = ap (λ (l : List (List ℕ)). types_of l u.parents) n ∙ ap (λ (l : List (Option ℕ)). types_of t.names l) p

pub types_read : (place : ℕ) (items : List Sexp) (t : Types) → SpellsTypes items t → types_from only_object (groups false place items) ≡ Ok t
types_read place items t h =
    let r = groups_read t h.ends h.groups only_object refl (λ j p x. absurd (none_first j p x)) (sym h.names) h.under in
    let g = groups_gave h.groups only_object r.0 refl r.1 in
    let names : r.0.names ≡ t.names = g.names ∙ sym h.names in
    let long : length r.0.parents ≡ length t.parents = let a = ap (λ (l : List (List ℕ)). length l) names in omega (arith, a, g.even, h.even) in
    let parents : r.0.parents ≡ t.parents = parents_same r.0.parents t.parents long (λ i. by_parent r.0 names g.under r.2 i (parent_at t.parents i) refl) in
    let is : r.0 ≡ t = types_same r.0 t names parents in
    rw (typed_read place h.typed) (r.1 ∙ ap (λ (u : Types). Ok u) is)
  where
    by_none : (u : Types) → Within u t → (i : ℕ) → parent_at t.parents i ≡ None → (v : Option ℕ) → parent_at u.parents i ≡ v → parent_at u.parents i ≡ None
    by_none u w i n None e = e
    by_none u w i n (Some k) e = let clash : None ≡ Some k = sym n ∙ w i k e in cc

    by_some : (u : Types) (i k : ℕ) → parent_at t.parents i ≡ Some k → StandsUnder u.parents i k → parent_at u.parents i ≡ Some k
    by_some u zero k e s = no_cycle zero (h.ends k) (above_self s) e
    by_some u (suc i) k e s = s

    by_parent : (u : Types) → u.names ≡ t.names → AllUnder u h.groups → Within u t → (i : ℕ) (v : Option ℕ) → parent_at t.parents i ≡ v → parent_at u.parents i ≡ parent_at t.parents i
    by_parent u n under w i None e = by_none u w i e (parent_at u.parents i) refl ∙ sym e
    by_parent u n under w i (Some k) e = by_some u i k e (puts_under t u h.groups i k n (h.only i k e) under) ∙ sym e
