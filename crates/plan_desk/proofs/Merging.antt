-- Splitting a seat off, joining it, merging what it knew, and closing.
use Rattle.std.proofs.Common.{◌≡◌, ◌⊎◌, ◌≢◌, ℕ, suc, ◌+◌, ◌-◌, ◌*◌, ◌≤◌, Bool, true, false, ◌&&◌, cond, nat_lt, nat_le, List, [], ◌∷◌, ◌++◌, length, set, get_or, drop, sym, refl, ap, subst, ◌∙◌, ⊎_elim, arith, append-nil, ltb-true, ltb-false}
use mathlib.Core.Option.{Option, some, none, some-injective}
use lib.ListN.{get_elem?}
use Rattle.atomic_table.specs.Seated.{TableId}
use Rattle.atomic_table.specs.Table.{State, Me, Step, keeps, step, Allows, Splits, Joins, Final, Seen}
use Rattle.atomic_table.proofs.Lists.{at_set, at_snoc}
use Rattle.plan_core.specs.Core.{CoreView}
use Rattle.plan_core.specs.declared.offer.Offer.{Offer}
use Rattle.plan_desk.specs.declared.view.View.{View}
use Rattle.plan_desk.specs.declared.view.Phase.{Phase}
use Rattle.plan_desk.specs.declared.view.Phase.TheVariants.{Idle, Busy, Spent}
use Rattle.plan_desk.specs.Lists.{Begins, Rises, total, times, within, longer, merged}
use Rattle.plan_desk.specs.Rules.{lives, works, owned, core_of, Fits, Free, Taken, KeptOf, Kept, parted, newcomer, met_with, spent, merged_with, Merges}
use Rattle.plan_desk.specs.Seats.{seat_of, AtRest}
use Rattle.plan_desk.specs.Ends.{Joined, Closes}
use Rattle.plan_desk.proofs.Totals.{total_set, total_snoc, total_at, total_two, total_only}
use Rattle.plan_desk.proofs.Times.{times-merged, rises_merged}
use Rattle.plan_desk.proofs.Turns.{rises_more, begins_short}
use Rattle.plan_desk.proofs.Keeps.{unmoved}
use Rattle.plan_desk.proofs.Steps.{one_word}

abbrev live : View → ℕ
live u = lives u.phase

abbrev work : View → ℕ
work u = works u.phase

abbrev Turn : CoreView → List Offer → List ℕ → List (Option CoreView) → ℕ → Type 0
Turn b log words homes n = Free b log words homes n ⊎ Taken log words homes n

abbrev IsFalse : Bool → Type 0
IsFalse false = Unit {0}
IsFalse true = ⊥

not_both : false ≡ true → ⊥
not_both e = subst IsFalse e tt

owned_is : (p : ℕ) (v : View) → v.phase ≡ Idle → owned p v ≡ times p v.mine + times p v.gained
owned_is p v calm = let e : lives v.phase * (times p v.mine + times p v.gained) ≡ 1 * (times p v.mine + times p v.gained) = ap (λ (x : Phase). lives x * (times p v.mine + times p v.gained)) calm in omega (arith, e)

snoc_sum : (t0 t1 t2 f n : ℕ) → t1 + f ≡ t0 + f → t2 ≡ t1 + n → n ≡ 0 → t2 ≡ t0
snoc_sum t0 t1 t2 f n a b c = omega arith

pub splits_off : (b : CoreView) (id : ℕ) (v : View) → v.phase ≡ Idle → v.leads ≡ true → Splits (Kept b) id v (parted v) (newcomer v)
splits_off b id v calm leads s k at =
    let mid : List View = set s.views id (parted v) in
    let all : List View = mid ++ newcomer v ∷ [] in
    let lv : lives v.phase ≡ 1 = ap lives calm in
    let f = k.fits id v at (omega arith) in
    let h = k.head id v at (omega arith) leads in
    let alive : total live all ≡ total live s.views + 1 = let x = total_set live s.views id v (parted v) at in let y = total_snoc live mid (newcomer v) in omega arith in
    let same_works : total work all ≡ total work s.views = snoc_sum _ _ _ _ _ (total_set work s.views id v (parted v) at) (total_snoc work mid (newcomer v)) refl in
    record {
      log = k.log;
      legal = k.legal;
      short = k.short;
      longer = k.longer;
      fits = λ j u e alive_u. ⊎_elim
          (λ (t : get_elem? mid j ≡ some u). ⊎_elim
          (λ (t : (j ≡ id) × (parted v ≡ u)). subst (λ (z : View). Fits b k.log z) t.1 (record { same = f.same; seen = f.seen; met = f.met; at_work = f.at_work }))
          (λ (t : (j ≢ id) × (get_elem? s.views j ≡ some u)). k.fits j u t.1 alive_u) (at_set s.views id j (parted v) u t))
          (λ (z : newcomer v ≡ u). subst (λ (z : View). Fits b k.log z) z (record { same = f.same; seen = f.seen; met = (k.log, refl); at_work = λ is. let e : works Idle ≡ works Busy = ap works is in absurd (omega arith) }))
          (at_snoc mid (newcomer v) u j e);
      head = λ j u e alive_u is. ⊎_elim
          (λ (t : get_elem? mid j ≡ some u). ⊎_elim
          (λ (t : (j ≡ id) × (parted v ≡ u)). (t.0 ∙ h.0, let o : v.out + 1 ≡ u.out = ap (λ (z : View). z.out) t.1 in let c = h.1 in omega arith))
          (λ (t : (j ≢ id) × (get_elem? s.views j ≡ some u)). absurd (t.0 ((k.head j u t.1 alive_u is).0 ∙ sym h.0))) (at_set s.views id j (parted v) u t))
          (λ (z : newcomer v ≡ u). absurd (not_both (ap (λ (z : View). z.leads) z ∙ is)))
          (at_snoc mid (newcomer v) u j e);
      told = λ p. snoc_sum _ _ _ _ _ (total_set (owned p) s.views id v (parted v) at) (total_snoc (owned p) mid (newcomer v)) refl ∙ k.told p;
      turn = subst (λ n. Turn b k.log s.words s.homes n) (sym same_works) k.turn;
    }

joins_sum : (t0 t1 t2 ov ob ow os m g n h : ℕ) → t1 + ov ≡ t0 + ob → t2 + ow ≡ t1 + os → ov ≡ m + g → g ≡ 0 → ow ≡ n + h → h ≡ 0 → ob ≡ m + n → os ≡ 0 → t2 ≡ t0
joins_sum t0 t1 t2 ov ob ow os m g n h a b c d e f i j = omega arith

pub joins_in : (b : CoreView) (id : ℕ) (v : View) (other : ℕ) (w : View) → v.phase ≡ Idle → v.gained ≡ [] → v.leads ≡ true → w.phase ≡ Idle → w.gained ≡ [] → Joins (Kept b) id v other w (met_with v w) spent
joins_in b id v other w calm empty leads calm' empty' s k at ne at' =
    let both : View = met_with v w in
    let mid : List View = set s.views id both in
    let last : List View = set mid other spent in
    let there : get_elem? s.views other ≡ some w = ⊎_elim (λ (t : (other ≡ id) × (both ≡ w)). absurd (ne t.0)) (λ (t : (other ≢ id) × (get_elem? s.views other ≡ some w)). t.1) (at_set s.views id other both w at') in
    let lv : lives v.phase ≡ 1 = ap lives calm in
    let lw : lives w.phase ≡ 1 = ap lives calm' in
    let wv : works v.phase ≡ 0 = ap works calm in
    let ww : works w.phase ≡ 0 = ap works calm' in
    let f = k.fits id v at (omega arith) in
    let fw = k.fits other w there (omega arith) in
    let h = k.head id v at (omega arith) leads in
    let count = h.1 in
    let two = total_two live s.views id other v w at there ne in
    let alive : total live last ≡ suc (v.out - 1) = let x = total_set live s.views id v both at in let y = total_set live mid other w spent at' in omega arith in
    let same_works : total work last ≡ total work s.views = let x = total_set work s.views id v both at in let y = total_set work mid other w spent at' in omega arith in
    record {
      log = k.log;
      legal = k.legal;
      short = k.short;
      longer = k.longer;
      fits = λ j u e alive_u. ⊎_elim
          (λ (t : (j ≡ other) × (spent ≡ u)). let z : lives Spent ≡ lives u.phase = ap live t.1 in absurd (omega arith))
          (λ (t : (j ≢ other) × (get_elem? mid j ≡ some u)). ⊎_elim
          (λ (t : (j ≡ id) × (both ≡ u)). subst (λ (z : View). Fits b k.log z) t.1 (record { same = f.same; seen = f.seen; met = fw.seen; at_work = f.at_work }))
          (λ (t : (j ≢ id) × (get_elem? s.views j ≡ some u)). k.fits j u t.1 alive_u) (at_set s.views id j both u t.1))
          (at_set mid other j spent u e);
      head = λ j u e alive_u is. ⊎_elim
          (λ (t : (j ≡ other) × (spent ≡ u)). let z : lives Spent ≡ lives u.phase = ap live t.1 in absurd (omega arith))
          (λ (t : (j ≢ other) × (get_elem? mid j ≡ some u)). ⊎_elim
          (λ (t : (j ≡ id) × (both ≡ u)). (t.0 ∙ h.0, alive ∙ ap (λ (z : View). suc z.out) t.1))
          (λ (t : (j ≢ id) × (get_elem? s.views j ≡ some u)). absurd (t.0 ((k.head j u t.1 alive_u is).0 ∙ sym h.0))) (at_set s.views id j both u t.1))
          (at_set mid other j spent u e);
      told = λ p. joins_sum _ _ _ _ _ _ _ (times p v.mine) (times p v.gained) (times p w.mine) (times p w.gained)
          (total_set (owned p) s.views id v both at) (total_set (owned p) mid other w spent at') (owned_is p v calm) (ap (times p) empty) (owned_is p w calm') (ap (times p) empty') (owned_is p both calm) refl ∙ k.told p;
      turn = subst (λ n. Turn b k.log s.words s.homes n) (sym same_works) k.turn;
    }

abbrev first : List Offer → Option Offer
first [] = none
first (x ∷ xs) = some x

-- of two beginnings of one list the shorter begins the longer
begins_common : (xs ys l : List Offer) → Begins xs l → Begins ys l → length xs ≤ length ys → Begins xs ys
begins_common [] ys l a b h = (ys, refl)
begins_common (x ∷ xs) [] l a b h = absurd (omega arith)
begins_common (x ∷ xs) (y ∷ ys) [] a b h = let e : 0 ≡ suc (length (xs ++ a.0)) = ap length a.1 in absurd (omega arith)
begins_common (x ∷ xs) (y ∷ ys) (z ∷ l) a b h =
    let t = begins_common xs ys l (a.0, ap (drop 1) a.1) (b.0, ap (drop 1) b.1) (omega arith) in
    let yx : y ≡ x = some-injective y x (sym (ap first b.1) ∙ ap first a.1) in
    (t.0, (λ i. yx i ∷ t.1 i))

record Longest (xs ys l : List Offer) : Type 0 where
  whole : Begins (longer xs ys) l
  left : Begins xs (longer xs ys)
  right : Begins ys (longer xs ys)

longest : (xs ys l : List Offer) → Begins xs l → Begins ys l → Longest xs ys l
longest xs ys l a b = go (nat_lt (length xs) (length ys)) refl
  where
    go : (c : Bool) → nat_lt (length xs) (length ys) ≡ c → Longest xs ys l
    go true e = let f = ltb-true _ _ e in record { whole = subst (λ c. Begins (cond c ys xs) l) (sym e) b; left = subst (λ c. Begins xs (cond c ys xs)) (sym e) (begins_common xs ys l a b (omega arith)); right = subst (λ c. Begins ys (cond c ys xs)) (sym e) ([], sym (append-nil ys)) }
    go false e = let f = ltb-false _ _ e in record { whole = subst (λ c. Begins (cond c ys xs) l) (sym e) a; left = subst (λ c. Begins xs (cond c ys xs)) (sym e) ([], sym (append-nil xs)); right = subst (λ c. Begins ys (cond c ys xs)) (sym e) (begins_common ys xs l b a (omega arith)) }

once : (low high p : ℕ) → within low high p ≤ 1
once low high p = go (nat_lt low p && nat_le p high)
  where
    go : (c : Bool) → cond c 1 0 ≤ 1
    go true = omega arith
    go false = omega arith

pub merges : (b : CoreView) (slots id : ℕ) (me : Me CoreView View) → me.1 ≡ [] → me.0.phase ≡ Idle → Allows (Kept b) slots id me 0 (λ n. n) (Merges (step slots 0 0 0 none) me)
merges b slots id me none_held calm s k len at small =
    let v : View = me.0 in
    let w : View = merged_with v in
    let lv : lives v.phase ≡ 1 = ap lives calm in
    let f = k.fits id v at (omega arith) in
    let long = longest v.seen v.met k.log f.seen f.met in
    let same_works : total work (set s.views id w) ≡ total work s.views = let x = total_set work s.views id v w at in omega arith in
    let same_words : set s.words 0 (get_or s.words 0 0) ≡ s.words = let e = one_word b s.words s.homes s.views k in ap (λ l. set l 0 (get_or s.words 0 0)) e ∙ sym e in
    let same_owned : (p : ℕ) → owned p w ≡ owned p v = λ p. owned_is p w calm ∙ (let m = times-merged p v.mine v.gained in let z : times p w.mine + times p [] ≡ times p v.mine + times p v.gained = omega arith in z) ∙ sym (owned_is p v calm) in (
      w,
      keeps,
      tt,
      unmoved b s.words (set s.words 0 (get_or s.words 0 0)) s.homes s.homes s.views k id v w at [] lv lv
          (record { same = f.same; seen = long.whole; met = (k.log, refl); at_work = λ is. let e : works v.phase ≡ works Busy = ap works is in let g : works v.phase ≡ 0 = ap works calm in absurd (omega arith) }) refl refl same_owned refl
          (subst (λ l. Turn b k.log l s.homes (total work (set s.views id w))) (sym same_words) (subst (λ n. Turn b k.log s.words s.homes n) (sym same_works) k.turn)),
      (
        ap (λ (c : List (ℕ × CoreView)). (w, c)) none_held,
        long.left,
        long.right,
        λ p. let o = owned_is p v calm in let t = total_at (owned p) s.views id v at in let a = k.told p in let c = once (length b.history) (length k.log) p in omega (arith, o, t, a, c),
      ),
    )

begun_short : (xs ys l : List Offer) → Begins xs (longer xs ys) → length xs ≤ length (longer xs ys)
begun_short xs ys l b = begins_short xs (longer xs ys) b

-- what a merge tells, after the join
pub merged_seat : (st : Step CoreView) (desk desk' desk'' : TableId) (v w : View) (me me' : Me CoreView View) (found : ℕ) → desk'' ≡ desk → AtRest (v, []) → AtRest (w, [])
    → me.0 ≡ met_with v w → Merges st me found me' → (AtRest me') × Joined (seat_of desk v) (seat_of desk' w) (seat_of desk'' me'.0)
merged_seat st desk desk' desk'' v w me me' found here rest rest' is told =
    let u : View = merged_with (met_with v w) in
    let t : Begins v.seen (longer v.seen w.seen) = subst (λ (x : View). Begins x.seen (longer x.seen x.met)) is told.1 in
    let t' : Begins w.seen (longer v.seen w.seen) = subst (λ (x : View). Begins x.met (longer x.seen x.met)) is told.2 in
    let apart : (p : ℕ) → times p v.mine + times p w.mine ≤ 1 = subst (λ (x : View). (p : ℕ) → times p x.mine + times p x.gained ≤ 1) is told.3 in
    let rising : Rises 0 (length (longer v.seen w.seen)) (merged v.mine w.mine) = rises_merged 0 (length (longer v.seen w.seen)) v.mine w.mine
    (rises_more 0 (length v.seen) _ v.mine (begins_short v.seen (longer v.seen w.seen) t) rest.4) (rises_more 0 (length w.seen) _ w.mine (begins_short w.seen (longer v.seen w.seen) t') rest'.4) apart in
    let after : me' ≡ (u, []) = told.0 ∙ ap (λ (x : View). (merged_with x, [])) is in
    subst (λ (m : Me CoreView View). (AtRest m) × Joined (seat_of desk v) (seat_of desk' w) (seat_of desk'' m.0)) (sym after) (
      (refl, rest.1, refl, refl, rising),
      record { desk = here; brought = refl; leads = refl; out = refl; seen = refl; begun = t; met = t'; mine = refl; both = λ p. times-merged p v.mine w.mine; apart = apart; rising = rising },
    )

none_works : (x : Phase) → lives x ≡ 0 → works x ≡ 0
none_works Idle e = refl
none_works Busy e = absurd (omega arith)
none_works Spent e = refl

owned_none : (p : ℕ) (u : View) → lives u.phase ≡ 0 → owned p u ≡ 0
owned_none p u dead = let e : lives u.phase * (times p u.mine + times p u.gained) ≡ 0 * (times p u.mine + times p u.gained) = ap (λ (n : ℕ). n * (times p u.mine + times p u.gained)) dead in omega (arith, e)

pub closes : (b : CoreView) (words : List ℕ) (cores : List CoreView) (id : ℕ) (desk : TableId) (me : Me CoreView View) (core : CoreView) → AtRest me → me.0.leads ≡ true → me.0.out ≡ 0
    → Final (Seen (Kept b) id me.0) words cores → get_elem? cores 0 ≡ some core → Closes (seat_of desk me.0) core
closes b words cores id desk me core rest leads home final there =
    let s : State CoreView View = final.0 in
    let v : View = me.0 in
    let k : KeptOf b s.words s.homes s.views = final.1.0 in
    let at : get_elem? s.views id ≡ some v = final.1.1 in
    let lv : lives v.phase ≡ 1 = ap lives rest.1 in
    let f = k.fits id v at (omega arith) in
    let count = (k.head id v at (omega arith) leads).1 in
    let only : total live s.views ≡ live v = omega arith in
    let calm : total work s.views ≡ work v = total_only live work (λ (u : View) none. none_works u.phase none) s.views id v at only in
    let wv : works v.phase ≡ 0 = ap works rest.1 in
    let own : (p : ℕ) → total (owned p) s.views ≡ owned p v = λ p. total_only live (owned p) (λ (u : View) none. owned_none p u none) s.views id v at only in
    let is : core ≡ core_of b k.log = ⊎_elim
    (λ (free : Free b k.log s.words s.homes (total work s.views)). some-injective core (core_of b k.log) (sym there ∙ final.4 0 (core_of b k.log) (ap (λ (l : List (Option CoreView)). get_elem? l 0) free.homes_are)))
    (λ (taken : Taken k.log s.words s.homes (total work s.views)). let x = taken.somebody in absurd (omega arith)) k.turn in
    let same : v.brought ≡ b = f.same in
    subst (λ (c : CoreView). Closes (seat_of desk v) c) (sym is) (record {
      opening = ap (λ (c : CoreView). core_of c k.log) (sym same);
      brought = subst (λ (c : CoreView). Begins c.history k.log) (sym same) k.longer;
      seen = f.seen;
      legal = k.legal;
      places = λ p. let o = owned_is p v rest.1 in let g : times p v.gained ≡ 0 = ap (times p) rest.3 in let t = own p in let z = k.told p in
          let w : times p v.mine ≡ within (length b.history) (length k.log) p = omega (arith, o, g, t, z) in
          subst (λ (c : CoreView). times p v.mine ≡ within (length c.history) (length k.log) p) (sym same) w;
    })
