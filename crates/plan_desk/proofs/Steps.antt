-- Each step keeps the rule, and tells what it tells.
use Rattle.std.proofs.Common.{◌≡◌, ℕ, ◌+◌, ◌*◌, ◌/◌, ◌%◌, ◌<◌, ◌≤◌, Bool, false, nat_eq, List, [], ◌∷◌, ◌++◌, length, set, get_or, true, sym, refl, ap, subst, ◌∙◌, inl, inr, ⊎_elim, arith, append-nil, length-append, eqb-true, MatchBool, cond}
use Rattle.std.proofs.lemmas.Bool.Decides.{nat_tests}
use mathlib.Core.Option.{Option, some, none}
use lib.ListN.{get_elem?}
use prog.Atomic.{either}
use Rattle.atomic_table.specs.Table.{Me, Act, keeps, takes, gives, step, Allows, Valid, homes_after, carried_after}
use Rattle.atomic_table.proofs.Lists.{set_again}
use Rattle.plan_core.specs.Core.{CoreView}
use Rattle.plan_core.specs.Law.{IsCore}
use Rattle.plan_core.specs.declared.offer.Offer.{Offer}
use Rattle.plan_desk.specs.declared.view.View.{View}
use Rattle.plan_desk.specs.declared.view.Phase.{Phase}
use Rattle.plan_desk.specs.declared.view.Phase.TheVariants.{Idle, Busy}
use Rattle.plan_desk.specs.Lists.{total, within, times}
use Rattle.plan_desk.specs.Rules.{lives, works, owned, core_of, Free, Taken, KeptOf, Kept, Counts, Takes, Took, GivesBack, GivesMore, busy, idle, grown}
use Rattle.plan_desk.specs.Seats.{AtRest, IsBusy}
use Rattle.plan_desk.proofs.Times.{times-append}
use Rattle.plan_desk.proofs.Totals.{total_set, total_at, total_two}
use Rattle.plan_desk.proofs.Keeps.{moved, unmoved, begins_more}

-- the words are one word
pub one_word : (b : CoreView) (words : List ℕ) (homes : List (Option CoreView)) (views : List View) (k : KeptOf b words homes views) → words ≡ get_or words 0 0 ∷ []
one_word b words homes views k = ⊎_elim (λ (f : Free b k.log words homes (total (λ (u : View). works u.phase) views)). f.words_are ∙ ap (λ l. get_or l 0 0 ∷ []) (sym f.words_are))
    (λ (t : Taken k.log words homes (total (λ (u : View). works u.phase) views)). t.words_are ∙ ap (λ l. get_or l 0 0 ∷ []) (sym t.words_are)) k.turn

-- nothing changes
stays : (b : CoreView) (words : List ℕ) (homes : List (Option CoreView)) (views : List View) (id : ℕ) (v : View) → KeptOf b words homes views → get_elem? views id ≡ some v
    → KeptOf b (set words 0 (get_or words 0 0)) homes (set views id v)
stays b words homes views id v k at =
    let same_words : set words 0 (get_or words 0 0) ≡ words = let e = one_word b words homes views k in ap (λ l. set l 0 (get_or words 0 0)) e ∙ sym e in
    subst (λ l. KeptOf b l homes (set views id v)) (sym same_words) (subst (λ l. KeptOf b words homes l) (sym (set_again views id v at)) k)

-- the length of the history is half the word
half : (b : CoreView) (words : List ℕ) (homes : List (Option CoreView)) (views : List View) (k : KeptOf b words homes views) → length k.log ≡ get_or words 0 0 / 2
half b words homes views k = ⊎_elim (λ (f : Free b k.log words homes (total (λ (u : View). works u.phase) views)). let e : get_or words 0 0 ≡ 2 * length k.log = ap (λ l. get_or l 0 0) f.words_are in omega arith)
    (λ (t : Taken k.log words homes (total (λ (u : View). works u.phase) views)). let e : get_or words 0 0 ≡ 2 * length k.log + 1 = ap (λ l. get_or l 0 0) t.words_are in omega arith) k.turn

pub counts : (b : CoreView) (slots id : ℕ) (me : Me CoreView View) → AtRest me → Allows (Kept b) slots id me 0 (λ n. n) (Counts (step slots 0 0 0 none) me)
counts b slots id me rest s kept len at small =
    let f = kept.fits id me.0 at (subst (λ (x : Phase). 0 < lives x) (sym rest.1) (omega arith)) in
    let l : length kept.log ≡ length (me.0.seen ++ f.seen.0) = ap length f.seen.1 in
    let h = half b s.words s.homes s.views kept in
    (me.0, keeps, tt, stays b s.words s.homes s.views id me.0 kept at, (refl, omega (arith, length-append me.0.seen f.seen.0)))

busy_not_idle : (x : Phase) → x ≡ Busy → works x ≡ 0 → ⊥
busy_not_idle x is idle = let e : works x ≡ 1 = ap works is in absurd (omega arith)

living : (x : Phase) → x ≡ Idle → lives x ≡ 1
living x e = ap lives e

-- the turn is free: the seat takes the core, and learns the whole history
take_free : (b : CoreView) (words : List ℕ) (homes : List (Option CoreView)) (views : List View) (k : KeptOf b words homes views) (id : ℕ) (v : View) → get_elem? views id ≡ some v → v.phase ≡ Idle
    → (new : ℕ) → new ≡ get_or words 0 0 + 1 → Free b k.log words homes (total (λ (u : View). works u.phase) views)
    → (w : View) × (a : Act CoreView) × Valid homes [] a × KeptOf b (set words 0 new) (homes_after homes [] a) (set views id w) × Took (v, []) (get_or words 0 0) (w, carried_after [] a)
take_free b words homes views k id v at calm new next free =
    let w = busy v k.log in
    let core = core_of b k.log in
    let found : get_or words 0 0 ≡ 2 * length k.log = ap (λ l. get_or l 0 0) free.words_are in
    let lv : lives v.phase ≡ 1 = living v.phase calm in
    let f = k.fits id v at (omega arith) in
    let opening : b ≡ v.brought = sym f.same in
    let count = total_set (λ (u : View). works u.phase) views id v w at in
    let wv : works v.phase ≡ 0 = ap works calm in
    let none_works = free.nobody in
    let words_are : set words 0 new ≡ (2 * length k.log + 1) ∷ [] = ap (λ l. set l 0 new) free.words_are ∙ ap (λ (n : ℕ). n ∷ []) (next ∙ ap (λ (n : ℕ). n + 1) found) in (
      w,
      takes 0 core,
      ap (λ l. get_elem? l 0) free.homes_are,
      unmoved b words (set words 0 new) homes (set homes 0 none) views k id v w at [] lv refl
          (record { same = f.same; seen = ([], sym (append-nil k.log)); met = f.met; at_work = λ is. refl }) refl refl
          (λ p. ap (λ (n : ℕ). n * (times p v.mine + times p v.gained)) (sym lv)) refl
          (inr (record { words_are = words_are; homes_are = ap (λ l. set l 0 none) free.homes_are; somebody = omega arith })),
      (k.log, f.seen, subst (λ (o : CoreView). IsCore (core_of o k.log)) opening k.legal, k.short, found, ap (λ (o : CoreView). (w, (0, core_of o k.log) ∷ [])) opening),
    )

take_at : (b : CoreView) (words : List ℕ) (homes : List (Option CoreView)) (views : List View) (k : KeptOf b words homes views) (id : ℕ) (v : View) → get_elem? views id ≡ some v → v.phase ≡ Idle
    → (old new : ℕ) → new ≡ old + 1 → old % 2 ≡ 0 → (hit : Bool) → nat_eq (get_or words 0 0) old ≡ hit
    → (w : View) × (a : Act CoreView) × Valid homes [] a × KeptOf b (set words 0 (either hit new (get_or words 0 0))) (homes_after homes [] a) (set views id w)
    × MatchBool hit (Took (v, []) (get_or words 0 0) (w, carried_after [] a)) (◌≡◌ {A = Me CoreView View} (w, carried_after [] a) (v, []))
take_at b words homes views k id v at calm old new next even false is = (v, keeps, tt, stays b words homes views id v k at, refl)
take_at b words homes views k id v at calm old new next even true is =
    let same : get_or words 0 0 ≡ old = eqb-true _ _ is in
    ⊎_elim (λ (f : Free b k.log words homes (total (λ (u : View). works u.phase) views)). take_free b words homes views k id v at calm new (next ∙ ap (λ (n : ℕ). n + 1) (sym same)) f)
    (λ (t : Taken k.log words homes (total (λ (u : View). works u.phase) views)). let odd : get_or words 0 0 ≡ 2 * length k.log + 1 = ap (λ l. get_or l 0 0) t.words_are in absurd (omega arith)) k.turn

pub takes_turn : (b : CoreView) (slots id : ℕ) (me : Me CoreView View) → AtRest me → (old new : ℕ) → new ≡ old + 1 → old % 2 ≡ 0
    → Allows (Kept b) slots id me 0 (λ n. either (nat_eq n old) new n) (Takes (step slots 0 old new none) me)
takes_turn b slots id me rest old new next even =
    let P : List (ℕ × CoreView) → Type 0 = λ c. Allows (Kept b) slots id (me.0, c) 0 (λ n. either (nat_eq n old) new n) (Takes (step slots 0 old new none) (me.0, c)) in
    subst P (sym rest.0) (λ s kept len at small. let r = take_at b s.words s.homes s.views kept id me.0 at rest.1 old new next even (nat_eq (get_or s.words 0 0) old) refl in r)

-- a seat that works has the turn
turn_of : (b : CoreView) (words : List ℕ) (homes : List (Option CoreView)) (views : List View) (k : KeptOf b words homes views) (id : ℕ) (v : View) → get_elem? views id ≡ some v → v.phase ≡ Busy
    → Taken k.log words homes (total (λ (u : View). works u.phase) views)
turn_of b words homes views k id v at is = ⊎_elim
    (λ (f : Free b k.log words homes (total (λ (u : View). works u.phase) views)). let w : works v.phase ≡ 1 = ap works is in let m = total_at (λ (u : View). works u.phase) views id v at in let n = f.nobody in absurd (omega arith))
    (λ (t : Taken k.log words homes (total (λ (u : View). works u.phase) views)). t) k.turn

pub gives_back : (b : CoreView) (slots id : ℕ) (me : Me CoreView View) → IsBusy me (core_of me.0.brought me.0.seen) → (new : ℕ) → new ≡ 2 * length me.0.seen
    → Allows (Kept b) slots id me 0 (λ n. new) (λ n. GivesBack (step slots 0 new 0 none) me new)
gives_back b slots id me has new is =
    let core = core_of me.0.brought me.0.seen in
    let P : List (ℕ × CoreView) → Type 0 = λ c. Allows (Kept b) slots id (me.0, c) 0 (λ n. new) (λ n. GivesBack (step slots 0 new 0 none) (me.0, c) new) in
    subst P (sym has.3) (λ s k len at small.
    let v = me.0 in
    let w = idle v in
    let lv : lives v.phase ≡ 1 = ap lives has.0 in
    let f = k.fits id v at (omega arith) in
    let whole : v.seen ≡ k.log = f.at_work has.0 in
    let t = turn_of b s.words s.homes s.views k id v at has.0 in
    let count = total_set (λ (u : View). works u.phase) s.views id v w at in
    let wv : works v.phase ≡ 1 = ap works has.0 in
    let one = t.somebody in
    let core_is : core ≡ core_of b k.log = ap (λ (c : CoreView). core_of c v.seen) f.same ∙ ap (core_of b) whole in (
      w,
      gives,
      tt,
      unmoved b s.words (set s.words 0 new) s.homes (set s.homes 0 (some core)) s.views k id v w at [] lv refl
          (record { same = f.same; seen = f.seen; met = f.met; at_work = λ z. absurd (busy_not_idle Idle z refl) }) refl refl
          (λ p. ap (λ (n : ℕ). n * (times p v.mine + times p v.gained)) (sym lv)) refl
          (inl (record {
            words_are = ap (λ l. set l 0 new) t.words_are ∙ ap (λ (n : ℕ). n ∷ []) (is ∙ ap (λ (l : List Offer). 2 * length l) whole);
            homes_are = ap (λ l. set l 0 (some core)) t.homes_are ∙ ap (λ (c : CoreView). some c ∷ []) core_is;
            nobody = omega arith;
          })),
      refl,
    ))

-- one place more
placed : (low len p : ℕ) → low ≤ len → cond (nat_eq (len + 1) p) 1 0 + within low len p ≡ within low (len + 1) p
placed low len p h = grind (arith, nat_tests)

owned-grown : (v : View) (history : List Offer) (p : ℕ) → lives v.phase ≡ 1 → owned p (grown v history) ≡ owned p v + cond (nat_eq (length history) p) 1 0
owned-grown v history p lv = let e = times-append p v.mine (length history ∷ []) in let x : lives v.phase * (times p v.mine + times p v.gained) ≡ 1 * (times p v.mine + times p v.gained) = ap (λ (n : ℕ). n * (times p v.mine + times p v.gained)) lv in
    let y : ℕ = lives v.phase * (times p v.mine + times p v.gained) in let z : y ≡ times p v.mine + times p v.gained = omega (arith, x) in omega arith

sum_up : (ow ov c c' w w' w'' : ℕ) → ow ≡ ov + c → c ≡ c' → c' + w ≡ w' → w'' ≡ w' → ow + w ≡ ov + w''
sum_up ow ov c c' w w' w'' p q r s = omega arith

pub gives_more : (b : CoreView) (slots id : ℕ) (me : Me CoreView View) (n : Offer) → IsBusy me (core_of me.0.brought (me.0.seen ++ n ∷ [])) → (new : ℕ)
    → new ≡ 2 * length (me.0.seen ++ n ∷ []) → length (me.0.seen ++ n ∷ []) ≤ 16_777_216 → IsCore (core_of me.0.brought (me.0.seen ++ n ∷ []))
    → Allows (Kept b) slots id me 0 (λ z. new) (λ z. GivesMore (step slots 0 new 0 none) me new)
gives_more b slots id me n has new is short legal =
    let history : List Offer = me.0.seen ++ n ∷ [] in
    let core = core_of me.0.brought history in
    let P : List (ℕ × CoreView) → Type 0 = λ c. Allows (Kept b) slots id (me.0, c) 0 (λ z. new) (λ z. GivesMore (step slots 0 new 0 none) (me.0, c) new) in
    subst P (sym has.3) (λ s k len at small.
    let v = me.0 in
    let w = grown v history in
    let lv : lives v.phase ≡ 1 = ap lives has.0 in
    let f = k.fits id v at (omega arith) in
    let whole : v.seen ≡ k.log = f.at_work has.0 in
    let same : history ≡ k.log ++ n ∷ [] = ap (λ (l : List Offer). l ++ n ∷ []) whole in
    let opens : v.brought ≡ b = f.same in
    let t = turn_of b s.words s.homes s.views k id v at has.0 in
    let count = total_set (λ (u : View). works u.phase) s.views id v w at in
    let wv : works v.phase ≡ 1 = ap works has.0 in
    let one = t.somebody in
    let core_is : core ≡ core_of b (k.log ++ n ∷ []) = ap (λ (o : CoreView). core_of o history) opens ∙ ap (core_of b) same in
    let size : length history ≡ length k.log + 1 = ap length same ∙ length-append k.log (n ∷ []) in
    let low : length b.history ≤ length k.log = let e = ap length k.longer.1 in omega (arith, length-append b.history k.longer.0) in (
      w,
      gives,
      tt,
      moved b s.words (set s.words 0 new) s.homes (set s.homes 0 (some core)) s.views k id v w at (n ∷ [])
          (subst (λ (l : List Offer). IsCore (core_of b l)) same (subst (λ (o : CoreView). IsCore (core_of o history)) opens legal)) (subst (λ (l : List Offer). length l ≤ 16_777_216) same short)
          (λ j u e ne busy_too. let two = total_two (λ (u : View). works u.phase) s.views id j v u at e ne in let wu : works u.phase ≡ 1 = ap works busy_too in absurd (omega arith))
          lv refl (record { same = f.same; seen = ([], sym same ∙ sym (append-nil history)); met = begins_more v.met k.log (n ∷ []) f.met; at_work = λ z. absurd (busy_not_idle Idle z refl) }) refl refl
          (λ p. sum_up _ _ _ _ _ _ _ (owned-grown v history p lv) (ap (λ m. cond (nat_eq m p) 1 0) size) (placed (length b.history) (length k.log) p low)
          (ap (λ m. within (length b.history) m p) (length-append k.log (n ∷ []))))
          (inl (record {
            words_are = ap (λ l. set l 0 new) t.words_are ∙ ap (λ (m : ℕ). m ∷ []) (is ∙ ap (λ (l : List Offer). 2 * length l) same);
            homes_are = ap (λ l. set l 0 (some core)) t.homes_are ∙ ap (λ (c : CoreView). some c ∷ []) core_is;
            nobody = omega arith;
          })),
      refl,
    ))
