-- A step that changes one view, and adds to the history at most, keeps the rule.
use Rattle.std.proofs.Common.{◌≡◌, ◌⊎◌, ◌≢◌, ℕ, suc, ◌+◌, ◌≤◌, List, [], ◌++◌, length, set, sym, ap, subst, ◌∙◌, ⊎_elim, arith, append_assoc, append-nil}
use mathlib.Core.Option.{Option, some}
use lib.ListN.{get_elem?}
use Rattle.atomic_table.proofs.Lists.{at_set}
use Rattle.plan_core.specs.Core.{CoreView}
use Rattle.plan_core.specs.Law.{IsCore}
use Rattle.plan_core.specs.declared.offer.Offer.{Offer}
use Rattle.plan_desk.specs.declared.view.View.{View}
use Rattle.plan_desk.specs.declared.view.Phase.TheVariants.{Busy}
use Rattle.plan_desk.specs.Lists.{Begins, total, within}
use Rattle.plan_desk.specs.Rules.{lives, works, owned, core_of, Fits, Free, Taken, KeptOf}
use Rattle.plan_desk.proofs.Totals.{total_set}

pub begins_more : (xs log rest : List Offer) → Begins xs log → Begins xs (log ++ rest)
begins_more xs log rest b = (b.0 ++ rest, ap (λ l. l ++ rest) b.1 ∙ append_assoc xs b.0 rest)

fits_more : (b : CoreView) (log rest : List Offer) (v : View) → (v.phase ≡ Busy → log ++ rest ≡ log) → Fits b log v → Fits b (log ++ rest) v
fits_more b log rest v same f = record {
  same = f.same;
  seen = begins_more v.seen log rest f.seen;
  met = begins_more v.met log rest f.met;
  at_work = λ is. f.at_work is ∙ sym (same is);
}

module _ (b : CoreView) (words words' : List ℕ) (homes homes' : List (Option CoreView)) (views : List View) (k : KeptOf b words homes views) (id : ℕ) (v w : View) (at : get_elem? views id ≡ some v) (rest : List Offer) where
  pub moved : IsCore (core_of b (k.log ++ rest)) → length (k.log ++ rest) ≤ 16_777_216
      → ((j : ℕ) (u : View) → get_elem? views j ≡ some u → j ≢ id → u.phase ≡ Busy → k.log ++ rest ≡ k.log)
      → lives v.phase ≡ 1 → lives w.phase ≡ 1 → Fits b (k.log ++ rest) w → w.leads ≡ v.leads → w.out ≡ v.out
      → ((p : ℕ) → owned p w + within (length b.history) (length k.log) p ≡ owned p v + within (length b.history) (length (k.log ++ rest)) p)
      → Free b (k.log ++ rest) words' homes' (total (λ (u : View). works u.phase) (set views id w)) ⊎ Taken (k.log ++ rest) words' homes' (total (λ (u : View). works u.phase) (set views id w))
      → KeptOf b words' homes' (set views id w)
  moved legal short others lv lw fits leads out owns turn =
      let alive : total (λ (u : View). lives u.phase) (set views id w) ≡ total (λ (u : View). lives u.phase) views = let s = total_set (λ (u : View). lives u.phase) views id v w at in omega arith in
      record {
        log = k.log ++ rest;
        legal = legal;
        short = short;
        longer = begins_more b.history k.log rest k.longer;
        fits = λ j u e live. ⊎_elim (λ (t : (j ≡ id) × (w ≡ u)). subst (λ (z : View). Fits b (k.log ++ rest) z) t.1 fits)
            (λ (t : (j ≢ id) × (get_elem? views j ≡ some u)). fits_more b k.log rest u (others j u t.1 t.0) (k.fits j u t.1 live)) (at_set views id j w u e);
        head = λ j u e live is. ⊎_elim
            (λ (t : (j ≡ id) × (w ≡ u)). let h = k.head id v at (omega arith) (sym leads ∙ ap (λ (z : View). z.leads) t.1 ∙ is) in
            (t.0 ∙ h.0, alive ∙ h.1 ∙ ap suc (sym out ∙ ap (λ (z : View). z.out) t.1)))
            (λ (t : (j ≢ id) × (get_elem? views j ≡ some u)). let h = k.head j u t.1 live is in (h.0, alive ∙ h.1))
            (at_set views id j w u e);
        told = λ p. let s = total_set (owned p) views id v w at in let t = k.told p in let o = owns p in omega arith;
        turn = turn;
      }

  -- the same where nothing is added
  pub unmoved : lives v.phase ≡ 1 → lives w.phase ≡ 1 → Fits b k.log w → w.leads ≡ v.leads → w.out ≡ v.out → ((p : ℕ) → owned p w ≡ owned p v) → rest ≡ []
      → Free b k.log words' homes' (total (λ (u : View). works u.phase) (set views id w)) ⊎ Taken k.log words' homes' (total (λ (u : View). works u.phase) (set views id w))
      → KeptOf b words' homes' (set views id w)
  unmoved lv lw fits leads out owns none_added turn =
      let nil : k.log ++ rest ≡ k.log = ap (λ l. k.log ++ l) none_added ∙ append-nil k.log in
      let back = sym nil in
      moved (subst (λ l. IsCore (core_of b l)) back k.legal) (subst (λ l. length l ≤ 16_777_216) back k.short) (λ j u e ne is. nil) lv lw
      (subst (λ l. Fits b l w) back fits) leads out
      (λ p. ap (λ (n : ℕ). n + within (length b.history) (length k.log) p) (owns p) ∙ ap (λ (l : List Offer). owned p v + within (length b.history) (length l) p) back)
      (subst (λ l. Free b l words' homes' (total (λ (u : View). works u.phase) (set views id w)) ⊎ Taken l words' homes' (total (λ (u : View). works u.phase) (set views id w))) back turn)
