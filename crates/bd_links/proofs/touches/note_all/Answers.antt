use Rattle.std.proofs.Common.{◌≡◌, ℕ, ◌<◌, Bool, true, false, cond, ◌||◌, ◌==◌, List, [], ◌∷◌, ◌++◌, refl, sym, ap, ◌∙◌, subst, arith, rules}
use Rattle.std.proofs.lemmas.List.{append-nil}
use Rattle.std.proofs.lemmas.Bool.{eqb-true, false_from_ne_true}
use Rattle.bd_base.specs.Facts.{IsRising, has}
use Rattle.bd_base.proofs.FactLemmas.{below_has}
use Rattle.bd_links.proofs.touches.note_all.Goals as goal

module _ (p j q : ℕ) (left xs ys : List ℕ) (rising : IsRising (p ∷ left)) (is : ys ≡ xs ++ cond (p == q) (j ∷ []) []) where
  -- the facts that are left are greater than the one that was noted
  out : p ≡ q → has left q ≡ false
  out e = false_from_ne_true (has left q) (λ h. let above : p < q = below_has p left rising.0 q h in omega (arith, e))

  by_case : (b : Bool) → (p == q) ≡ b → ys ≡ xs ++ cond b (j ∷ []) [] → ys ++ cond (has left q) (j ∷ []) [] ≡ xs ++ cond (b || has left q) (j ∷ []) []
  by_case true e is = ap (λ b. ys ++ cond b (j ∷ []) []) (out (eqb-true p q e)) ∙ append-nil ys ∙ is
  by_case false e is = ap (λ z. z ++ cond (has left q) (j ∷ []) []) (is ∙ append-nil xs)

  pub noted_more : ys ++ cond (has left q) (j ∷ []) [] ≡ xs ++ cond (has (p ∷ left) q) (j ∷ []) []
  noted_more = by_case (p == q) refl is

pub loop-p-preserved : goal.loop-p-preserved
loop-p-preserved c =
    let p = c.in-Some.p in
    let left = c.next.new.self in
    let step : c.loop-p.p-iterator ≡ p ∷ left = search rules in
    let rising : IsRising (p ∷ left) = subst IsRising step c.loop-p.invariant.rising in
    record {
      rising = rising.1;
      noted = λ q.
          noted_more p c.args.j q left _ _ rising (c.in_ok-note.ensures q)
          ∙ ap (λ z. Rattle.bd_links.specs.Rows.places_of c.loop-p.places q ++ cond (has z q) (c.args.j ∷ []) []) (sym step)
          ∙ c.loop-p.invariant.noted q;
    }
