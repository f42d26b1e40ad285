-- What is in a filtered set.
use Rattle.std.proofs.Common.{◌≡◌, ℕ, Bool, true, false, cond, ◌&&◌, ◌||◌, eqb, List, [], ◌∷◌, filter, refl, sym, ap, ◌∙◌}
use Rattle.std.proofs.lemmas.Bool.{eqb-true}
use Rattle.bd_base.specs.Facts.{IsRising, IsBelowAll, has}

-- what is in a filtered set
pub has-filter : (t : ℕ → Bool) (s : List ℕ) (q : ℕ) → has (filter t s) q ≡ (t q && has s q)
has-filter t [] q = nothing (t q)
  where
    nothing : (b : Bool) → false ≡ (b && false)
    nothing true = refl
    nothing false = refl
has-filter t (x ∷ s) q = by (t x) refl (eqb x q) refl (has-filter t s q)
  where
    by : (b : Bool) → t x ≡ b → (e : Bool) → eqb x q ≡ e → has (filter t s) q ≡ (t q && has s q) → has (cond b (x ∷ filter t s) (filter t s)) q ≡ (t q && (e || has s q))
    by true tx true e h = rw e (sym (rw (ap t (sym (eqb-true x q e)) ∙ tx)))
    by true tx false e h = rw e h
    by false tx true e h = h ∙ rw (ap t (sym (eqb-true x q e)) ∙ tx)
    by false tx false e h = h

below_filter : (t : ℕ → Bool) (x : ℕ) (s : List ℕ) → IsBelowAll x s → IsBelowAll x (filter t s)
below_filter t x [] b = tt
below_filter t x (y ∷ s) b = by (t y) (below_filter t x s b.1)
  where
    by : (k : Bool) → IsBelowAll x (filter t s) → IsBelowAll x (cond k (y ∷ filter t s) (filter t s))
    by true h = (b.0, h)
    by false h = h

pub rising-filter : (t : ℕ → Bool) (s : List ℕ) → IsRising s → IsRising (filter t s)
rising-filter t [] r = tt
rising-filter t (x ∷ s) r = by (t x) (rising-filter t s r.1)
  where
    by : (k : Bool) → IsRising (filter t s) → IsRising (cond k (x ∷ filter t s) (filter t s))
    by true h = (below_filter t x s r.0, h)
    by false h = h
