-- Sets that are joined and filtered still rise.
use Rattle.std.proofs.Common.{◌≡◌, ℕ, Bool, true, false, cond, ◌||◌, List, [], ◌∷◌, filter, refl, sym, ap, ◌∙◌}
use Rattle.bd_base.specs.Facts.{IsBelowAll, IsRising, has, plus}
use Rattle.bd_links.specs.Effects.{Kid, with_facts, all_facts}
use Rattle.bd_links.specs.declared.parts.Effects.{Effects}
use Rattle.bd_base.proofs.FactLemmas.{rising-plus, rising_same, has-plus}

below-filter : (x : ℕ) (t : ℕ → Bool) (s : List ℕ) → IsBelowAll x s → IsBelowAll x (filter t s)
below-filter x t [] b = tt
below-filter x t (y ∷ s) b = elim (t y) as (λ c. IsBelowAll x (cond c (y ∷ filter t s) (filter t s))) [ true ↦ (b.0, below-filter x t s b.1) | false ↦ below-filter x t s b.1 ]

pub rising-filter : (t : ℕ → Bool) (s : List ℕ) → IsRising s → IsRising (filter t s)
rising-filter t [] r = tt
rising-filter t (x ∷ s) r = elim (t x) as (λ c. IsRising (cond c (x ∷ filter t s) (filter t s))) [ true ↦ (below-filter x t s r.0, rising-filter t s r.1) | false ↦ rising-filter t s r.1 ]

-- a set that rises, made again of its facts
pub plus-none : (s : List ℕ) → IsRising s → plus [] s ≡ s
plus-none s r = rising_same (plus [] s) s (rising-plus [] s tt) r (λ q. has-plus [] s q ∙ or_false (has s q))
  where
    or_false : (b : Bool) → (b || false) ≡ b
    or_false true = refl
    or_false false = refl

rising-with_facts : (f : Effects → List ℕ) (s : List ℕ) (kids : List Kid) → IsRising s → IsRising (with_facts f s kids)
rising-with_facts f s [] r = r
rising-with_facts f s (k ∷ kids) r = rising-with_facts f (plus s (f k.1.effects)) kids (rising-plus s (f k.1.effects) r)

pub rising-all_facts : (f : Effects → List ℕ) (kids : List Kid) → IsRising (all_facts f kids)
rising-all_facts f kids = rising-with_facts f [] kids tt

-- the end of a loop that keeps some facts of a set
pub kept_all : (t : ℕ → Bool) (s kept left : List ℕ) → left ≡ [] → IsRising s → plus kept (filter t left) ≡ plus [] (filter t s) → kept ≡ filter t s
kept_all t s kept left none r e = ap (λ z. plus kept (filter t z)) (sym none) ∙ e ∙ plus-none (filter t s) (rising-filter t s r)
