-- Why a text couldn't be read, from what a shelf's read ensures.
use Rattle.std.proofs.Common.{◌≡◌, ℕ, true, false, Err, subst}
use Rattle.bd_base.specs.Shelf.{Told, untold, absent, text, Reads}
use Rattle.bd_base.specs.declared.shelf.ShelfErr.{ShelfErr}
use Rattle.bd_base.specs.declared.shelf.ShelfErr.TheVariants.{Missing, Failed}
use Rattle.task_inputs.specs.Reads.{Counts, IsUnread}

abbrev max : ℕ
max = 16_777_216

module _ (told : Told) (f g l m : ℕ) (e : ShelfErr) where
  abbrev counts : Counts
  counts = record { faults = f; faults_after = g; longs = l; longs_after = m }

  missing : (told : Told) → Reads told max f g l m (Err Missing) → IsUnread told counts true
  missing untold h = h
  missing absent h = tt
  missing (text t) h = h

  failed : (told : Told) → Reads told max f g l m (Err Failed) → IsUnread told counts false
  failed untold h = h
  failed absent h = absurd h
  failed (text t) h = h

  pub missing_told : e ≡ Missing → Reads told max f g l m (Err e) → IsUnread told counts true
  missing_told is h = missing told (subst (λ z. Reads told max f g l m (Err z)) is h)

  pub failed_told : e ≡ Failed → Reads told max f g l m (Err e) → IsUnread told counts false
  failed_told is h = failed told (subst (λ z. Reads told max f g l m (Err z)) is h)
