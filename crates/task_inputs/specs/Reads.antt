-- What reading a named text comes to, by what a shelf tells of it.
use Rattle.std.specs.Prelude.{◌≡◌, ℕ, ◌<◌, ◌≤◌, Bool, true, false, List, length}
use Rattle.bd_base.specs.Causes.{Rose}
use Rattle.bd_base.specs.Shelf.{Told, untold, absent, text}

-- the text that was read is the one that is told, where one is
abbrev pub IsToldAs : Told → List ℕ → Type 0
IsToldAs untold read = Unit {0}
IsToldAs absent read = ⊥
IsToldAs (text t) read = t ≡ read

-- the counts of a shelf's faults and long texts, before and after a call
pub record Counts : Type 0 where
  pub faults : ℕ
  pub faults_after : ℕ
  pub longs : ℕ
  pub longs_after : ℕ

-- the counts of a longer time, in which a call was made
pub record Spans (whole call : Counts) : Type 0 where
  pub faults : whole.faults ≤ call.faults
  pub faults_after : call.faults_after ≤ whole.faults_after
  pub longs : whole.longs ≤ call.longs
  pub longs_after : call.longs_after ≤ whole.longs_after

-- a text couldn't be read: it is told that it isn't there, which is told as missing, or the shelf's count of faults rose; a text
-- that is told is never missing
abbrev pub IsUnread : Told → Counts → Bool → Type 0
IsUnread absent c true = Unit {0}
IsUnread absent c false = ⊥
IsUnread untold c missing = Rose c.faults c.faults_after
IsUnread (text t) c true = ⊥
IsUnread (text t) c false = Rose c.faults c.faults_after × (length t ≤ 16_777_216)

-- a text was too long: the count of long texts rose, and the text that is told has more than 16 MiB
abbrev pub IsLong : Told → Counts → Type 0
IsLong untold c = Rose c.longs c.longs_after
IsLong absent c = ⊥
IsLong (text t) c = Rose c.longs c.longs_after × (16_777_216 < length t)

-- a text of at most 16 MiB was read, of which P holds
pub record WasRead (told : Told) (P : List ℕ → Type 0) : Type 0 where
  pub read : List ℕ
  pub is_told : IsToldAs told read
  pub short : length read ≤ 16_777_216
  pub holds : P read
