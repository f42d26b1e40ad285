-- What a turn leaves, and what a run of turns leaves.
use Rattle.std.specs.Prelude.{◌≡◌, ℕ, ◌<◌, ◌^◌, Bool, true, false, List, [], ◌∷◌, length, drop, Option, Some, None, Result, Ok, Err}
use Rattle.bd_window.specs.Family.{family_of}
use Rattle.bd_pieces.specs.declared.pieces.End.{End}
use Rattle.bd_pieces.specs.declared.pieces.End.TheVariants as end
use Rattle.bd_pieces.specs.declared.pieces.Piece.{Piece}
use Rattle.plan_core.specs.Core.{CoreView, is_replacement}
use Rattle.plan_core.specs.declared.offer.Offer.{Offer}
use Rattle.bd_workers.specs.declared.parts.Setup.{Setup}
use Rattle.bd_workers.specs.Dry.{IsDry, AreJudgedIn}
use Rattle.plan_rebuild.specs.Rebuilds.{GrowsRightly, closed}

-- whether the last entry is a replacement; where there is none, this
abbrev pub last_kind : Bool → List Offer → Bool
last_kind b [] = b
last_kind b (x ∷ xs) = last_kind (is_replacement x) xs

abbrev pub ends_in_replacement : List Offer → Bool
ends_in_replacement history = last_kind false history

-- whether the last entry of the history is a replacement that was added since it had so many entries
abbrev pub adds_since : ℕ → CoreView → Bool
adds_since n after = ends_in_replacement (drop n after.history)

abbrev pub adds_last : CoreView → CoreView → Bool
adds_last before after = adds_since (length before.history) after

-- how a turn ends: closed, going on behind a replacement, or dry
abbrev pub IsEnd : CoreView → Setup → CoreView → List Piece → Option End → Type 0
IsEnd before setup after pieces (Some end.Closed) = closed after ≡ true
IsEnd before setup after pieces None = (closed after ≡ false) × (adds_last before after ≡ true)
IsEnd before setup after pieces (Some end.Dry) =
    (closed after ≡ false) × (adds_last before after ≡ false)
    × IsDry after.task after.tree setup.nodes setup.width setup.span
    × AreJudgedIn after.task after.tree setup.nodes (family_of setup.width after.tree) pieces
IsEnd before setup after pieces (Some end.Script) = ⊥
IsEnd before setup after pieces (Some end.Tight) = ⊥

-- after want of memory there are no pieces and there is no end
abbrev pub TurnsOut : {E : Type 0} → CoreView → Setup → CoreView → Result (List Piece) E → Option End → Type 0
TurnsOut before setup after (Ok pieces) told = IsEnd before setup after pieces told
TurnsOut before setup after (Err memory) told = told ≡ None

-- a turn leads from a core to another
pub record IsTurn {E : Type 0} (before : CoreView) (setup : Setup) (after : CoreView) (pieces : Result (List Piece) E) (told : Option End) : Type 0 where
  pub step : GrowsRightly before after
  pub ends : TurnsOut before setup after pieces told

-- a turn that goes on added an entry, and the history is still short: so a run of turns ends
abbrev pub TurnsRunOut : Type 0
TurnsRunOut = (before after : CoreView) (setup : Setup) (pieces : List Piece) → IsTurn {E = Unit {0}} before setup after (Ok pieces) None →
    (length before.history < length after.history) × (length after.history < 2 ^ 24)

-- how a run of turns ends: closed or dry
abbrev pub IsOver : Setup → CoreView → List Piece → Option End → Type 0
IsOver setup after pieces (Some end.Closed) = closed after ≡ true
IsOver setup after pieces (Some end.Dry) =
    (closed after ≡ false)
    × IsDry after.task after.tree setup.nodes setup.width setup.span
    × AreJudgedIn after.task after.tree setup.nodes (family_of setup.width after.tree) pieces
IsOver setup after pieces None = ⊥
IsOver setup after pieces (Some end.Script) = ⊥
IsOver setup after pieces (Some end.Tight) = ⊥
