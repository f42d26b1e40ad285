use Rattle.std.proofs.Common.{◌≡◌, ◌∙◌, ◌==◌, ◌&&◌, Bool, ap, sym, List, [], ◌∷◌, Some, None, cond, length, map, refl, true, false, inl, inr, arith}
use Rattle.std.specs.Prelude.{string_bytes}
use Rattle.std.proofs.lemmas.Bool.{ne_eqb}
use Rattle.clap.specs.Words.{IsAmong, app_of, is_simple, matches_of}
use Rattle.clap.specs.Kinds.{Kinds}
use Rattle.clap.specs.Walk.{Row}
use Rattle.clap.specs.declared.error.kind.ErrorKind.{ErrorKind}
use Rattle.command_words.proofs.reading.matches_of.Goals as goal

both_left : (a b : Bool) → (a && b) ≡ true → a ≡ true
both_left true b h = refl
both_left false b h = cc

some_fault : (k : ErrorKind) (ks : Kinds) (rows : List Row) → IsAmong k ks → cond (length ks == 0) (Some rows) None ≡ None
some_fault k [] rows h = absurd h
some_fault k (x ∷ xs) rows h =
    let some : (length (x ∷ xs) == 0) ≡ false = ne_eqb _ _ (λ e. omega arith) in
    rw some refl

pub returns-in-Ok : goal.returns-in-Ok
returns-in-Ok c =
    let simple : is_simple (app_of c.args.command) ≡ true = both_left _ _ c.requires in (
      ap (λ (ks : Kinds). cond (length ks == 0) (Some (matches_of (app_of c.args.command) (map string_bytes c.args.words.now))) None) (c.in-Ok.ensures.kinds c.requires) ∙ ap Some (sym (c.in-Ok.ensures.matches simple).0),
      c.in-Ok.ensures.parsed,
    )

pub returns : goal.returns
returns c = elim (c.in-Err.ensures.kinds c.requires) [
  | inl memory ↦
      let bad : true ≡ false = sym (c.is_memory.ensures (c.kind.ensures ∙ memory)) ∙ c.if-is_memory.false in
      cc
  | inr among ↦ some_fault _ _ _ among
]
