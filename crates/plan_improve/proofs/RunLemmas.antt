-- A run of turns goes on while each of them adds to the history, and ends as its last turn does.
use Rattle.std.proofs.Common.{◌≡◌, ℕ, ◌+◌, ◌-◌, ◌<◌, ◌≤◌, ◌^◌, true, false, cond, is_none, List, length, Option, Some, None, Result, Ok, Err, OnOk, refl, sym, ap, subst, arith}
use Rattle.std.proofs.lemmas.Bool.{both_ways, cond-true}
use Rattle.bd_task.specs.TaskView.{TaskView}
use Rattle.bd_pieces.specs.declared.pieces.End.{End}
use Rattle.bd_pieces.specs.declared.pieces.Piece.{Piece}
use Rattle.bd_workers.specs.declared.parts.Setup.{Setup}
use Rattle.bd_workers.proofs.TurnLemmas.{over_from, runs_out}
use Rattle.plan_core.specs.Core.{CoreView}
use Rattle.plan_rebuild.specs.Rebuilds.{GrowsRightly}
use Rattle.run_texts.specs.Taken.{Taken}
use Rattle.run_texts.specs.declared.putting.Stop.{Stop}
use Rattle.plan_improve.specs.Improved.{EndsSo}
use Rattle.plan_improve.specs.Inner.{StepsSo, Tells, TellsOn, goes_on}

-- how long a run goes on at most
abbrev pub turns_left : CoreView → Result (Unit {0}) Stop → Option End → ℕ
turns_left core told end = cond (goes_on told end) (2 ^ 24 - length core.history + 1) 0

module _ (before after : CoreView) (setup : Setup) (pieces : List Piece) where
  falls : (told : Result (Unit {0}) Stop) (end : Option End) → GrowsRightly before after → StepsSo before setup after pieces end told → turns_left after told end < 2 ^ 24 - length before.history + 1
  falls (Err why) end grows steps = omega arith
  falls (Ok done) (Some x) grows steps = omega arith
  falls (Ok done) None grows steps = let both = runs_out before after setup pieces (record { step = grows; ends = steps }) in omega (arith, both.0, both.1)

  pub left_less : (was : Result (Unit {0}) Stop) (had : Option End) (told : Result (Unit {0}) Stop) (end : Option End) → goes_on was had ≡ true → GrowsRightly before after → StepsSo before setup after pieces end told →
      turns_left after told end < turns_left before was had
  left_less was had told end goes grows steps = subst (λ n. turns_left after told end < n) (sym (cond-true _ _ _ goes)) (falls told end grows steps)

  -- a run is over where its last turn doesn't go on
  pub over : (told : Result (Unit {0}) Stop) (end : Option End) → StepsSo before setup after pieces end told → goes_on told end ≡ false → EndsSo setup after pieces end told
  over (Ok done) end steps stops = over_from before setup after pieces end (λ e. both_ways (is_none end) stops (ap is_none e)) steps
  over (Err why) end steps stops = steps

-- where another turn follows nothing stopped the run
pub followed : (told : Result (Unit {0}) Stop) (end : Option End) (P : Type 0) → goes_on told end ≡ true → OnOk told P → P
followed (Ok done) end P goes p = p
followed (Err why) end P goes p = absurd (both_ways false refl goes)

pub telling : (told : Result (Unit {0}) Stop) (end : Option End) (from to : List ℕ) (s : Taken) → goes_on told end ≡ true → TellsOn from to s told → Tells from to s
telling (Ok done) end from to s goes t = t
telling (Err why) end from to s goes t = absurd (both_ways false refl goes)

-- facts stay few
pub few_kept : (first core : CoreView) → GrowsRightly first core → length first.task.facts ≤ 262_144 → length core.task.facts ≤ 262_144
few_kept first core grows few = subst (λ (t : TaskView). length t.facts ≤ 262_144) (sym grows.grows.task) few
