use Rattle.std.proofs.Common.{◌≡◌, true, eqb, sym, subst}
use Rattle.std.proofs.lemmas.Bool.{eqb-true}
use Rattle.bd_subtask.specs.Level.{IsLevel}
use Rattle.bd_subtask.proofs.Levels.{level_at}
use Rattle.bd_subtask.proofs.posing.find_level.Goals as goal

pub returns-then-eq : goal.returns-then-eq
returns-then-eq c =
    let level = c.in-Some.level.now in
    let h = c.in-Some.ensures.lookup in
    let e : eqb level.block c.args.block ≡ true = cc in
    (eqb-true level.block c.args.block e, λ task root a. subst (IsLevel task root) (sym (h.3.1 level)) (level_at task root c.args.levels.now _ level h.3.0 a))
