use Rattle.std.proofs.Common.{◌∙◌, ap, ℕ, List, ◌++◌, ◌+◌, ◌-◌, arith}
use Rattle.bd_base.specs.Pairs.{in_turn}
use Rattle.bd_base.proofs.PairLemmas.{in_turn-more}
use Rattle.bd_base.proofs.pairs.total_pairs.Goals as goal

pub loop-i-preserved : goal.loop-i-preserved
loop-i-preserved c =
    ap (λ (ps : List (ℕ × ℕ)). ps ++ in_turn (c.loop-i.i + 1) (c.args.n - (c.loop-i.i + 1))) c.in_ok-push_row.ensures
    ∙ in_turn-more c.loop-i.pairs.items c.loop-i.i c.args.n (omega arith) ∙ c.loop-i.invariant
