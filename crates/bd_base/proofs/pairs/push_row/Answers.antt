use Rattle.std.proofs.Common.{◌∙◌, ap, ℕ, List, ◌++◌, ◌+◌, ◌-◌, arith}
use Rattle.bd_base.specs.Pairs.{before_each}
use Rattle.bd_base.proofs.PairLemmas.{before_each-more}
use Rattle.bd_base.proofs.pairs.push_row.Goals as goal

pub loop-j-preserved : goal.loop-j-preserved
loop-j-preserved c =
    ap (λ (ps : List (ℕ × ℕ)). ps ++ before_each c.args.i (c.loop-j.j + 1) (c.args.n - (c.loop-j.j + 1))) c.in_ok-push.ensures.items
    ∙ before_each-more c.loop-j.pairs.items c.args.i c.loop-j.j c.args.n (omega arith) ∙ c.loop-j.invariant
