use Rattle.std.proofs.Common.{◌≡◌, ◌+◌, ◌-◌, min, max, refl, ◌∙◌, arith}
use Rattle.bd_base.proofs.WordLemmas.{bits_zero, run_bits}
use Rattle.bd_base.proofs.places.run_word.Goals as goal

pub returns-then-low-high : goal.returns-then-low-high
returns-then-low-high c =
    let none : min (c.args.base + 64) c.args.to - max c.args.base c.args.from ≡ 0 = omega arith in
    bits_zero c.args.base ∙ rw none refl

pub returns : goal.returns
returns c =
    let lo = c.saturating_sub-low.result in
    let hi = c.min-high.result in
    let start : c.args.base + lo ≡ max c.args.base c.args.from = omega arith in
    let many : hi - lo ≡ min (c.args.base + 64) c.args.to - max c.args.base c.args.from = omega arith in
    run_bits c.args.base lo hi (omega arith) (omega arith) ∙ rw (start, many) refl
