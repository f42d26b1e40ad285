use Rattle.std.proofs.Common.{arith}
use Rattle.std.proofs.lemmas.List.{drop_all}
use Rattle.bd_ground.proofs.PriceLemmas.{kept-next, kept_all}
use Rattle.bd_ground.proofs.prices.prices_of.Goals as goal

pub loop-v-preserved : goal.loop-v-preserved
loop-v-preserved c =
    let x = c.v-item.result in
    kept-next c.args.values.now c.loop-v.v-index x x c.loop-v.calls c.keep.new.calls c.loop-v.numbers.items c.keep.new.numbers.items c.in_ok-g.g.items c.loop-v-test.true c.v-item.is c.loop-v.invariant c.in_ok-g.ensures
    c.in_ok-keep.ensures.even c.in_ok-keep.ensures.few c.in_ok-keep.ensures.kept

pub returns : goal.returns
returns c = kept_all c.args.values.now c.loop-v.v-index c.loop-v.calls c.loop-v.numbers.items (drop_all c.loop-v.v-index c.args.values.now (omega (arith, c.loop-v-test.false))) c.loop-v.invariant
