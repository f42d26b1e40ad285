use Rattle.std.proofs.Common.{rules}
use Rattle.bd_gen.specs.Errands.{road_line}
use Rattle.bd_gen.proofs.TurnLemmas.{one_more}
use Rattle.bd_gen.proofs.lines.push_roads.Goals as goal

pub loop-i-preserved : goal.loop-i-preserved
loop-i-preserved c =
    (one_more road_line c.args.text.now.items c.loop-i.text.items c.push_road.new.text.items c.loop-i.i c.loop-i.invariant.0 c.in_ok-push_road.ensures, search rules)
