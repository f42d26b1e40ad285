use Rattle.std.proofs.Common.{rules}
use Rattle.bd_gen.specs.Errands.{place_line}
use Rattle.bd_gen.proofs.TurnLemmas.{one_more}
use Rattle.bd_gen.proofs.lines.push_places.Goals as goal

pub loop-i-preserved : goal.loop-i-preserved
loop-i-preserved c =
    (one_more place_line c.args.text.now.items c.loop-i.text.items c.push_place.new.text.items c.loop-i.i c.loop-i.invariant.0 c.in_ok-push_place.ensures, search rules)
