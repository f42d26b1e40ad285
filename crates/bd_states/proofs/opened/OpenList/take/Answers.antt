use Rattle.std.specs.BinaryHeap.{heap_items}
use Rattle.bd_states.proofs.SetLemmas.{least_of}
use Rattle.bd_states.proofs.opened.OpenList.take.Goals as goal

pub returns-clause-least : goal.returns-clause-least
returns-clause-least c = least_of c.pop.result (heap_items c.self.inside.heap) (heap_items c.pop.new.self) c.pop.ensures.below_top c.self.invariant
