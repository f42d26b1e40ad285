use Rattle.std.proofs.Common.{◌≡◌, drop, map}
use Rattle.bd_base.specs.Facts.{is_subset}
use Rattle.bd_tree.specs.Tree.{id_of}
use Rattle.bd_shape.proofs.hulls.are_listed.Given as goal

abbrev pub invariant-loop-id : goal.invariant-loop-id
invariant-loop-id l = is_subset (drop l.id-index l.ids) (map id_of l.kids) ≡ is_subset l.ids (map id_of l.kids)
