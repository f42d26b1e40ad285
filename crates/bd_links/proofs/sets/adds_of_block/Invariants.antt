use Rattle.std.proofs.Common.{◌≡◌, filter, []}
use Rattle.std.specs.List.{enumerate_from}
use Rattle.bd_base.specs.Facts.{plus}
use Rattle.bd_links.specs.Effects.{all_facts}
use Rattle.bd_links.specs.Rows.{given_by}
use Rattle.bd_links.specs.declared.parts.Effects.{Effects}
use Rattle.bd_links.proofs.sets.adds_of_block.Given as goal

abbrev pub invariant-loop-f : goal.invariant-loop-f
invariant-loop-f l =
    plus l.kept (filter (given_by l.order l.touches) l.f-iterator)
    ≡ plus [] (filter (given_by l.order l.touches) (all_facts (λ (e : Effects). e.add) (enumerate_from 0 l.kids)))
