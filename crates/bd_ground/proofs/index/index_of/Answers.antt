use Rattle.std.proofs.Common.{ℕ, Vec, Global, ◌∙◌}
use Rattle.bd_ground.proofs.IndexLemmas.{seen, found-step}
use Rattle.bd_ground.proofs.index.index_of.Goals as goal

pub loop-g-preserved : goal.loop-g-preserved
loop-g-preserved c =
    found-step (λ (g : Vec ℕ Global). g.items) c.loop-g.keys c.put_atom.new.keys (seen c.loop-g.rows.items) (seen c.put_atom.new.rows.items) c.as_slice-g-items.result.now c.loop-g.g-index _ _ c.g-item.result c.loop-g-test.true c.g-item.is c.loop-g.invariant c.in_ok-put_atom.ensures.even
    c.in_ok-put_atom.ensures.kept (λ h os e. c.in_ok-put_atom.ensures.found h os (c.deref.ensures.value ∙ e))
