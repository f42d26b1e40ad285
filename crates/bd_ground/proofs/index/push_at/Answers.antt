use Rattle.std.proofs.Common.{ℕ, List, Vec, Global, Bor}
use Rattle.bd_ground.proofs.IndexLemmas.{pushed_at}
use Rattle.bd_ground.proofs.index.push_at.Goals as goal

pub returns : goal.returns
returns c =
    pushed_at (λ (r : Vec (Bor (List ℕ)) Global). r.items) (λ (g : Bor (List ℕ)). g.now) c.args.rows.now.items c.args.n c.index_mut.result.now c.push.new.self c.args.g c.requires c.index_mut.ensures.value c.in_ok-push.ensures.items
