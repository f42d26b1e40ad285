-- A pair of single kids of the root that is a gain may be taken; what is kept of the root is then kept of the new one.
use Rattle.std.proofs.Common.{◌≡◌, ℕ, List, [], ◌∷◌, Option, Some, None, Result, Ok, Err, IfOk, IfSome, slice_get, sym, ap, ◌∙◌, subst, arith}
use Rattle.bd_base.specs.Pairs.{without_pair}
use Rattle.bd_task.specs.TaskView.{TaskView}
use Rattle.bd_tree.specs.declared.node.Node.{Node, Block}
use Rattle.bd_tree.specs.declared.node.Node.TheOpen.{Node-F}
use Rattle.bd_tree.specs.declared.node.Node.TheViews.{out-Node, outs-Block}
use Rattle.bd_tree.specs.Tree.{id_of}
use Rattle.bd_kept.specs.Gain.{IsGain, IsGainOf}
use Rattle.bd_kept.specs.Kept.{IsKept, IsKeptOf}
use Rattle.bd_kept.specs.declared.kept.Kept.{Kept}
use Rattle.bd_kept.proofs.SingleLaw.{two_candidate, two_qualify, unordered_is}
use Rattle.bd_tight.specs.declared.gain.Gain.{Gain}
use Rattle.plan_core.specs.Core.{CoreView, accepted}
use Rattle.plan_core.specs.Law.{IsCore}
use Rattle.plan_core.specs.Replies.{IsOpen}
use Rattle.plan_core.specs.declared.offer.Offer.TheVariants.{Tighten}
use Rattle.plan_rebuild.specs.Taking.{TakesPair, pair_if}
use Rattle.plan_rebuild.proofs.GainLemmas.{may_take}

-- two blocks that are the same have the same order and kids
layers : (a b : ℕ) (ks ls : List Node) (o q : List (ℕ × ℕ)) → Block a ks o ≡ Block b ls q → Node-F.Block a ks o ≡ Node-F.Block b ls q
layers a b ks ls o q e = sym (outs-Block a ks o) ∙ ap out-Node e ∙ outs-Block b ls q

same_kids : (a b : ℕ) (ks ls : List Node) (o q : List (ℕ × ℕ)) → Block a ks o ≡ Block b ls q → ks ≡ ls
same_kids a b ks ls o q e = let layer = layers a b ks ls o q e in cc

same_order : (a b : ℕ) (ks ls : List Node) (o q : List (ℕ × ℕ)) → Block a ks o ≡ Block b ls q → o ≡ q
same_order a b ks ls o q e = let layer = layers a b ks ls o q e in cc

module _ (core : CoreView) (pair : ℕ × ℕ) (is : IsCore core) (free : IsOpen core) (gains : IsGainOf core.task core.tree pair) (own : ℕ) (kids : List Node) (order : List (ℕ × ℕ)) (block : core.tree ≡ Block own kids order) where
  abbrev g : IsGain core.task own kids order pair.0 pair.1
  g = gains own kids order block

  abbrev the_gain : Gain
  the_gain = record { block = own; left = id_of g.first ∷ []; right = id_of g.second ∷ [] }

  of_gain : TakesPair core pair the_gain
  of_gain = record {
    may = may_take core 1 the_gain is
        (two_candidate core.task core.tree 1 is.room.formed is.room.shallow (omega arith) own kids order block pair.0 pair.1 g)
        free
        (omega arith)
        (two_qualify core.task core.tree 1 is.room.formed is.room.shallow (omega arith) own kids order block pair.0 pair.1 g);
    own = own;
    kids = kids;
    order = order;
    is = block;
    leaves = unordered_is core.tree own kids order is.room.formed block pair.0 pair.1 g.first g.second g.first_at g.second_at;
  }

  pub pair_told : (gain : Gain) → Some gain ≡ pair_if own (slice_get kids pair.0) (slice_get kids pair.1) → TakesPair core pair gain
  pair_told gain told =
      let e : Some gain ≡ Some the_gain = told ∙ ap (λ (o : Option Node). pair_if own o (slice_get kids pair.1)) g.first_at ∙ ap (pair_if own (Some g.first)) g.second_at in
      let same : gain ≡ the_gain = cc in
      subst (TakesPair core pair) (sym same) of_gain

  pub pairs_told : {E : Type 0} (listed : List Node) → listed ≡ kids → (r : Result (Option Gain) E) → IfOk r (λ told. told ≡ pair_if own (slice_get listed pair.0) (slice_get listed pair.1)) → IfOk r (λ told. IfSome told (λ gain. TakesPair core pair gain))
  pairs_told listed same (Ok (Some gain)) e = pair_told gain (e ∙ ap (λ (ks : List Node). pair_if own (slice_get ks pair.0) (slice_get ks pair.1)) same)
  pairs_told listed same (Ok None) e = tt
  pairs_told listed same (Err x) e = tt

-- the same of what a core lends
pub kept_same : (task lent_task : TaskView) (tree lent_tree : Node) (k : Kept) → lent_task ≡ task → lent_tree ≡ tree → IsKeptOf task tree k → IsKeptOf lent_task lent_tree k
kept_same task lent_task tree lent_tree k same_task same_tree is = subst (λ (z : TaskView). IsKeptOf z lent_tree k) (sym same_task) (subst (λ (z : Node). IsKeptOf task z k) (sym same_tree) is)

pub gain_same : (task lent_task : TaskView) (tree lent_tree : Node) (p : ℕ × ℕ) → lent_task ≡ task → lent_tree ≡ tree → IsGainOf task tree p → IsGainOf lent_task lent_tree p
gain_same task lent_task tree lent_tree p same_task same_tree is = subst (λ (z : TaskView). IsGainOf z lent_tree p) (sym same_task) (subst (λ (z : Node). IsGainOf task z p) (sym same_tree) is)

-- what is kept once the pair is gone is kept of the new core's root
pub kept_then : (core new : CoreView) (pair : ℕ × ℕ) (gain : Gain) (k : Kept) → TakesPair core pair gain → new ≡ accepted (Tighten gain.block gain.left gain.right) core →
    ((id : ℕ) (kids : List Node) (order : List (ℕ × ℕ)) → core.tree ≡ Block id kids order → IsKept core.task kids (without_pair pair.0 pair.1 order) k) → IsKeptOf new.task new.tree k
kept_then core new pair gain k t is after id kids order block =
    let tree : Block t.own t.kids (without_pair pair.0 pair.1 t.order) ≡ Block id kids order = sym t.leaves ∙ ap (λ (c : CoreView). c.tree) (sym is) ∙ block in
    subst (λ (z : TaskView). IsKept z kids order k) (sym (ap (λ (c : CoreView). c.task) is))
    (subst (λ (z : List Node). IsKept core.task z order k) (same_kids t.own id t.kids kids (without_pair pair.0 pair.1 t.order) order tree)
    (subst (λ (z : List (ℕ × ℕ)). IsKept core.task t.kids z k) (same_order t.own id t.kids kids (without_pair pair.0 pair.1 t.order) order tree)
    (after t.own t.kids t.order t.is)))
