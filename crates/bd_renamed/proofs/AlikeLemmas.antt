-- A renamed tree is alike.
use Rattle.std.proofs.Common.{◌≡◌, ℕ, ◌+◌, List, [], ◌∷◌, map, refl, sym, ap, ◌∙◌}
use Rattle.bd_task.specs.declared.ground.Action.{Action}
use Rattle.bd_task.specs.TaskView.{TaskView}
use Rattle.bd_tree.specs.declared.node.Node.{Node, Step, Block}
use Rattle.bd_tree.specs.declared.node.Node.TheOpen.{Node-F}
use Rattle.bd_tree.specs.Tree.{depth_of, steps_of, pairs_of, listed_of, greatest, total, joined, products}
use Rattle.bd_tree.proofs.NodeLemmas.{Each, by_node, depth_of-Step, depth_of-Block, steps_of-Step, steps_of-Block, pairs_of-Step, pairs_of-Block, listed_of-Step, listed_of-Block}
use Rattle.bd_tight.specs.Touch.{standing_of, standing_step, is_sound_for}
use Rattle.bd_tight.proofs.StandingLemmas.{standing_of-Step, standing_of-Block, sound_for_each, sound_where_each}
use Rattle.bd_renamed.specs.Alike.{IsAlike}
use Rattle.bd_renamed.specs.Renamed.{renamed}
use Rattle.bd_renamed.proofs.RenameLemmas.{renamed-Step, renamed-Block}

module _ (f : ℕ → ℕ) where
  -- a measure that goes by the kids', and not by ids, is the same of a renamed node
  module _ {A : Type 0} (g : Node → A) (on_step : (id other a : ℕ) → g (Step id a) ≡ g (Step other a))
      (on_block : (id other : ℕ) (kids ks : List Node) (order : List (ℕ × ℕ)) → map g kids ≡ map g ks → g (Block id kids order) ≡ g (Block other ks order)) where
    abbrev Same : Node → Type 0
    Same n = g (renamed f n) ≡ g n

    kids_same : (kids : List Node) → Each Same kids → map g (map (renamed f) kids) ≡ map g kids
    kids_same [] e = refl
    kids_same (k ∷ ks) e = ap (λ z. z ∷ map g (map (renamed f) ks)) e.0 ∙ ap (λ z. g k ∷ z) (kids_same ks e.1)

    pub same_of : (n : Node) → Same n
    same_of = by_node Same
        (λ id a. ap g (renamed-Step f id a) ∙ on_step (f id) id a)
        (λ id kids order e. ap g (renamed-Block f id kids order) ∙ on_block (f id) id (map (renamed f) kids) kids order (kids_same kids e))

  depth_same : (n : Node) → depth_of (renamed f n) ≡ depth_of n
  depth_same = same_of depth_of (λ id other a. depth_of-Step id a ∙ sym (depth_of-Step other a))
      (λ id other kids ks order e. depth_of-Block id kids order ∙ ap (λ z. 1 + greatest z) e ∙ sym (depth_of-Block other ks order))

  steps_same : (n : Node) → steps_of (renamed f n) ≡ steps_of n
  steps_same = same_of steps_of (λ id other a. steps_of-Step id a ∙ sym (steps_of-Step other a))
      (λ id other kids ks order e. steps_of-Block id kids order ∙ ap total e ∙ sym (steps_of-Block other ks order))

  listed_same : (n : Node) → listed_of (renamed f n) ≡ listed_of n
  listed_same = same_of listed_of (λ id other a. listed_of-Step id a ∙ sym (listed_of-Step other a))
      (λ id other kids ks order e. listed_of-Block id kids order ∙ ap joined e ∙ sym (listed_of-Block other ks order))

  abbrev Counts : Node → ℕ × ℕ
  Counts n = (steps_of n, pairs_of n)

  steps_in : (kids : List Node) → map (λ (c : ℕ × ℕ). c.0) (map Counts kids) ≡ map steps_of kids
  steps_in [] = refl
  steps_in (k ∷ ks) = ap (λ z. steps_of k ∷ z) (steps_in ks)

  pairs_in : (kids : List Node) → map (λ (c : ℕ × ℕ). c.1) (map Counts kids) ≡ map pairs_of kids
  pairs_in [] = refl
  pairs_in (k ∷ ks) = ap (λ z. pairs_of k ∷ z) (pairs_in ks)

  counts_block : (id other : ℕ) (kids ks : List Node) (order : List (ℕ × ℕ)) → map Counts kids ≡ map Counts ks → Counts (Block id kids order) ≡ Counts (Block other ks order)
  counts_block id other kids ks order e =
      let steps : map steps_of kids ≡ map steps_of ks = sym (steps_in kids) ∙ ap (map (λ (c : ℕ × ℕ). c.0)) e ∙ steps_in ks in
      let pairs : map pairs_of kids ≡ map pairs_of ks = sym (pairs_in kids) ∙ ap (map (λ (c : ℕ × ℕ). c.1)) e ∙ pairs_in ks in
      ap (λ z. (z, pairs_of (Block id kids order))) (steps_of-Block id kids order ∙ ap total steps ∙ sym (steps_of-Block other ks order))
      ∙ ap (λ z. (steps_of (Block other ks order), z))
      (pairs_of-Block id kids order ∙ ap (λ z. total z + products order (map steps_of kids)) pairs ∙ ap (λ z. total (map pairs_of ks) + products order z) steps ∙ sym (pairs_of-Block other ks order))

  counts_same : (n : Node) → Counts (renamed f n) ≡ Counts n
  counts_same = same_of Counts
      (λ id other a. ap (λ z. (z, pairs_of (Step id a))) (steps_of-Step id a ∙ sym (steps_of-Step other a)) ∙ ap (λ z. (steps_of (Step other a), z)) (pairs_of-Step id a ∙ sym (pairs_of-Step other a)))
      counts_block

  standing_same : (actions : List Action) (p : ℕ) (n : Node) → standing_of actions p (renamed f n) ≡ standing_of actions p n
  standing_same actions p = same_of (standing_of actions p)
      (λ id other a. standing_of-Step actions p id a ∙ sym (standing_of-Step actions p other a))
      (λ id other kids ks order e. standing_of-Block actions p id kids order ∙ ap (λ z. standing_step actions p (Node-F.Block id z order)) e ∙ sym (standing_of-Block actions p other ks order))

  pub alike : (task : TaskView) (root : Node) → IsAlike task root (renamed f root)
  alike task root = record {
    sound = (
      λ s. sound_where_each task (renamed f root) (λ p. ap (is_sound_for task p) (standing_same task.actions p root) ∙ sound_for_each task root s p),
      λ s. sound_where_each task root (λ p. ap (is_sound_for task p) (sym (standing_same task.actions p root)) ∙ sound_for_each task (renamed f root) s p),
    );
    depth = depth_same root;
    steps = steps_same root;
    pairs = ap (λ (c : ℕ × ℕ). c.1) (counts_same root);
    listed = listed_same root;
  }
