use Rattle.std.proofs.Common.{◌≡◌, ℕ, ◌+◌, ◌++◌, List, map, drop, sym, ap, ◌∙◌, append_assoc}
use Rattle.bd_tree.specs.declared.node.Node.{Node}
use Rattle.bd_tree.specs.Tree.{listed_of, joined}
use Rattle.bd_links.specs.Sound.{are_below}
use Rattle.bd_links.proofs.Steps.{drop-at, all-drop-next}
use Rattle.run_texts.specs.Texts.{plan_lines}
use Rattle.run_texts.proofs.TextLemmas.{plan_lines-append}
use Rattle.run_texts.proofs.better.+push_steps.Goals as goal

pub loop-kid-preserved : goal.loop-kid-preserved
loop-kid-preserved t c =
    let task = c.args.task.now in
    let kids = c.as_slice-kid-items.result.now in
    let i = c.loop-kid.kid-index in
    let kid = c.kid-item.result in
    let rest = drop (i + 1) kids in
    let left = drop-at kids i kid c.loop-kid-test.true c.kid-item.is in
    let lines : plan_lines task (joined (map listed_of (drop i kids))) ≡ plan_lines task (listed_of kid) ++ plan_lines task (joined (map listed_of rest)) =
    ap (λ (z : List Node). plan_lines task (joined (map listed_of z))) left ∙ plan_lines-append task (listed_of kid) (joined (map listed_of rest)) in
    record {
      below = all-drop-next (are_below _) kids i kid c.loop-kid-test.true c.kid-item.is c.loop-kid.invariant.below;
      text = ap (λ (z : List ℕ). z ++ plan_lines task (joined (map listed_of rest))) c.in_ok-push_steps-in-Block.ensures
          ∙ append_assoc c.loop-kid.text.items (plan_lines task (listed_of kid)) (plan_lines task (joined (map listed_of rest)))
          ∙ ap (λ (z : List ℕ). c.loop-kid.text.items ++ z) (sym lines) ∙ c.loop-kid.invariant.text;
    }
