use Rattle.std.proofs.Common.{◌≡◌, ℕ, Bool, true, false, eqb, List, [], ◌∷◌, length, refl, sym, ap, ◌∙◌, arith}
use Rattle.std.proofs.lemmas.Bool.{ne_eqb}
use Rattle.bd_base.specs.Facts.{is_subset}
use Rattle.bd_shape.specs.Kids.{kid_ids}
use Rattle.bd_shape.proofs.KidLemmas.{kid_ids-Step, kid_ids-Block}
use Rattle.bd_shape.proofs.hulls.are_members.Goals as goal

none_only : (ids : List ℕ) → eqb (length ids) 0 ≡ is_subset ids []
none_only [] = refl
none_only (i ∷ ids) = ne_eqb (length (i ∷ ids)) 0 (λ e. omega arith)

pub returns-in-Step : goal.returns-in-Step
returns-in-Step c = c.is_empty.ensures ∙ none_only c.args.ids.now ∙ sym (ap (is_subset c.args.ids.now) (ap kid_ids c.in-Step.is ∙ kid_ids-Step c.in-Step.id c.in-Step.action))

pub returns-in-Block : goal.returns-in-Block
returns-in-Block c = c.are_listed.ensures ∙ ap (λ z. is_subset c.args.ids.now (Rattle.std.proofs.Common.map Rattle.bd_tree.specs.Tree.id_of z)) c.as_slice.ensures ∙ sym (ap (is_subset c.args.ids.now) (ap kid_ids c.in-Block.is ∙ kid_ids-Block c.in-Block.id c.in-Block.kids c.in-Block.order))
