use Rattle.std.proofs.Common.{◌≡◌, ℕ, ap, sym, ◌∙◌, not, ◌&&◌, ◌==◌, rules}
use Rattle.std.proofs.lemmas.Fn.{filter_same}
use Rattle.bd_base.specs.declared.pairs.Form.{Form}
use Rattle.bd_base.specs.Pairs.{without_pair}
use Rattle.bd_base.specs.PairList.{pairs_in}
use Rattle.bd_base.specs.contracts.pairs.PairList as pairs
use Rattle.bd_base.proofs.pairs.PairList.remove.Goals as goal
use Rattle.bd_base.proofs.pairs.PairList.remove.Goals.{in-Listed, in-InRows}

pub returns : goal.returns
returns c = elim c.match-self.branch [
  | in-Listed w ↦
      ap pairs.the_view w.self-inside-is
      ∙ (let e : w.retain.new.self.items ≡ without_pair c.args.i c.args.j w.in-Listed.pairs.items = filter_same _ (λ (p : ℕ × ℕ). not (p.0 == c.args.i && p.1 == c.args.j)) _ (λ x b g k. search rules) _ _ w.retain.ensures.filtered in e)
      ∙ ap (without_pair c.args.i c.args.j) (sym (ap (λ (z : Form). pairs_in z) w.in-Listed.is) ∙ c.self.view_is)
  | in-InRows w ↦
      ap pairs.the_view w.self-inside-is
      ∙ w.remove.ensures
      ∙ ap (without_pair c.args.i c.args.j) (sym (ap (λ (z : Form). pairs_in z) w.in-InRows.is) ∙ c.self.view_is)
]
