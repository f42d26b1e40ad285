use Rattle.std.proofs.Common.{◌∙◌, ap, ℕ, ◌++◌, codes}
use Rattle.bd_gen.specs.Errands.{length_of, titled}
use Rattle.bd_gen.proofs.TurnLemmas.{three}
use Rattle.bd_gen.proofs.lines.push_length_out.Goals as goal

pub returns : goal.returns
returns c =
    three c.args.text.now.items c.push_titled.new.text.items c.push_titled-2.new.text.items c.extend_from_slice.new.self.items
    (titled (codes " (= (len l0 l") c.args.i) (titled (codes ") ") (length_of c.args.i)) (codes ")")
    c.in_ok-push_titled.ensures
    (c.in_ok-push_titled-2.ensures ∙ ap (λ (n : ℕ). c.push_titled.new.text.items ++ titled (codes ") ") n) c.length_of.ensures)
    c.in_ok-extend_from_slice.ensures.items
