use Rattle.std.proofs.Common.{◌≡◌, ◌∙◌, ◌∷◌, [], false, List, ℕ, ap, sym, refl, rules}
use Rattle.bd_base.specs.Facts.{is_subset}
use Rattle.bd_base.specs.Pairs.{after_of}
use Rattle.bd_base.proofs.ClosedLemmas.{closes, closed_by_rows}
use Rattle.bd_base.proofs.pairs.PairList.is_closed.Goals as goal

pub returns-then-not-within : goal.returns-then-not-within
returns-then-not-within c =
    let order = c.args.self.now in
    let split : c.loop-p.p-iterator ≡ c.in-Some.p ∷ c.next.new.self = search rules in
    let rows = ap (λ (z : List ℕ). is_subset z c.after-in-loop-p.result) c.after.ensures ∙ ap (is_subset (after_of order c.in-Some.p.1)) c.after-in-loop-p.ensures in
    let off : closes order c.in-Some.p ≡ false = sym (sym c.if-not-within.true ∙ c.within.ensures ∙ rows) in
    sym (sym (closed_by_rows order) ∙ sym c.loop-p.invariant ∙ rw (split, off) refl)

pub returns : goal.returns
returns c =
    let order = c.args.self.now in
    let done : c.loop-p.p-iterator ≡ [] = search rules in
    sym (sym (closed_by_rows order) ∙ sym c.loop-p.invariant ∙ rw done refl)
