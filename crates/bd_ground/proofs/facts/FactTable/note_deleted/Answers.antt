use Rattle.std.proofs.Common.{ℕ, List, not, ap, sym, ◌∙◌, subst}
use Rattle.bd_ground.specs.Atoms.{filled}
use Rattle.bd_ground.specs.Mention.{Mentions}
use Rattle.bd_ground.proofs.MentionLemmas.{wanted_is, among_is}
use Rattle.bd_ground.proofs.facts.FactTable.note_deleted.Goals as goal

pub returns-clause-mentioned : goal.returns-clause-mentioned
returns-clause-mentioned c =
    let written = c.in_ok-refill.ensures ∙ ap (λ (z : List ℕ). filled z c.args.a.now) c.as_slice.ensures in
    subst (λ (z : List (List ℕ)). Mentions c.args.self.now z c.note.result c.note.new.self)
    (wanted_is _ _ _ _ (ap not (sym c.if-branch.false ∙ among_is _ _ _ _ _ _ _ c.in_ok-is_filled.ensures (c.deref.ensures.value ∙ written) c.as_slice-2.ensures c.as_slice-3.ensures)) (c.deref-2.ensures.value ∙ written))
    c.note.ensures.mentioned
