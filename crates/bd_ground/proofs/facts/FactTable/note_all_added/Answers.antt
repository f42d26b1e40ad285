use Rattle.std.proofs.Common.{◌∷◌, [], ◌++◌, ℕ, List, map, length, ap, ◌∙◌, subst, arith}
use Rattle.pddl_types.specs.declared.terms.Atom.{Atom}
use Rattle.bd_ground.specs.Atoms.{filled, filled_all, mentioned_after, number_of}
use Rattle.bd_ground.specs.Mention.{Overflows}
use Rattle.bd_ground.proofs.MentionLemmas.{singles}
use Rattle.bd_ground.proofs.NotingLemmas.{noted-next, noted-overflow, noted_end}
use Rattle.bd_ground.proofs.facts.FactTable.note_all_added.Goals as goal

pub loop-a-preserved : goal.loop-a-preserved
loop-a-preserved c =
    let args = c.args.i.now.args in
    let x = c.a-item.result in
    noted-next (λ (a : Atom). filled args a ∷ []) c.args.self.now c.loop-a.self c.note_added.new.self c.loop-a.ids.items c.note_added.new.ids.items c.as_slice-a-items.result.now c.loop-a.a-index x x c.loop-a-test.true c.a-item.is c.loop-a.invariant
    (c.in-Ok.ensures.mentioned ∙ ap (λ (z : List (List ℕ)). mentioned_after c.loop-a.self z) (ap (λ (z : List ℕ). filled z x ∷ []) c.as_slice.ensures))
    (c.in-Ok.ensures.listed ∙ ap (λ (z : List (List ℕ)). c.loop-a.ids.items ++ map (λ g. number_of c.note_added.new.self g) z) (ap (λ (z : List ℕ). filled z x ∷ []) c.as_slice.ensures))

pub returns-in-Err-clause-mentioned : goal.returns-in-Err-clause-mentioned
returns-in-Err-clause-mentioned c =
    let args = c.args.i.now.args in
    let x = c.a-item.result in
    subst (λ (z : List (List ℕ)). Overflows c.in-Err.e (length (mentioned_after c.args.self.now z))) (singles (λ (a : Atom). filled args a) c.as_slice-a-items.result.now ∙ ap (λ (z : List Atom). filled_all args z) c.as_slice-a-items.ensures)
    (noted-overflow (λ (a : Atom). filled args a ∷ []) c.in-Err.e c.args.self.now c.loop-a.self c.loop-a.ids.items c.as_slice-a-items.result.now c.loop-a.a-index x x c.loop-a-test.true c.a-item.is c.loop-a.invariant
    (subst (λ (z : List (List ℕ)). Overflows c.in-Err.e (length (mentioned_after c.loop-a.self z))) (ap (λ (z : List ℕ). filled z x ∷ []) c.as_slice.ensures) c.in-Err.ensures.mentioned))

pub returns-clause-mentioned : goal.returns-clause-mentioned
returns-clause-mentioned c =
    let args = c.args.i.now.args in
    (noted_end (λ (a : Atom). filled args a ∷ []) c.args.self.now c.loop-a.self c.loop-a.ids.items c.as_slice-a-items.result.now c.loop-a.a-index _ c.loop-a.invariant (omega (arith, c.loop-a-test.false)) (singles (λ (a : Atom). filled args a) c.as_slice-a-items.result.now ∙ ap (λ (z : List Atom). filled_all args z) c.as_slice-a-items.ensures)).0

pub returns-clause-listed : goal.returns-clause-listed
returns-clause-listed c =
    let args = c.args.i.now.args in
    (noted_end (λ (a : Atom). filled args a ∷ []) c.args.self.now c.loop-a.self c.loop-a.ids.items c.as_slice-a-items.result.now c.loop-a.a-index _ c.loop-a.invariant (omega (arith, c.loop-a-test.false)) (singles (λ (a : Atom). filled args a) c.as_slice-a-items.result.now ∙ ap (λ (z : List Atom). filled_all args z) c.as_slice-a-items.ensures)).1
