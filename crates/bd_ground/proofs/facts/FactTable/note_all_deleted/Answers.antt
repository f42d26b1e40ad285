use Rattle.std.proofs.Common.{◌∷◌, [], ℕ, cond, not, List, map, filter, length, ap, sym, ◌∙◌, subst, arith}
use Rattle.pddl_types.specs.declared.terms.Atom.{Atom}
use Rattle.bd_ground.specs.Atoms.{filled, is_among, mentioned_after}
use Rattle.bd_ground.specs.Mention.{Overflows}
use Rattle.bd_ground.specs.Sight.{instance_of}
use Rattle.bd_ground.specs.Task.{added}
use Rattle.bd_ground.proofs.MentionLemmas.{picked, filter-map}
use Rattle.bd_ground.proofs.NotingLemmas.{noted-next, noted-overflow, noted_end}
use Rattle.bd_ground.proofs.facts.FactTable.note_all_deleted.Goals as goal

pub loop-a-preserved : goal.loop-a-preserved
loop-a-preserved c =
    let i = c.args.i.now in
    let f = λ (a : Atom). filled i.args a in
    let t = λ (g : List ℕ). not (is_among g (added (instance_of i))) in
    let x = c.a-item.result in
    noted-next (λ (a : Atom). cond (t (f a)) (f a ∷ []) []) c.args.self.now c.loop-a.self c.note_deleted.new.self c.loop-a.ids.items c.note_deleted.new.ids.items c.as_slice-a-items.result.now c.loop-a.a-index x x c.loop-a-test.true c.a-item.is c.loop-a.invariant
    (c.in-Ok.ensures.mentioned)
    (c.in-Ok.ensures.listed)

pub returns-in-Err-clause-mentioned : goal.returns-in-Err-clause-mentioned
returns-in-Err-clause-mentioned c =
    let i = c.args.i.now in
    let f = λ (a : Atom). filled i.args a in
    let t = λ (g : List ℕ). not (is_among g (added (instance_of i))) in
    let x = c.a-item.result in
    subst (λ (z : List (List ℕ)). Overflows c.in-Err.e (length (mentioned_after c.args.self.now z))) (picked (λ (a : Atom). t (f a)) f c.as_slice-a-items.result.now ∙ sym (filter-map t f c.as_slice-a-items.result.now) ∙ ap (λ (z : List Atom). filter t (map f z)) c.as_slice-a-items.ensures)
    (noted-overflow (λ (a : Atom). cond (t (f a)) (f a ∷ []) []) c.in-Err.e c.args.self.now c.loop-a.self c.loop-a.ids.items c.as_slice-a-items.result.now c.loop-a.a-index x x c.loop-a-test.true c.a-item.is c.loop-a.invariant
    (c.in-Err.ensures.mentioned))

pub returns-clause-mentioned : goal.returns-clause-mentioned
returns-clause-mentioned c =
    let i = c.args.i.now in
    let f = λ (a : Atom). filled i.args a in
    let t = λ (g : List ℕ). not (is_among g (added (instance_of i))) in
    (noted_end (λ (a : Atom). cond (t (f a)) (f a ∷ []) []) c.args.self.now c.loop-a.self c.loop-a.ids.items c.as_slice-a-items.result.now c.loop-a.a-index _ c.loop-a.invariant (omega (arith, c.loop-a-test.false)) (picked (λ (a : Atom). t (f a)) f c.as_slice-a-items.result.now ∙ sym (filter-map t f c.as_slice-a-items.result.now) ∙ ap (λ (z : List Atom). filter t (map f z)) c.as_slice-a-items.ensures)).0

pub returns-clause-listed : goal.returns-clause-listed
returns-clause-listed c =
    let i = c.args.i.now in
    let f = λ (a : Atom). filled i.args a in
    let t = λ (g : List ℕ). not (is_among g (added (instance_of i))) in
    (noted_end (λ (a : Atom). cond (t (f a)) (f a ∷ []) []) c.args.self.now c.loop-a.self c.loop-a.ids.items c.as_slice-a-items.result.now c.loop-a.a-index _ c.loop-a.invariant (omega (arith, c.loop-a-test.false)) (picked (λ (a : Atom). t (f a)) f c.as_slice-a-items.result.now ∙ sym (filter-map t f c.as_slice-a-items.result.now) ∙ ap (λ (z : List Atom). filter t (map f z)) c.as_slice-a-items.ensures)).1
