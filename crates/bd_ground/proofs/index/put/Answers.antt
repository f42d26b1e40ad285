use Rattle.std.proofs.Common.{ℕ, List, refl, sym, ap, ◌∙◌}
use Rattle.bd_ground.specs.Atoms.{with_atom}
use Rattle.std.proofs.lemmas.Result.{on_ok_weaker}
use Rattle.bd_ground.proofs.IndexLemmas.{seen, seen_row, seen-push, seen-even, at_key, number_fits, put_there, put_new}
use Rattle.bd_ground.proofs.index.put.Goals as goal

pub push_at-requires : goal.push_at-requires
push_at-requires c =
    number_fits c.args.keys.now c.args.rows.now.items c.args.key.now c.in-Some.n c.requires.even
    (at_key c.args.keys.now c.args.key.now _ _ (sym c.in-Some.is ∙ c.number.ensures) refl)

pub returns-in-Some-clause-put : goal.returns-in-Some-clause-put
returns-in-Some-clause-put c =
    on_ok_weaker c.push_at.result (λ made.
    put_there c.args.keys.now (seen c.args.rows.now.items) (seen c.push_at.new.rows.items) c.args.key.now c.args.g.now c.in-Some.n (seen-even c.args.keys.now c.args.rows.now.items c.requires.even)
    (at_key c.args.keys.now c.args.key.now _ _ (sym c.in-Some.is ∙ c.number.ensures) refl) made) c.push_at.ensures

pub returns-in_ok-push-in-None-clause-put : goal.returns-in_ok-push-in-None-clause-put
returns-in_ok-push-in-None-clause-put c =
    put_new c.args.keys.now c.mention.new.self (seen c.args.rows.now.items) (seen c.push.new.self.items) c.args.key.now c.args.g.now (seen_row c.in_ok-row-in-None.row) (seen-even c.args.keys.now c.args.rows.now.items c.requires.even)
    (at_key c.args.keys.now c.args.key.now _ _ (sym c.in-None.is ∙ c.number.ensures) refl) (c.in_ok-mention-in-None.ensures.ok ∙ ap (λ (z : List ℕ). with_atom z c.args.keys.now) c.in_ok-from_slice-in-None.ensures.items) c.in_ok-row-in-None.ensures
    (seen-push c.args.rows.now.items c.push.new.self.items c.in_ok-row-in-None.row c.in_ok-push-in-None.ensures.items)
