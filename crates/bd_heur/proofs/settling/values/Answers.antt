use Rattle.std.proofs.Common.{refl, ap, ◌∙◌, ◌∷◌, arith}
use Rattle.std.proofs.lemmas.List.Sorted.{length_permutation}
use Rattle.bd_heur.specs.Tables.{value_in}
use Rattle.bd_heur.specs.Index.{row_at}
use Rattle.bd_heur.proofs.SettlingLemmas.{start_settling, stale, taken_out, settled}
use Rattle.bd_heur.proofs.settling.values.Goals as goal

pub relax_all-requires-clause-settling : goal.relax_all-requires-clause-settling
relax_all-requires-clause-settling c =
    start_settling c.args.join c.args.task.now c.args.s.now c.init.ensures.task c.args.index.now.needers.items c.args.index.now.free.items c.deref.result.now c.in_ok-table.table.items c.start.new.queue
    c.requires.needers c.deref.ensures.value (c.in_ok-table.ensures c.new-queue.ensures)

pub loop-waiting-preserved-then-not-is_label : goal.loop-waiting-preserved-then-not-is_label
loop-waiting-preserved-then-not-is_label c =
    stale c.args.join c.args.task.now c.args.s.now c.init.ensures.task c.loop-waiting.table.items c.loop-waiting.queue c.take.new.self c.in-Some.waiting c.in-Some.ensures
    (λ e. c.if-not-is_label.ensures.no refl (c.value_at.ensures ∙ ap (λ z. value_in z c.in-Some.waiting.fact) c.deref-in-Some.ensures.value ∙ e)) c.loop-waiting.invariant

pub loop-waiting-smaller-then-not-is_label : goal.loop-waiting-smaller-then-not-is_label
loop-waiting-smaller-then-not-is_label c = let n = length_permutation c.loop-waiting.queue (c.in-Some.waiting ∷ c.take.new.self) c.in-Some.ensures in omega (arith, n)

pub returns : goal.returns
returns c = settled c.args.join c.args.task.now c.args.s.now c.init.ensures.task c.loop-waiting.table.items c.loop-waiting.queue c.in_default.ensures c.loop-waiting.invariant

pub relax_all-requires-in-Some-clause-settling : goal.relax_all-requires-in-Some-clause-settling
relax_all-requires-in-Some-clause-settling c =
    taken_out c.args.join c.args.task.now c.args.s.now c.init.ensures.task c.args.index.now.needers.items c.args.index.now.free.items c.row_of-row.result.now c.loop-waiting.table.items
    c.loop-waiting.queue c.take.new.self c.in-Some.waiting c.requires.needers (c.row_of-row.ensures ∙ ap (λ z. row_at z c.in-Some.waiting.fact) c.deref-in-Some-2.ensures.value) c.in-Some.ensures c.loop-waiting.invariant

pub loop-waiting-smaller : goal.loop-waiting-smaller
loop-waiting-smaller c =
    let n = length_permutation c.loop-waiting.queue (c.in-Some.waiting ∷ c.take.new.self) c.in-Some.ensures in
    let light = c.in_ok-relax_all-2.ensures.light in
    omega (arith, n, light)
