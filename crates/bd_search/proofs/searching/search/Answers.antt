use Rattle.std.proofs.Common.{arith, refl, ap, ◌∙◌, length, ◌≤◌, ◌≡◌, ◌<◌, ◌+◌, ◌-◌, ◌*◌, ◌∷◌, [], ℕ, List, subst, sym, length-append}
use Rattle.bd_states.specs.declared.entry.Entry.{Entry}
use Rattle.bd_search.proofs.SearchLemmas.{count_popped, skipped, linked, closed_next, spent_now, found_now, exhausted_now}
use Rattle.bd_search.proofs.StepLemmas.{closed_less}
use Rattle.bd_search.proofs.searching.search.Goals as goal

pub loop-entry-smaller-then-branch : goal.loop-entry-smaller-then-branch
loop-entry-smaller-then-branch c =
    let n = count_popped c.args.task.now c.args.bound c.init.ensures.task c.loop-entry.closed c.loop-entry.opened c.take.new.self c.in-Some.entry c.loop-entry.invariant.search c.in-Some.ensures.taken in
    omega (arith, n)

pub loop-entry-preserved-then-branch : goal.loop-entry-preserved-then-branch
loop-entry-preserved-then-branch c = record {
  search = skipped c.args.task.now c.args.bound c.init.ensures.task c.loop-entry.closed c.loop-entry.opened c.take.new.self c.in-Some.entry c.loop-entry.invariant.search c.in-Some.ensures.taken
      c.loop-entry.closed refl (c.in_ok-has.ensures.has c.if-branch.true);
  ready = c.loop-entry.invariant.ready;
  few = c.loop-entry.invariant.few;
}

pub way_to-requires : goal.way_to-requires
way_to-requires c =
    linked c.args.task.now c.args.bound c.init.ensures.task c.loop-entry.closed c.loop-entry.opened c.take.new.self c.in-Some.entry c.loop-entry.invariant.search c.in-Some.ensures.taken
    c.loop-entry.closed c.as_slice.result.now refl c.as_slice.ensures (c.in_ok-has.ensures.lacks c.if-branch.false)

pub returns-then-subset-clause-verdict : goal.returns-then-subset-clause-verdict
returns-then-subset-clause-verdict c =
    found_now c.args.task.now c.args.bound c.init.ensures.task c.loop-entry.closed c.loop-entry.opened c.take.new.self c.in-Some.entry c.loop-entry.invariant.search c.in-Some.ensures.taken
    c.in_ok-way_to.field-0 c.goal.result.now c.goal.ensures.set c.if-subset.ensures c.in_ok-way_to.ensures c.in-Some.ensures.least

pub returns-then-as_slice-nodes-clause-verdict : goal.returns-then-as_slice-nodes-clause-verdict
returns-then-as_slice-nodes-clause-verdict c = (
  spent_now c.args.task.now c.args.bound c.init.ensures.task c.loop-entry.closed c.loop-entry.opened c.take.new.self c.in-Some.entry c.loop-entry.invariant.search c.in-Some.ensures.taken
      c.args.nodes (subst (λ (z : List Entry). c.args.nodes ≤ length z) c.as_slice-in-Some.ensures c.if-as_slice-nodes.true) c.in-Some.ensures.least,
  refl,
)

pub expand-requires-clause-search : goal.expand-requires-clause-search
expand-requires-clause-search c =
    closed_next c.args.task.now c.args.bound c.init.ensures.task c.loop-entry.closed c.loop-entry.opened c.take.new.self c.in-Some.entry c.loop-entry.invariant.search c.in-Some.ensures.taken
    c.loop-entry.closed c.add.new.self c.goal.result.now c.subset.result refl c.in_ok-add.ensures.ok (c.in_ok-has.ensures.lacks c.if-branch.false)
    c.goal.ensures.set c.subset.ensures c.if-subset.false c.in-Some.ensures.least

pub loop-entry-smaller : goal.loop-entry-smaller
loop-entry-smaller c =
    let n = count_popped c.args.task.now c.args.bound c.init.ensures.task c.loop-entry.closed c.loop-entry.opened c.take.new.self c.in-Some.entry c.loop-entry.invariant.search c.in-Some.ensures.taken in
    let closed : length c.loop-entry.closed < c.args.nodes = subst (λ (z : List Entry). length z < c.args.nodes) c.as_slice-in-Some.ensures c.if-as_slice-nodes.false in
    let more : length c.add.new.self ≡ length c.loop-entry.closed + 1 = ap (λ (xs : List Entry). length xs) c.in_ok-add.ensures.ok ∙ length-append c.loop-entry.closed (c.in-Some.entry ∷ []) in
    let few : length c.expand.new.opened ≤ length c.take.new.self + length c.args.task.now.actions = c.in_ok-expand.ensures.few in
    subst (λ (k : ℕ). (c.args.nodes - k) * (length c.args.task.now.actions + 1) + length c.expand.new.opened < (c.args.nodes - length c.loop-entry.closed) * (length c.args.task.now.actions + 1) + length c.loop-entry.opened) (sym more)
    (closed_less c.args.nodes (length c.loop-entry.closed) (length c.args.task.now.actions) (length c.loop-entry.opened) (length c.take.new.self) (length c.expand.new.opened) closed n few)

pub returns-clause-verdict : goal.returns-clause-verdict
returns-clause-verdict c = exhausted_now c.args.task.now c.args.bound c.init.ensures.task c.loop-entry.closed c.loop-entry.opened c.loop-entry.invariant.search c.in_default.ensures.taken
