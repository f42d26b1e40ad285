use Rattle.std.proofs.Common.{◌≡◌, ℕ, ◌+◌, ◌≤◌, ◌||◌, List, ◌∷◌, length, ap, sym, ◌∙◌, subst, arith}
use Rattle.std.specs.Prelude.{slice_index}
use Rattle.bd_base.specs.Facts.{has}
use Rattle.bd_merge.specs.Starts.{RiseBetween, is_between, is_in_run}
use Rattle.bd_merge.proofs.RiseLemmas.{begins, ends, goes_on, ok_then, rise_few, rise_lower, run_nothing, tail_is_run}
use Rattle.bd_merge.proofs.ordering.put_all.Goals.{then-j-to+in_ok-put_kids-2, else-j-to}
use Rattle.bd_merge.proofs.ordering.put_all.Goals as goal

pub overflow_add-i-2 : goal.overflow_add-i-2
overflow_add-i-2 c = omega (arith, rise_few (c.args.i + 1) c.args.olds c.args.after.now (omega (arith, c.requires.within)) c.requires.row, c.requires.within)

pub returns-then-i-left : goal.returns-then-i-left
returns-then-i-left c =
    ok_then c.put_kids.result _ _ c.put_kids.ensures (λ put q. put q ∙ ap (λ z. has c.args.row.now q || z) (sym (tail_is_run c.args.starts.now c.args.olds c.requires.starts (c.args.i + 1) c.args.after.now q c.requires.row (omega arith))))

pub loop-j-init : goal.loop-j-init
loop-j-init c =
    let starts = c.args.starts.now in
    let items : c.into_iter-j-iterator.result ≡ c.args.after.now = c.into_iter-j-iterator.ensures.into_iter_gives ∙ c.iter-j-items.ensures in
    record {
      run = (omega arith, omega arith);
      left = c.len-left.ensures ∙ sym (ap (λ (z : List ℕ). length z) items);
      rest = subst (λ (z : List ℕ). RiseBetween 0 c.args.olds z) (sym items) (rise_lower (c.args.i + 1) 0 c.args.olds c.args.after.now (omega arith) c.requires.row);
      put = λ q. run_nothing (slice_index starts 0) q (has c.args.row.now q) (is_between starts c.into_iter-j-iterator.result q) ∙ ap (λ (z : List ℕ). has c.args.row.now q || is_between starts z q) items;
    }

pub overflow_add-j : goal.overflow_add-j
overflow_add-j c =
    let j = c.in-Some.j in
    let rest : RiseBetween 0 c.args.olds (j ∷ c.next.new.self) = subst (λ (z : List ℕ). RiseBetween 0 c.args.olds z) c.in-Some.ensures.steps c.loop-j.invariant.rest in
    let few : length c.next.new.self + (j + 1) ≤ c.args.olds = rise_few (j + 1) c.args.olds c.next.new.self (omega (arith, rest.1)) rest.2 in
    omega (arith, few, c.loop-j.invariant.left, ap (λ (z : List ℕ). length z) c.in-Some.ensures.steps)

pub returns-then-j-left : goal.returns-then-j-left
returns-then-j-left c =
    let starts = c.args.starts.now in
    let j = c.in-Some.j in
    let js = c.next.new.self in
    let inv = c.loop-j.invariant in
    let rest : RiseBetween 0 c.args.olds (j ∷ js) = subst (λ (z : List ℕ). RiseBetween 0 c.args.olds z) c.in-Some.ensures.steps inv.rest in
    let many : length (j ∷ js) + j ≡ c.args.olds = omega (arith, inv.left, ap (λ (z : List ℕ). length z) c.in-Some.ensures.steps, c.if-j-left.true) in
    ok_then c.put_kids-then-j-left-2.result _ _ c.put_kids-then-j-left-2.ensures (λ last. ends starts c.args.olds c.requires.starts c.loop-j.from c.loop-j.to inv.run.0 inv.run.1 (has c.loop-j.row) (has c.args.row.now) j js c.args.after.now rest.1
    (λ q. ap (λ (z : List ℕ). (has c.loop-j.row q || is_in_run (slice_index starts c.loop-j.from) (slice_index starts c.loop-j.to) q) || is_between starts z q) (sym c.in-Some.ensures.steps) ∙ inv.put q)
    (omega arith, rest.1, rest.2) many (has c.put_kids-then-j-left.new.row) (has c.put_kids-then-j-left-2.new.row) c.in_ok-put_kids.ensures last)

pub loop-j-preserved : goal.loop-j-preserved
loop-j-preserved c =
    let starts = c.args.starts.now in
    let j = c.in-Some.j in
    let js = c.next.new.self in
    let inv = c.loop-j.invariant in
    let rest : RiseBetween 0 c.args.olds (j ∷ js) = subst (λ (z : List ℕ). RiseBetween 0 c.args.olds z) c.in-Some.ensures.steps inv.rest in
    let so_far : (q : ℕ) → ((has c.loop-j.row q || is_in_run (slice_index starts c.loop-j.from) (slice_index starts c.loop-j.to) q) || is_between starts (j ∷ js) q) ≡ (has c.args.row.now q || is_between starts c.args.after.now q) =
    λ q. ap (λ (z : List ℕ). (has c.loop-j.row q || is_in_run (slice_index starts c.loop-j.from) (slice_index starts c.loop-j.to) q) || is_between starts z q) (sym c.in-Some.ensures.steps) ∙ inv.put q in
    let low : c.if-j-to.from ≤ j + 1 = elim c.if-j-to.branch [
      | then-j-to+in_ok-put_kids-2 w ↦ omega (arith, w.from-is)
      | else-j-to w ↦ omega (arith, w.from-is, w.if-j-to.false, inv.run.0)
    ] in
    let put : (q : ℕ) → ((has c.if-j-to.row q || is_in_run (slice_index starts c.if-j-to.from) (slice_index starts (j + 1)) q) || is_between starts js q) ≡ (has c.args.row.now q || is_between starts c.args.after.now q) = λ q. elim c.if-j-to.branch [
      | then-j-to+in_ok-put_kids-2 w ↦
          ap (λ (z : List ℕ). (has z q || is_in_run (slice_index starts c.if-j-to.from) (slice_index starts (j + 1)) q) || is_between starts js q) w.row-is
          ∙ ap (λ z. (has w.put_kids-then-j-to.new.row q || is_in_run (slice_index starts z) (slice_index starts (j + 1)) q) || is_between starts js q) w.from-is
          ∙ begins starts c.args.olds c.requires.starts c.loop-j.from c.loop-j.to inv.run.0 inv.run.1 (has c.loop-j.row) (has c.args.row.now) j js c.args.after.now rest.1 so_far (has w.put_kids-then-j-to.new.row) w.in_ok-put_kids-2.ensures q
      | else-j-to w ↦
          ap (λ (z : List ℕ). (has z q || is_in_run (slice_index starts c.if-j-to.from) (slice_index starts (j + 1)) q) || is_between starts js q) w.row-is
          ∙ ap (λ z. (has c.loop-j.row q || is_in_run (slice_index starts z) (slice_index starts (j + 1)) q) || is_between starts js q) w.from-is
          ∙ goes_on starts c.args.olds c.requires.starts c.loop-j.from c.loop-j.to inv.run.0 inv.run.1 (has c.loop-j.row) (has c.args.row.now) j js c.args.after.now rest.1 so_far w.if-j-to.false q
    ] in
    record {
      run = (low, omega (arith, rest.1));
      left = omega (arith, inv.left, ap (λ (z : List ℕ). length z) c.in-Some.ensures.steps);
      rest = rise_lower (j + 1) 0 c.args.olds js (omega arith) rest.2;
      put = put;
    }
