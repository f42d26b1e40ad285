use Rattle.std.proofs.Common.{◌≡◌, ◌++◌, ℕ, true, eqb, ltb, ◌∙◌, sym, ap, rules}
use Rattle.std.specs.List.{list_all}
use Rattle.bd_tree.proofs.GapLemmas.{rows_begin, row_of_rest, rows_next, row_has_gap, row_has_none, parts_of}
use Rattle.bd_tree.proofs.misfit.first_gap.Goals as goal

pub loop-i-init : goal.loop-i-init
loop-i-init c = record {
  gap = search rules;
  left = rows_begin c.args.order.now _ (c.as_slice-rest.ensures.value ∙ c.in_ok-pairs.ensures) c.requires;
}

pub gap_in_row-requires-clause-row : goal.gap_in_row-requires-clause-row
gap_in_row-requires-clause-row c =
    let own : list_all (λ (p : ℕ × ℕ). eqb p.0 c.loop-i.i) c.split_at.result.0.now ≡ true = ap (list_all (λ (p : ℕ × ℕ). eqb p.0 c.loop-i.i)) c.split_at.ensures.front ∙ c.row_length.ensures.row in
    let above : list_all (λ (p : ℕ × ℕ). ltb c.loop-i.i p.0) c.split_at.result.1.now ≡ true = ap (list_all (λ (p : ℕ × ℕ). ltb c.loop-i.i p.0)) c.split_at.ensures.back ∙ c.row_length.ensures.behind c.loop-i.invariant.left.rising c.loop-i.invariant.left.begins in
    let split : c.split_at.result.0.now ++ c.split_at.result.1.now ≡ c.loop-i.rest.now = parts_of c.loop-i.rest.now _ _ c.row_length.result c.split_at.ensures.front c.split_at.ensures.back in
    row_of_rest c.args.order.now c.loop-i.i c.loop-i.rest.now _ _ c.loop-i.invariant.left split own above

pub returns-in-Some : goal.returns-in-Some
returns-in-Some c = sym (sym c.loop-i.invariant.gap ∙ row_has_gap c.args.order.now c.loop-i.i c.args.n c.loop-i-test.true c.in-Some.gap c.in-Some.ensures)

pub loop-i-preserved : goal.loop-i-preserved
loop-i-preserved c =
    let own : list_all (λ (p : ℕ × ℕ). eqb p.0 c.loop-i.i) c.split_at.result.0.now ≡ true = ap (list_all (λ (p : ℕ × ℕ). eqb p.0 c.loop-i.i)) c.split_at.ensures.front ∙ c.row_length.ensures.row in
    let above : list_all (λ (p : ℕ × ℕ). ltb c.loop-i.i p.0) c.split_at.result.1.now ≡ true = ap (list_all (λ (p : ℕ × ℕ). ltb c.loop-i.i p.0)) c.split_at.ensures.back ∙ c.row_length.ensures.behind c.loop-i.invariant.left.rising c.loop-i.invariant.left.begins in
    let split : c.split_at.result.0.now ++ c.split_at.result.1.now ≡ c.loop-i.rest.now = parts_of c.loop-i.rest.now _ _ c.row_length.result c.split_at.ensures.front c.split_at.ensures.back in
    record {
      gap = sym (row_has_none c.args.order.now c.loop-i.i c.args.n c.loop-i-test.true c.in-None.ensures) ∙ c.loop-i.invariant.gap;
      left = rows_next c.args.order.now c.loop-i.i c.loop-i.rest.now _ _ c.loop-i.invariant.left split own above;
    }
