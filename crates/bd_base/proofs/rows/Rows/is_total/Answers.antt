use Rattle.std.proofs.Common.{◌-◌, List, ℕ, false, refl, ap, sym, ◌∙◌, arith}
use Rattle.std.proofs.lemmas.Bool.{both_ways}
use Rattle.bd_base.specs.Bits.{upto}
use Rattle.bd_base.specs.Pairs.{after_of}
use Rattle.bd_base.proofs.RunLemmas.{total_from_rows, after_total, too_many}
use Rattle.bd_base.proofs.rows.Rows.is_total.Goals as goal

pub returns-then-n : goal.returns-then-n
returns-then-n c =
    let r = c.self.inside in
    (λ h. absurd (both_ways false refl h), λ e. absurd (too_many r.words.items r.first c.args.n r.spans.items c.self.invariant.0 (omega arith) (c.self.view_is ∙ e)))

pub returns-then-not-is_run : goal.returns-then-not-is_run
returns-then-not-is_run c =
    let n = c.args.n in
    let i = c.loop-i.i in
    let row = ap (λ z. upto z (n - z)) (sym c.min.ensures) in (
      λ h. absurd (both_ways false refl h),
      λ e. absurd (both_ways _ c.if-not-is_run.true (c.is_run.ensures.1 (c.row.ensures.row ∙ ap (λ (z : List (ℕ × ℕ)). after_of z i) e ∙ after_total n i ∙ row))),
    )

pub returns : goal.returns
returns c =
    let r = c.self.inside in (
      λ _. sym c.self.view_is
          ∙ total_from_rows r.words.items r.first c.args.n c.loop-i.i r.spans.items (omega arith) (omega arith)
          (λ k lt. ap (λ (z : List (ℕ × ℕ)). after_of z k) c.self.view_is ∙ c.loop-i.invariant k lt),
      λ _. refl,
    )
