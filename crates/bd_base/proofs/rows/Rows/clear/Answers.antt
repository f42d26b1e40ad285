use Rattle.std.proofs.Common.{◌≡◌, ◌-◌, ◌<◌, ◌≤◌, length, get_or, sym, ap, ◌∙◌, subst, arith}
use Rattle.bd_base.specs.Bits.{row_of}
use Rattle.bd_base.specs.Facts.{remove_fact}
use Rattle.bd_base.specs.Pairs.{without_pair}
use Rattle.bd_base.specs.Rows.{words_at, pairs_of}
use Rattle.bd_base.specs.declared.spans.Span.{Span}
use Rattle.bd_base.proofs.RemoveLemmas.{pairs_removed, pairs_without_row, there_same, turn_apart}
use Rattle.bd_base.proofs.RowLemmas.{AreSpans-at}
use Rattle.bd_base.proofs.rows.Rows.clear.Goals as goal

pub returns-then-i-self : goal.returns-then-i-self
returns-then-i-self c =
    let r = c.self.inside in
    sym c.self.view_is ∙ pairs_without_row r.words.items c.args.i c.args.j r.spans.items r.first (λ m lt e. omega (arith, c.if-i-self.true, e)) ∙ ap (without_pair c.args.i c.args.j) c.self.view_is

pub returns-else-k-len : goal.returns-else-k-len
returns-else-k-len c =
    let r = c.self.inside in
    sym c.self.view_is ∙ pairs_without_row r.words.items c.args.i c.args.j r.spans.items r.first (λ m lt e. omega (arith, c.if-k-len.false, c.if-i-self.false, lt, e)) ∙ ap (without_pair c.args.i c.args.j) c.self.view_is

pub clear_place-requires : goal.clear_place-requires
clear_place-requires c =
    let r = c.self.inside in
    let k = c.args.i - r.first in
    let fits = AreSpans-at (length r.words.items) r.spans.items k c.index.result.now c.self.invariant.1 (omega arith) in
    let is : c.index.result.now ≡ get_or r.spans.items k c.index.result.now = c.index.ensures in
    subst (λ (z : Span). (z.start ≤ z.end) × (z.end ≤ length r.words.items)) (sym is) (fits.0, fits.1)

pub returns-then-k-len : goal.returns-then-k-len
returns-then-k-len c =
    let r = c.self.inside in
    let i = c.args.i in
    let j = c.args.j in
    let spans = r.spans.items in
    let k = i - r.first in
    let d = c.index.result.now in
    let lt_k : k < length spans = omega (arith, c.if-k-len.true) in
    let is : d ≡ get_or spans k d = c.index.ensures in
    let changed = c.clear_place.new.words.items in
    pairs_removed r.words.items changed i j spans r.first
    (λ m e lt ne. c.clear_place.ensures.others (get_or spans m e) (λ some.
    let apart = turn_apart 0 spans k m d c.self.invariant.2 lt_k lt (λ same. ne (omega (arith, same, c.if-i-self.false))) (subst (λ (z : Span). z.start < z.end) is some) in
    subst (λ (z : Span). Rattle.bd_base.specs.Rows.IsApart z (get_or spans m e)) (sym is) (subst (λ (z : Span). Rattle.bd_base.specs.Rows.IsApart (get_or spans k d) z) (there_same spans m d e lt) apart)))
    (λ m e lt same.
    let at : m ≡ k = omega (arith, same) in
    let span : get_or spans m e ≡ d = there_same spans m e d lt ∙ ap (λ z. get_or spans z d) at ∙ sym is in
    ap (λ (z : Span). row_of 0 (words_at changed z)) span ∙ c.clear_place.ensures.cleared ∙ sym (ap (λ (z : Span). remove_fact j (row_of 0 (words_at r.words.items z))) span))
    ∙ ap (without_pair i j) c.self.view_is
