use Rattle.std.proofs.Common.{◌≡◌, ◌+◌, ◌-◌, ◌<◌, ◌≤◌, ◌/◌, length, get_or, take, drop, sym, ap, ◌∙◌, inl, inr, ◌⊎◌, arith, length-drop, length-take-le, get_or-take, get_or-drop}
use Rattle.std.proofs.lemmas.Bool.{cases_lt}
use Rattle.std.proofs.lemmas.Grind.{get_or_default_zero}
use Rattle.bd_base.specs.Bits.{row_of}
use Rattle.bd_base.specs.Rows.{words_at}
use Rattle.bd_base.proofs.FactLemmas.{remove_absent}
use Rattle.bd_base.proofs.RemoveLemmas.{range_apart, range_within}
use Rattle.bd_base.proofs.SetLemmas.{clear_and, clear_single}
use Rattle.bd_base.proofs.WordLemmas.{row_end}
use Rattle.bd_base.proofs.spans.clear_place.Goals as goal

pub returns-then-at-span-clause-cleared : goal.returns-then-at-span-clause-cleared
returns-then-at-span-clause-cleared c =
    let words = c.args.words.now.items in
    let s = c.args.span.start in
    let e = c.args.span.end in
    let j = c.args.j in
    let k = j / 64 in
    let lt : k < e - s = c.if-at-span.true in
    let size : length (take (e - s) (drop s words)) ≡ e - s = length-take-le (e - s) (drop s words) (omega (arith, length-drop s words)) in
    let in_words : s + k < length words = omega (arith, lt) in
    let old : c.index.result.now ≡ get_or (words_at words c.args.span) k 0 =
    c.index.ensures ∙ get_or_default_zero words (s + k) c.index.result.now in_words ∙ sym (get_or-take (e - s) (drop s words) k 0 lt ∙ get_or-drop s words k 0) in
    ap (row_of 0) (range_within words k _ s e lt)
    ∙ clear_and (words_at words c.args.span) k _ c.index.result.now (omega (arith, size, lt)) old (omega arith)
    ∙ clear_single (row_of 0 (words_at words c.args.span)) j

pub returns-then-at-span-clause-others : goal.returns-then-at-span-clause-others
returns-then-at-span-clause-others c = λ other apart.
    let s = c.args.span.start in
    let k = c.args.j / 64 in
    let lt : k < c.args.span.end - s = c.if-at-span.true in
    let side : (other.end ≤ s + k) ⊎ (s + k < other.start) = elim (cases_lt other.start other.end) [
      | inl some ↦ elim (apart (omega (arith, lt)) some) [ inl le ↦ inl (omega (arith, le)) | inr le ↦ inr (omega (arith, le, lt)) ]
      | inr none ↦ elim (cases_lt (s + k) other.start) [ inl l ↦ inr l | inr g ↦ inl (omega (arith, none, g)) ]
    ] in
    range_apart c.args.words.now.items (s + k) _ other.start other.end side

pub returns-else-at-span-clause-cleared : goal.returns-else-at-span-clause-cleared
returns-else-at-span-clause-cleared c =
    let words = c.args.words.now.items in
    let s = c.args.span.start in
    let e = c.args.span.end in
    let j = c.args.j in
    let size : length (take (e - s) (drop s words)) ≡ e - s = length-take-le (e - s) (drop s words) (omega (arith, length-drop s words)) in
    let ge : e - s ≤ j / 64 = omega (arith, c.if-at-span.false) in
    sym (remove_absent (row_of 0 (words_at words c.args.span)) j (row_end (words_at words c.args.span) j (omega (arith, size, ge))))
