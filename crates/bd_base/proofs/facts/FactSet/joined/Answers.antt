use Rattle.std.proofs.Common.{◌≡◌, ◌∙◌, IfOk, ap, sym, subst, List, ℕ}
use Rattle.bd_base.specs.Bits.{row_of}
use Rattle.bd_base.specs.Cells.{cells_of}
use Rattle.bd_base.specs.Facts.{IsRising, plus}
use Rattle.bd_base.specs.FactSet.{facts_of}
use Rattle.bd_base.proofs.SetLemmas.{plus-none, plus_turned}
use Rattle.bd_base.proofs.StoredLemmas.{rising_stored}
use Rattle.bd_base.proofs.facts.FactSet.joined.Goals as goal

pub returns-in-Empty : goal.returns-in-Empty
returns-in-Empty c =
    let of = c.args.of.now in
    let rising = subst IsRising c.of.view_is (rising_stored c.of.inside.form c.of.invariant) in
    let whole = plus-none of rising ∙ ap (λ (z : List ℕ). plus z of) (sym (ap facts_of c.in-Empty.is) ∙ c.self.view_is) in
    subst (λ (z : List ℕ). IfOk c.try_copy.result (λ s. s ≡ z)) whole c.try_copy.ensures

pub returns-in-Plain : goal.returns-in-Plain
returns-in-Plain c =
    let own = c.args.self.now in
    let of = c.args.of.now in
    let rising = subst IsRising c.of.view_is (rising_stored c.of.inside.form c.of.invariant) in
    let mine = subst IsRising c.self.view_is (rising_stored c.self.inside.form c.self.invariant) in
    let words = ap (row_of 0) c.deref.ensures.value ∙ sym (ap facts_of c.in-Plain.is) ∙ c.self.view_is in
    subst (λ (z : List ℕ). IfOk c.with_words.result (λ s. s ≡ z)) (ap (plus of) words ∙ plus_turned own of mine rising) c.with_words.ensures

pub returns-in-Numbered : goal.returns-in-Numbered
returns-in-Numbered c =
    let own = c.args.self.now in
    let of = c.args.of.now in
    let rising = subst IsRising c.of.view_is (rising_stored c.of.inside.form c.of.invariant) in
    let mine = subst IsRising c.self.view_is (rising_stored c.self.inside.form c.self.invariant) in
    let cells = ap cells_of c.deref-in-Numbered.ensures.value ∙ sym (ap facts_of c.in-Numbered.is) ∙ c.self.view_is in
    subst (λ (z : List ℕ). IfOk c.with_cells.result (λ s. s ≡ z)) (ap (plus of) cells ∙ plus_turned own of mine rising) c.with_cells.ensures
