use Rattle.std.proofs.Common.{◌≡◌, ℕ, Bool, not, ◌+◌, ◌∙◌, ap, sym, List, map, filter, drop, Option, Some, Err, subst}
use Rattle.std.specs.List.{enumerate_from, find}
use Rattle.bd_base.specs.Facts.{plus}
use Rattle.std.proofs.lemmas.List.{drop_all}
use Rattle.bd_links.specs.Effects.{block_effects}
use Rattle.bd_links.specs.Faults.{first_of, kid_fault}
use Rattle.bd_links.specs.Judged.{Judges}
use Rattle.bd_links.specs.declared.parts.Fault.{Fault}
use Rattle.bd_links.specs.declared.parts.Fault.TheVariants.{Inside}
use Rattle.bd_links.specs.declared.parts.Stop.{Stop}
use Rattle.bd_links.specs.declared.parts.Stop.TheVariants.{Found}
use Rattle.bd_links.specs.Rows.{linked_by}
use Rattle.bd_links.proofs.PastLemmas.{needs_done, fault_found, fault_missed}
use Rattle.bd_links.proofs.RowLemmas.{unlinked_in}
use Rattle.bd_links.proofs.Steps.{drop-at}
use Rattle.bd_links.proofs.sets.judged_needs.Goals as goal

-- what was told of a list that equals another
told_of : (t : ℕ → Bool) (found : Option ℕ) (facts same : List ℕ) → facts ≡ same → found ≡ find t facts → found ≡ find t same
told_of t found facts same e told = told ∙ ap (find t) e

stopped : {A : Type 0} (fault : Option Fault) (a : A) (stop : Stop) (f : Fault) → stop ≡ Found f → fault ≡ Some f → Judges fault a (Err stop)
stopped fault a stop f is told = subst (λ (s : Stop). Judges fault a (Err s)) (sym is) told

pub returns-in-Some : goal.returns-in-Some
returns-in-Some c =
    stopped {A = List ℕ} _ (block_effects c.args.order.now (enumerate_from 0 c.args.kids.now)).need c.inside.result _ c.inside.ensures (fault_found c.args.order.now c.args.touches.now c.args.kids.now c.requires c.args.block c.loop-j.j c.index-kids-j.result c.loop-j-test.true c.index-kids-j.is c.loop-j.invariant.fault
    c.in_ok-found.found (told_of _ _ _ _ c.need.ensures c.in_ok-found.ensures.told) c.in-Some.fact c.in-Some.is
    ∙ ap (λ z. Some (Inside c.args.block z c.in-Some.fact)) (sym c.id.ensures))

pub loop-j-preserved : goal.loop-j-preserved
loop-j-preserved c =
    let t = linked_by c.args.order.now c.args.touches.now in
    let j = c.loop-j.j in
    let kids = c.args.kids.now in
    record {
      fault = fault_missed c.args.order.now c.args.touches.now kids c.requires c.args.block j c.index-kids-j.result c.loop-j-test.true c.index-kids-j.is c.loop-j.invariant.fault
          c.in_ok-found.found (told_of _ _ _ _ c.need.ensures c.in_ok-found.ensures.told) c.in-None.is;
      need = ap (λ z. unlinked_in t z (enumerate_from (j + 1) (drop (j + 1) kids)))
          (c.in_ok-found.ensures.need c.in-None.is ∙ ap (λ (z : List ℕ). plus c.loop-j.need (filter (λ p. not (t j p)) z)) c.need.ensures)
          ∙ sym (ap (λ z. unlinked_in t c.loop-j.need (enumerate_from j z)) (drop-at kids j c.index-kids-j.result c.loop-j-test.true c.index-kids-j.is))
          ∙ c.loop-j.invariant.need;
    }

pub returns : goal.returns
returns c =
    let kids = c.args.kids.now in (
      sym c.loop-j.invariant.fault ∙ ap (λ z. first_of (map (kid_fault c.args.block c.args.order.now (enumerate_from 0 kids)) (enumerate_from c.loop-j.j z))) (drop_all c.loop-j.j kids c.loop-j-test.false),
      needs_done c.args.order.now c.args.touches.now kids c.requires c.loop-j.need c.loop-j.j c.loop-j-test.false c.loop-j.invariant.need,
    )
