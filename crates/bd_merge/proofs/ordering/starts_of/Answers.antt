use Rattle.std.proofs.Common.{◌+◌, [], ◌∷◌, length, length-append, sym, ap, ◌∙◌, subst}
use Rattle.bd_merge.specs.Starts.{IsStart}
use Rattle.bd_merge.proofs.StartLemmas.{start_on, start_off, starts_more}
use Rattle.bd_merge.proofs.ordering.starts_of.Goals.{then-is_kid_at, else-is_kid_at}
use Rattle.bd_merge.proofs.ordering.starts_of.Goals as goal

pub loop-j-preserved : goal.loop-j-preserved
loop-j-preserved c =
    let places = c.args.places.now in
    let side = c.args.side in
    let j = c.loop-j.j in
    let q = c.loop-j.q in
    let inv = c.loop-j.invariant in
    let next : IsStart side places (j + 1) c.if-is_kid_at.q = elim c.if-is_kid_at.branch [
      | then-is_kid_at w ↦ subst (λ z. IsStart side places (j + 1) z) (sym w.q-is) (start_on c.args.olds places c.requires.listed side j q inv.here (sym c.is_kid_at.ensures ∙ w.if-is_kid_at.true))
      | else-is_kid_at w ↦ subst (λ z. IsStart side places (j + 1) z) (sym w.q-is) (start_off c.args.olds places c.requires.listed side j q inv.here (sym c.is_kid_at.ensures ∙ w.if-is_kid_at.false))
    ] in
    record {
      many = ap length c.in_ok-push.ensures.items ∙ length-append c.loop-j.starts.items (q ∷ []) ∙ ap (λ z. z + 1) inv.many;
      here = next;
      at = starts_more side places c.loop-j.starts.items c.push.new.self.items j q inv.many c.in_ok-push.ensures.items inv.here inv.at;
    }
