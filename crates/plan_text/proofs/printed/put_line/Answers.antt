use Rattle.std.proofs.Common.{◌≡◌, [], ◌∷◌, ap, ◌∙◌}
use Rattle.bd_base.specs.Causes.{appended}
use Rattle.bd_base.proofs.PutLemmas.{appended-append, TakesPart-longer, TakesPart-after, err_after}
use Rattle.plan_text.proofs.PrintLemmas.{on_err}
use Rattle.plan_text.proofs.printed.put_line.Goals as goal

pub returns-in_err-put-2-clause-err : goal.returns-in_err-put-2-clause-err
returns-in_err-put-2-clause-err g c = on_err _ _ (TakesPart-longer _ _ _ (41 ∷ 10 ∷ []) (TakesPart-after _ _ _ (40 ∷ []) c.args.name.now c.in_ok-put.ensures.ok c.in_err-put-2.ensures.err))

pub returns-clause-err : goal.returns-clause-err
returns-clause-err g c =
    let both = c.in_ok-put-2.ensures.ok ∙ ap (λ z. appended z c.args.name.now) c.in_ok-put.ensures.ok ∙ appended-append (g.S.Sink.told c.args.sink.now) (40 ∷ []) c.args.name.now in
    err_after _ _ _ _ (40 ∷ c.args.name.now) (41 ∷ 10 ∷ []) both c.put-3.ensures.err
