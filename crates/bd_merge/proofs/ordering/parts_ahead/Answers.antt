use Rattle.std.proofs.Common.{◌≡◌, ℕ, ◌||◌, List, [], length, ap, ◌∙◌, arith}
use Rattle.std.specs.Prelude.{slice_index}
use Rattle.std.proofs.lemmas.Grind.{get_or_default_zero}
use Rattle.bd_base.specs.Facts.{has}
use Rattle.bd_merge.specs.Starts.{is_in_run}
use Rattle.bd_merge.proofs.RiseLemmas.{run_put_at}
use Rattle.bd_merge.proofs.StartLemmas.{always_run}
use Rattle.bd_merge.proofs.ordering.parts_ahead.Goals as goal

pub returns : goal.returns
returns c =
    let places = c.args.places.now in
    let starts = c.in_ok-starts.starts.items in
    let first : c.index.result.now ≡ slice_index starts c.args.olds = c.index.ensures ∙ get_or_default_zero starts c.args.olds c.index.result.now (omega (arith, c.in_ok-starts.ensures.many)) in
    record {
      starts = c.in_ok-starts.ensures;
      always = always_run c.args.olds places c.requires.listed starts c.put_run.new.self c.in_ok-starts.ensures (λ q.
          run_put_at c.new-always.result c.put_run.new.self c.index.result.now (length places) c.in_ok-put_run.ensures q
          ∙ ap (λ (z : List ℕ). has z q || is_in_run c.index.result.now (length places) q) c.new-always.ensures
          ∙ ap (λ z. has [] q || is_in_run z (length places) q) first);
    }
