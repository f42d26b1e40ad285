use Rattle.std.proofs.Common.{ℕ, List, map, ap, ◌∙◌}
use Rattle.bd_ground.specs.Atoms.{with_atom}
use Rattle.bd_ground.proofs.TableLemmas.{with-map}
use Rattle.plan_calls.proofs.texts.Texts.put.Goals as goal

pub returns : goal.returns
returns c = record {
  ok =
      (ap (λ ks. map (λ k. k.items) ks) c.in_ok-insert_full.ensures.keys ∙ with-map (λ k. k.items) c.args.text _ ∙ ap (λ (gs : List (List ℕ)). with_atom c.args.text.items gs) c.self.view_is);
}
