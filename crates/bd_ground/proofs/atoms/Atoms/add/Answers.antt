use Rattle.std.proofs.Common.{ℕ, List, map, not, ap, ◌∙◌}
use Rattle.bd_ground.specs.Atoms.{is_among, with_atom}
use Rattle.bd_ground.proofs.TableLemmas.{among-map, with-map}
use Rattle.bd_ground.proofs.atoms.Atoms.add.Goals as goal

pub returns-clause-told : goal.returns-clause-told
returns-clause-told c = c.in_ok-added.ensures.added ∙ ap not (among-map (λ k. k.items) c.args.g.items _ ∙ ap (λ (gs : List (List ℕ)). is_among c.args.g.items gs) c.self.view_is)

pub returns-clause-ok : goal.returns-clause-ok
returns-clause-ok c =
    ap (λ ks. map (λ k. k.items) ks) c.in_ok-added.ensures.keys ∙ with-map (λ k. k.items) c.args.g _ ∙ ap (λ (gs : List (List ℕ)). with_atom c.args.g.items gs) c.self.view_is
