use Rattle.std.proofs.Common.{ℕ, List, [], Vec, Global, Bor, map, get_or, ap, sym, ◌∙◌}
use Rattle.bd_ground.proofs.IndexLemmas.{seen, rows_none, rows_some}
use Rattle.bd_ground.proofs.index.Index.rows.Goals as goal

pub returns-in-None : goal.returns-in-None
returns-in-None c =
    ap (λ (z : List (Bor (List ℕ))). map (λ (g : Bor (List ℕ)). g.now) z) (c.deref.ensures.value ∙ c.args.self.now.empty)
    ∙ rows_none c.args.self.now.keys (seen c.args.self.now.rows.items) c.args.key.now (sym c.in-None.is ∙ c.number.ensures)

pub returns-in-Some : goal.returns-in-Some
returns-in-Some c =
    c.row_at.ensures
    ∙ ap (λ (z : List (Vec (Bor (List ℕ)) Global)). get_or (seen z) c.in-Some.n []) c.deref-in-Some.ensures.value
    ∙ rows_some c.args.self.now.keys (seen c.args.self.now.rows.items) c.args.key.now c.in-Some.n (sym c.in-Some.is ∙ c.number.ensures)
