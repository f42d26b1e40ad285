use Rattle.std.proofs.Common.{◌≡◌, ℕ, drop}
use Rattle.std.specs.List.{enumerate_from}
use Rattle.bd_links.specs.declared.parts.Effects.{Effects}
use Rattle.bd_links.specs.Rows.{places_of, holders}
use Rattle.bd_links.proofs.touches.touches_of.Given as goal

abbrev pub invariant-loop-j : goal.invariant-loop-j
invariant-loop-j l = record {
  gives : (p : ℕ) → places_of l.gives p ≡ holders (λ (e : Effects). e.add) (enumerate_from l.j (drop l.j l.kids)) p;
  deletes : (p : ℕ) → places_of l.deletes p ≡ holders (λ (e : Effects). e.del) (enumerate_from l.j (drop l.j l.kids)) p;
}
