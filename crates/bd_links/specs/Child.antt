-- A node as the block around it sees it.
use Rattle.std.specs.Prelude.{ℕ}
use Rattle.bd_links.specs.declared.parts.Effects.{Effects}

-- a node's id and effects
pub record Child : Type 0 where
  pub id : ℕ
  pub effects : Effects
