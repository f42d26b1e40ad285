-- Inner: serves this crate's own proofs alone.
-- Two kids of a block of which the first is before the second and needs what the second deletes.
use Rattle.std.specs.List.{list_any}
use Rattle.std.specs.Prelude.{◌≡◌, ℕ, Bool, true, false, List, Option, Some, None, slice_get}
use Rattle.bd_base.specs.Facts.{has}
use Rattle.bd_base.specs.Pairs.{is_before}
use Rattle.bd_task.specs.declared.ground.Action.{Action}
use Rattle.bd_tree.specs.declared.node.Node.{Node, Block}
use Rattle.bd_tree.specs.Tree.{find_in}
use Rattle.bd_links.specs.Sound.{effects_of}
use Rattle.bd_shape.specs.Unordered.{stands_at}

-- whether the first needs what the second deletes
abbrev pub threat_if : List Action → Option Node → Option Node → Bool
threat_if actions None second = false
threat_if actions (Some a) None = false
threat_if actions (Some a) (Some b) = list_any (has (effects_of actions b).del) (effects_of actions a).need

-- the kids with these ids, of which the first is before the second
pub record AreThreatened (actions : List Action) (kids : List Node) (order : List (ℕ × ℕ)) (x y : ℕ) : Type 0 where
  pub a : ℕ
  pub b : ℕ
  pub first : stands_at kids x a ≡ true
  pub second : stands_at kids y b ≡ true
  pub ordered : is_before order a b ≡ true
  pub threat : threat_if actions (slice_get kids a) (slice_get kids b) ≡ true

-- the same of a node's kids
abbrev pub IsThreatenedIn : List Action → Node → ℕ → ℕ → Type 0
IsThreatenedIn actions node x y = (id : ℕ) (kids : List Node) (order : List (ℕ × ℕ)) → node ≡ Block id kids order → AreThreatened actions kids order x y

-- the same of the kids of the block with the id
abbrev pub IsThreatened : List Action → Node → ℕ → ℕ → ℕ → Type 0
IsThreatened actions root block x y = (id : ℕ) (kids : List Node) (order : List (ℕ × ℕ)) → find_in block root ≡ Some (Block id kids order) → AreThreatened actions kids order x y
