-- When a pair may be taken out of the order of a root.
use Rattle.std.specs.Prelude.{◌≡◌, ℕ, false, List}
use Rattle.bd_tree.specs.declared.node.Node.{Node, Block}
use Rattle.bd_tree.specs.Misfit.{leads_to}

-- nothing is after the first position and before the second
abbrev pub IsFree : Node → ℕ → ℕ → Type 0
IsFree node i j = (id : ℕ) (kids : List Node) (order : List (ℕ × ℕ)) → node ≡ Block id kids order → leads_to order (i, j) ≡ false
