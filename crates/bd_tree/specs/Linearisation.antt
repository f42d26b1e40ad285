-- The linearisations of a node: a block picks again and again a remaining kid that no remaining kid is before,
-- and puts one of that kid's linearisations; blocks aren't interleaved.
use Rattle.std.specs.Prelude.{◌≡◌, ℕ, true, not, List, [], ◌∷◌, ◌++◌}
use Rattle.std.specs.List.{list_all, enumerate_from}
use Rattle.bd_base.specs.Pairs.{is_before}
use Rattle.bd_tree.specs.declared.node.Node.{Node}
use Rattle.bd_tree.specs.declared.node.Node.TheOpen.{Node-F}
use Rattle.bd_tree.specs.declared.node.Node.TheViews.{out-Node}

-- no kid of the list is before the position
abbrev pub IsFirst : List (ℕ × ℕ) → ℕ → List (ℕ × Node) → Type 0
IsFirst order k rest = list_all (λ r. not (is_before order r.0 k)) rest ≡ true

mutual
  -- a linearisation of a node
  pub data IsLinearisation : Node → List ℕ → Type 0 where
    of_step : {n : Node} (id a : ℕ) → out-Node n ≡ Node-F.Step id a → IsLinearisation n (a ∷ [])
    of_block : {n : Node} {list : List ℕ} (id : ℕ) (kids : List Node) (order : List (ℕ × ℕ)) → out-Node n ≡ Node-F.Block id kids order → LinearisesKids order (enumerate_from 0 kids) list → IsLinearisation n list

  -- a linearisation of the kids that remain, each with its position
  pub data LinearisesKids : List (ℕ × ℕ) → List (ℕ × Node) → List ℕ → Type 0 where
    no_kid : {order : List (ℕ × ℕ)} → LinearisesKids order [] []
    next_kid : {order : List (ℕ × ℕ)} {rest : List (ℕ × Node)} {list : List ℕ} (before after : List (ℕ × Node)) (k : ℕ × Node) (front back : List ℕ) →
        rest ≡ before ++ k ∷ after → IsFirst order k.0 rest → IsLinearisation k.1 front → LinearisesKids order (before ++ after) back → list ≡ front ++ back → LinearisesKids order rest list
