-- The first misfit of a root: by what the root is, by the ids, by the orders of the blocks and by the depth.
use Rattle.std.specs.List.{list_any, find}
use Rattle.std.specs.Option.{option_map}
use Rattle.std.specs.Prelude.{◌≡◌, ℕ, Bool, not, ◌&&◌, ◌==◌, nat_lt, List, [], ◌∷◌, length, Option, Some, None, Result, Ok, Err, if◌then◌else◌}
use Rattle.bd_base.specs.Facts.{has}
use Rattle.bd_base.specs.Pairs.{is_before, total_order}
use Rattle.bd_tree.specs.declared.misfit.Misfit.{Misfit}
use Rattle.bd_tree.specs.declared.misfit.Misfit.TheVariants.{Root, Twice, Order, TooDeep, NoMemory}
use Rattle.bd_tree.specs.declared.node.Node.{Node}
use Rattle.bd_tree.specs.declared.node.Node.TheOpen.{Node-F}
use Rattle.bd_tree.specs.declared.node.Node.TheFolds.{fold-Node}
use Rattle.bd_tree.specs.Order.{is_less, is_within}
use Rattle.bd_tree.specs.Tree.{first_some, ids_of, depth_of}
use Rattle.bd_tree.specs.WellFormed.{is_root}

-- the first number of a list that was seen before it
abbrev pub first_repeat : List ℕ → List ℕ → Option ℕ
first_repeat seen [] = None
first_repeat seen (x ∷ xs) = if has seen x then Some x else first_repeat (x ∷ seen) xs

-- the first pair that isn't i < j < n, or isn't greater than the pair before it
abbrev pub stray_after : ℕ → ℕ × ℕ → List (ℕ × ℕ) → Option (ℕ × ℕ)
stray_after n before [] = None
stray_after n before (p ∷ ps) = if is_within n p && is_less before p then stray_after n p ps else Some p

-- whether i is before some position that is before j
abbrev pub leads_to : List (ℕ × ℕ) → ℕ × ℕ → Bool
leads_to order p = list_any (λ q. q.0 == p.0 && is_before order q.1 p.1) order

-- whether closure needs the pair and the list lacks it
abbrev pub is_gap : List (ℕ × ℕ) → ℕ × ℕ → Bool
is_gap order p = not (is_before order p.0 p.1) && leads_to order p

-- the least pair of n positions that closure needs and the list lacks
abbrev pub first_gap : ℕ → List (ℕ × ℕ) → Option (ℕ × ℕ)
first_gap n order = find (is_gap order) (total_order n)

-- the pair that tells why a list of pairs is no order of n kids; each pair of i < j is greater than (0, 0)
abbrev pub order_misfit : ℕ → List (ℕ × ℕ) → Option (ℕ × ℕ)
order_misfit n order = first_some (stray_after n (0, 0) order ∷ first_gap n order ∷ [])

abbrev pub disorder_step : Node-F (Option Misfit) → Option Misfit
disorder_step (Node-F.Step id action) = None
disorder_step (Node-F.Block id kids order) = first_some (option_map (λ p. Order id p.0 p.1) (order_misfit (length kids) order) ∷ kids)

-- of the first block whose order is misformed, each block before its kids
abbrev pub first_disorder : Node → Option Misfit
first_disorder = fold-Node (Option Misfit) disorder_step

-- the first of all misfits
abbrev pub first_misfit : Node → Option Misfit
first_misfit root = first_some (
    (if is_root root then None else Some Root)
    ∷ option_map Twice (first_repeat [] (ids_of root))
    ∷ first_disorder root
    ∷ (if nat_lt 64 (depth_of root) then Some (TooDeep (depth_of root)) else None)
    ∷ [])

-- the answer is the root's tree where the root has no misfit, and else its first misfit; want of memory is free
abbrev pub Shapes : Node → Result Node Misfit → Type 0
Shapes root (Ok tree) = (tree ≡ root) × (first_misfit root ≡ None)
Shapes root (Err NoMemory) = Unit {0}
Shapes root (Err misfit) = first_misfit root ≡ Some misfit
