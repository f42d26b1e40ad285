-- What is known of the offers and of the start tree that are read.
use Rattle.std.specs.Prelude.{◌≡◌, ℕ, ◌<◌, ◌≤◌, ◌^◌, true, All, List, Option, Some, None}
use Rattle.bd_links.specs.Sound.{are_below}
use Rattle.bd_tree.specs.declared.node.Node.{Node}
use Rattle.bd_tree.specs.Tree.{depth_of, nodes_of, ids_of, greatest, listed_of}
use Rattle.bd_tree.specs.WellFormed.{IsWellFormed}
use Rattle.plan_core.specs.declared.offer.Offer.{Offer}
use Rattle.plan_core.specs.declared.offer.Offer.TheVariants.{Replace, Tighten, Rebuild}

-- the actions of the carried nodes and of the list are below the number
abbrev pub HasActionsBelow : ℕ → Offer → Type 0
HasActionsBelow n (Replace window actions) = All (λ k. All (λ a. a < n) (listed_of k)) window.kids × All (λ a. a < n) actions
HasActionsBelow n (Tighten block left right) = Unit {0}
HasActionsBelow n (Rebuild order) = Unit {0}

-- what is known of a start tree: it may open a core, and it lists the plan
pub record StartsWell (actions bytes : ℕ) (plan : List ℕ) (root : Node) : Type 0 where
  pub formed : IsWellFormed root
  pub in_range : are_below actions root ≡ true
  pub shallow : depth_of root ≤ 64
  pub few : nodes_of root < bytes
  pub ids : greatest (ids_of root) < 2 ^ 32
  pub lists : listed_of root ≡ plan

-- the same, where there is one
abbrev pub StartsBy : ℕ → ℕ → List ℕ → Option Node → Type 0
StartsBy actions bytes plan None = Unit {0}
StartsBy actions bytes plan (Some root) = StartsWell actions bytes plan root
