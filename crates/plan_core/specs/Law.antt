-- What every core keeps, and what a list of offers leads to.
use Rattle.std.specs.Prelude.{◌≡◌, ℕ, ◌+◌, ◌*◌, ◌<◌, ◌≤◌, ◌^◌, nat_lt, nat_le, Bool, true, ◌&&◌, List, [], ◌∷◌, length, take, count_by, Result, Ok, Err}
use Rattle.bd_task.specs.TaskView.{TaskView}
use Rattle.bd_task.specs.Valid.{cost_of}
use Rattle.bd_tree.specs.declared.node.Node.{Node}
use Rattle.bd_tree.specs.Tree.{depth_of, steps_of, nodes_of, ids_of, greatest, listed_of}
use Rattle.bd_tree.specs.WellFormed.{IsWellFormed}
use Rattle.bd_links.specs.Sound.{IsSound, RunsAlways, are_below}
use Rattle.plan_core.specs.Core.{CoreView, opened, state_of, opening, accepted, replay, is_replacement, is_due}
use Rattle.plan_core.specs.Replies.{Replies}
use Rattle.plan_core.specs.declared.offer.Offer.{Offer}
use Rattle.plan_core.specs.declared.refusal.Refusal.{Refusal}

-- at each place the reply to the entry, on the core that the entries before it lead to, is acceptance
abbrev pub IsLegalFrom : CoreView → List Offer → Type 0
IsLegalFrom core [] = Unit {0}
IsLegalFrom core (offer ∷ rest) = Replies core offer (Ok (length core.history + 1)) × IsLegalFrom (accepted offer core) rest

-- the history is legal from the start tree
abbrev pub IsLegal : CoreView → Type 0
IsLegal core = IsLegalFrom (opening core.task core.start core.stop) core.history

-- what numbers need: the actions are the task's, and each accepted offer takes at most 4,096 ids and adds at most two
-- blocks
pub record HasRoom (core : CoreView) : Type 0 where
  pub formed : IsWellFormed core.tree
  pub in_range : are_below (length core.task.actions) core.tree ≡ true
  pub short : steps_of core.tree ≤ 4_096
  pub shallow : depth_of core.tree ≤ 64
  pub entries : length core.history ≤ 2 ^ 24
  pub few : nodes_of core.tree ≤ 2 ^ 24 + steps_of core.tree + 2 * length core.history
  pub fresh : greatest (ids_of core.tree) < core.next
  pub ids : core.next ≤ 2 ^ 32 + 4_096 * length core.history

-- what every core keeps: its start tree and its tree are sound, the history is legal, and it replays from the one to the other
pub record IsCore (core : CoreView) : Type 0 where
  pub opens : IsSound core.task core.start
  pub sound : IsSound core.task core.tree
  pub legal : IsLegal core
  pub replays : replay (opened core.start) core.history ≡ state_of core
  pub starts : HasRoom (opening core.task core.start core.stop)
  pub room : HasRoom core

-- a core, with the count of replacements in its history and whether a rebuild is due
pub record Keeps (core : CoreView) (replaced : ℕ) (due : Bool) : Type 0 where
  pub kept : IsCore core
  pub counted : replaced ≡ count_by is_replacement core.history
  pub owed : due ≡ is_due core.history

-- the tree that the first entries of a core's history replay to, and its cost
abbrev pub tree_at : CoreView → ℕ → Node
tree_at core place = (replay (opened core.start) (take place core.history)).tree

abbrev pub cost_at : CoreView → ℕ → ℕ
cost_at core place = cost_of core.task (listed_of (tree_at core place))

-- the conditions on which a core may begin
pub record MayBegin (task : TaskView) (start : Node) : Type 0 where
  pub formed : IsWellFormed start
  pub actions : are_below (length task.actions) start ≡ true
  pub shallow : depth_of start ≤ 64
  pub short : steps_of start ≤ 2_000
  pub few : nodes_of start < 2 ^ 24
  pub ids : greatest (ids_of start) < 2 ^ 32

-- the same, but for what each tree keeps, as a test
abbrev pub may_begin : TaskView → Node → Bool
may_begin task start =
    nat_lt (nodes_of start) (2 ^ 24) && nat_le (depth_of start) 64 && nat_le (steps_of start) 2_000 && nat_lt (greatest (ids_of start)) (2 ^ 32)
    && are_below (length task.actions) start

-- the core after a reply
abbrev pub after_reply : CoreView → Offer → Result ℕ Refusal → CoreView
after_reply core offer (Ok place) = accepted offer core
after_reply core offer (Err why) = core

-- a list of offers, each with its reply, leads from a core to another: any offers, want of memory included
abbrev pub Leads : CoreView → List (Offer × Result ℕ Refusal) → CoreView → Type 0
Leads core [] last = last ≡ core
Leads core (step ∷ rest) last = Replies core step.0 step.1 × Leads (after_reply core step.0 step.1) rest last

-- the core opened on this task, start tree and stop number
abbrev pub OpensOn : TaskView → Node → ℕ → CoreView → Type 0
OpensOn task start stop core = (core.task ≡ task) × (core.start ≡ start) × (core.stop ≡ stop)

-- what the texts of a tree ask: its actions are the task's, and it has fewer than 2^32 nodes
pub record IsPrintable (task : TaskView) (tree : Node) : Type 0 where
  pub in_range : are_below (length task.actions) tree ≡ true
  pub few : nodes_of tree < 2 ^ 32

-- what holds after any offers: at each place the tree is sound and within the limits on steps and on depth, its actions are
-- the task's and its nodes few, its ids are below the next id, each linearisation of it is valid, and the cost never rises
pub record IsLawful (core : CoreView) : Type 0 where
  pub short : steps_of core.tree ≤ 4_096
  pub shallow : depth_of core.tree ≤ 64
  pub sound : IsSound core.task core.tree
  pub runs : RunsAlways core.task core.tree
  pub legal : IsLegal core
  pub replays : replay (opened core.start) core.history ≡ state_of core
  pub short_at : (place : ℕ) → steps_of (tree_at core place) ≤ 4_096
  pub shallow_at : (place : ℕ) → depth_of (tree_at core place) ≤ 64
  pub sound_at : (place : ℕ) → IsSound core.task (tree_at core place)
  pub runs_at : (place : ℕ) → RunsAlways core.task (tree_at core place)
  pub printable : IsPrintable core.task core.tree
  pub printable_at : (place : ℕ) → IsPrintable core.task (tree_at core place)
  pub fresh : greatest (ids_of core.tree) < core.next
  pub fresh_at : (place : ℕ) → greatest (ids_of (tree_at core place)) < core.next
  pub falls : (place : ℕ) → cost_at core (place + 1) ≤ cost_at core place
