-- Inner: serves this crate's own proofs alone.
-- What is kept of a block, fact by fact, and the effects of some of its kids by it.
use Rattle.std.specs.Prelude.{◌≡◌, ℕ, Bool, true, false, cond, not, ◌&&◌, ◌||◌, ◌==◌, List, [], ◌∷◌, map, filter, Option, Some, None}
use Rattle.std.specs.List.{list_any, list_all, slice_get, enumerate_from}
use Rattle.std.specs.Option.{option_map_or}
use Rattle.bd_base.specs.Facts.{has, insert_fact, plus, remove_fact}
use Rattle.bd_base.specs.Pairs.{after_of, is_before}
use Rattle.bd_task.specs.declared.ground.Action.{Action}
use Rattle.bd_task.specs.TaskView.{TaskView}
use Rattle.bd_tree.specs.declared.node.Node.{Node, Block}
use Rattle.bd_tree.specs.Tree.{find_in, id_of, ids_of}
use Rattle.bd_merge.specs.declared.window.Lean.{Lean}
use Rattle.bd_merge.specs.declared.window.Lean.TheVariants.{Early, Late}
use Rattle.bd_links.specs.Effects.{Kid, Order, block_effects}
use Rattle.bd_links.specs.Rows.{holders}
use Rattle.bd_links.specs.Sound.{child_of}
use Rattle.bd_links.specs.Child.{Child}
use Rattle.bd_subtask.specs.Certain.{certain_in}
use Rattle.bd_subtask.specs.Subtask.{mentioned, or_nothing, outside_of}
use Rattle.bd_subtask.specs.declared.fact_rows.FactRow.{FactRow}
use Rattle.bd_subtask.specs.declared.level.Level.{Level}

-- the facts that some kid needs, gives or deletes
abbrev pub with_touched : List ℕ → List Kid → List ℕ
with_touched s [] = s
with_touched s (k ∷ ks) = with_touched (plus (plus (plus s k.1.effects.need) k.1.effects.add) k.1.effects.del) ks

-- the positions of the kids that need a fact
abbrev pub needers : List Kid → ℕ → List ℕ
needers kids p = map (λ k. k.0) (filter (λ k. has k.1.effects.need p) kids)

-- the kids that need a fact, those that give it and those that delete it
abbrev pub row_of : List Kid → ℕ → FactRow
row_of kids p = record { fact = p; needs = needers kids p; gives = holders (λ e. e.add) kids p; deletes = holders (λ e. e.del) kids p }

-- a row for each fact that a kid touches
abbrev pub rows_of : List Kid → List FactRow
rows_of kids = map (row_of kids) (with_touched [] kids)

abbrev pub is_marked : List Bool → ℕ → Bool
is_marked marks i = option_map_or (λ b. b) (slice_get marks i) false

-- the kids at the marked positions
abbrev pub part_of : List Bool → List Kid → List Kid
part_of marks kids = filter (λ k. is_marked marks k.0) kids

-- a marked deleter is giver i or before it
abbrev pub yields : Order → List Bool → ℕ → ℕ → Bool
yields order marks i d = not (is_marked marks d) || (d == i || is_before order d i)

-- a marked giver comes after each other marked deleter
abbrev pub outlasts : Order → List Bool → List ℕ → ℕ → Bool
outlasts order marks deletes i = is_marked marks i && list_all (yields order marks i) deletes

-- the marked kids give the row's fact
abbrev pub part_gives : Order → List Bool → FactRow → Bool
part_gives order marks row = list_any (outlasts order marks row.deletes) row.gives

-- the marked kids delete the row's fact
abbrev pub part_deletes : Order → List Bool → FactRow → Bool
part_deletes order marks row = list_any (is_marked marks) row.deletes && not (part_gives order marks row)

-- a marked deleter is kid i or j, or is before i or after j
abbrev pub steps_aside : Order → List Bool → ℕ → ℕ → ℕ → Bool
steps_aside order marks i j d = not (is_marked marks d) || (d == i || d == j || is_before order d i || is_before order j d)

-- a marked giver links kid j past the marked deleters
abbrev pub links_part : Order → List Bool → List ℕ → ℕ → ℕ → Bool
links_part order marks deletes j i = is_marked marks i && (is_before order i j && list_all (steps_aside order marks i j) deletes)

-- a marked kid isn't linked for the row's fact
abbrev pub lacks : Order → List Bool → FactRow → ℕ → Bool
lacks order marks row j = is_marked marks j && not (list_any (links_part order marks row.deletes j) row.gives)

-- the marked kids need the row's fact
abbrev pub part_needs : Order → List Bool → FactRow → Bool
part_needs order marks row = list_any (lacks order marks row) row.needs

-- whether the kid at the position goes in front of these members, if it is none of them
abbrev pub leans : Lean → Order → List ℕ → ℕ → Bool
leans Early order members j = not (list_any (λ m. is_before order m j) members)
leans Late order members j = list_any (λ m. is_before order j m) members

-- a node has one of these ids
abbrev pub is_in : List ℕ → Node → Bool
is_in ids k = has ids (id_of k)

-- a kid, marked where the window carries it, is outside the window and in front of it
abbrev pub stands_in_front : Lean → Order → List ℕ → ℕ × Bool → Bool
stands_in_front lean order members k = not k.1 && leans lean order members k.0

-- a kid, marked where the window carries it, is outside the window and behind it
abbrev pub stands_behind : Lean → Order → List ℕ → ℕ × Bool → Bool
stands_behind lean order members k = not k.1 && not (leans lean order members k.0)

-- a set with the positions that some of the members is before
abbrev pub reach_from : Order → List ℕ → List ℕ → List ℕ
reach_from order s [] = s
reach_from order s (m ∷ ms) = reach_from order (plus s (after_of order m)) ms

-- what is asked of the positions after members, by the lean
abbrev pub reach_of : Lean → Order → List ℕ → List ℕ
reach_of Early order members = reach_from order [] members
reach_of Late order members = []

-- a kid needs, gives or deletes a fact
abbrev pub touches : Child → ℕ → Bool
touches c p = has c.effects.need p || has c.effects.add p || has c.effects.del p

-- the places of the rows whose facts a kid touches
abbrev pub touched_rows : List FactRow → Child → List ℕ
touched_rows rows c = map (λ k. k.0) (filter (λ k. touches c k.1.fact) (enumerate_from 0 rows))

-- a mark is the rarer one, where most kids are marked or aren't
abbrev pub is_rare : Bool → Bool → Bool
is_rare most mark = cond most (not mark) mark

-- a set with those of the numbered sets whose marks are rare
abbrev pub with_rare : List Bool → Bool → List ℕ → List (ℕ × List ℕ) → List ℕ
with_rare marks most s [] = s
with_rare marks most s (k ∷ ks) = with_rare marks most (cond (is_rare most (is_marked marks k.0)) (plus s k.1) s) ks

-- what is told of facts that no rare kid touches
abbrev pub start_of : Bool → List ℕ → List ℕ
start_of most whole = cond most whole []

-- a set with a fact where it holds, and else without it
abbrev pub settled : ℕ → Bool → List ℕ → List ℕ
settled p holds s = cond holds (insert_fact p s) (remove_fact p s)

-- a set in which the fact of a row is settled by a test
abbrev pub settled_by : (FactRow → Bool) → Option FactRow → List ℕ → List ℕ
settled_by t None s = s
settled_by t (Some row) s = settled row.fact (t row) s

-- a set in which the facts of the rows at some places are settled by a test
abbrev pub settle_all : (FactRow → Bool) → List FactRow → List ℕ → List ℕ → List ℕ
settle_all t rows s [] = s
settle_all t rows s (r ∷ rs) = settle_all t rows (settled_by t (slice_get rows r) s) rs

-- what is kept of a block whose kids have these effects
pub record Keeps (parts : List Child) (order : Order) (level : Level) : Type 0 where
  pub rows : level.rows.items ≡ rows_of (enumerate_from 0 parts)
  pub touched : level.touched.items ≡ map (λ k. plus [] (touched_rows level.rows.items k)) parts
  pub whole : level.whole ≡ block_effects order (enumerate_from 0 parts)

-- what is kept of a block with these kids and this order
abbrev pub IsKept : TaskView → List Node → Order → Level → Type 0
IsKept task kids order level = Keeps (map (child_of task.actions) kids) order level

-- what is kept of a block of the tree, what is certain there, and what is mentioned outside it
pub record IsLevel (task : TaskView) (root : Node) (level : Level) : Type 0 where
  pub node : find_in level.block root ≡ Some level.node.now
  pub kept : (kids : List Node) (order : Order) → find_in level.block root ≡ Some (Block level.block kids order) → IsKept task kids order level
  pub certain : level.certain ≡ or_nothing (certain_in task.actions level.block root task.init)
  pub mentioned : level.mentioned ≡ mentioned task root level.block

abbrev pub AreLevels : TaskView → Node → List Level → Type 0
AreLevels task root [] = Unit {0}
AreLevels task root (l ∷ ls) = IsLevel task root l × AreLevels task root ls

-- a level that is found is the block's, and one of those kept
abbrev pub FindsLevel : List Level → ℕ → Option Level → Type 0
FindsLevel levels block None = Unit {0}
FindsLevel levels block (Some l) = (l.block ≡ block) × ((task : TaskView) (root : Node) → AreLevels task root levels → IsLevel task root l)

-- what is asked of a block of the tree with the id is told by what is asked at the node that has it, where these facts are
-- certain at the node, and these are the preconditions outside it
pub record LeadsTo (task : TaskView) (root node : Node) (sure out : List ℕ) (b : ℕ) : Type 0 where
  pub found : find_in b root ≡ find_in b node
  pub certain : certain_in task.actions b root task.init ≡ certain_in task.actions b node sure
  pub outside : (p : ℕ) → has (outside_of task.actions b root) p ≡ (has out p || has (outside_of task.actions b node) p)

abbrev pub Leads : TaskView → Node → Node → List ℕ → List ℕ → Type 0
Leads task root node sure out = (b : ℕ) → has (ids_of node) b ≡ true → LeadsTo task root node sure out b

-- a set with all of the numbered sets but the one at a position
abbrev pub with_others : ℕ → List ℕ → List (ℕ × List ℕ) → List ℕ
with_others i s [] = s
with_others i s (k ∷ ks) = with_others i (cond (k.0 == i) s (plus s k.1)) ks

-- a set with the preconditions in all kids but the one at a position
abbrev pub beside_from : List Action → ℕ → ℕ → List ℕ → List (ℕ × Node) → List ℕ
beside_from actions own i s ks = with_others i s (map (λ k. (k.0, outside_of actions own k.1)) ks)
