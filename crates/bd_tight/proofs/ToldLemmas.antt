-- What the body is told by the walk through the tree, and what it tells.
use Rattle.std.proofs.Common.{◌≡◌, ◌↔◌, ℕ, zero, suc, ◌+◌, ◌<◌, ◌≤◌, List, [], ◌∷◌, map, length, drop, get_or, slice_get, Option, Some, None, IfSome, refl, sym, ap, ◌∙◌, arith}
use Rattle.bd_task.specs.declared.ground.Action.{Action}
use Rattle.bd_task.specs.TaskView.{TaskView}
use Rattle.bd_tree.specs.declared.node.Node.{Node, Block}
use Rattle.bd_tree.specs.Tree.{find_in, first_some, id_of}
use Rattle.bd_tree.specs.WellFormed.{IsWellFormed}
use Rattle.bd_tree.proofs.NodeLemmas.{id_of-Block}
use Rattle.bd_tree.proofs.TreeLemmas.{found_by_id}
use Rattle.bd_links.specs.Child.{Child}
use Rattle.bd_links.specs.Sound.{child_of}
use Rattle.bd_links.proofs.Steps.{drop-at}
use Rattle.bd_tight.specs.declared.gain.Gain.{Gain}
use Rattle.bd_tight.specs.Candidates.{IsCandidate, IsTight, Qualifies}
use Rattle.bd_tight.specs.Gains.{StandsIn, first_gain, gain_if, gain_in, gain_with}
use Rattle.bd_tight.proofs.GainLaw.{first_is, none_where_tight, some_found}
use Rattle.bd_tight.proofs.ListedLaw.{from_list}

-- what stands at a place of a list, and what doesn't
module _ {X : Type 0} where
  pub get_some : (xs : List X) (i : ℕ) (x : X) → i < length xs → x ≡ get_or xs i x → slice_get xs i ≡ Some x
  get_some [] i x lt e = absurd (omega arith)
  get_some (y ∷ xs) zero x lt e = ap (λ (z : X). Some z) (sym e)
  get_some (y ∷ xs) (suc i) x lt e = get_some xs i x (omega arith) e

  pub get_none : (xs : List X) (i : ℕ) → length xs ≤ i → slice_get xs i ≡ None
  get_none [] i le = refl
  get_none (y ∷ xs) zero le = absurd (omega arith)
  get_none (y ∷ xs) (suc i) le = get_none xs i (omega arith)

-- the node that is found has its own id
pub found_there : (root : Node) (id : ℕ) (block : Node) → Some block ≡ find_in id root → find_in (id_of block) root ≡ Some block
found_there root id block e = ap (λ (i : ℕ). find_in i root) (found_by_id id root block (sym e)) ∙ sym e

pub stands_of : (actions : List Action) (root block : Node) (own : ℕ) (kids : List Node) (order : List (ℕ × ℕ)) (known : List Child) →
    IsWellFormed root → find_in (id_of block) root ≡ Some block → block ≡ Block own kids order → known ≡ map (child_of actions) kids → StandsIn actions root own block known
stands_of actions root block own kids order known well found is known_are = record {
  kids = kids;
  order = order;
  well = well;
  found = ap (λ (i : ℕ). find_in i root) (sym (ap id_of is ∙ id_of-Block own kids order)) ∙ found ∙ ap (λ (n : Node). Some n) is;
  is = is;
  known_are = known_are;
}

module _ (task : TaskView) (root : Node) (span : ℕ) (well : IsWellFormed root) where
  pub none_told : (told : Option Gain) → told ≡ first_gain task root span → (told ≡ None) ↔ IsTight task root span
  none_told told e = (
    (λ n. (none_where_tight task root span).0 (sym (first_is task root span well) ∙ sym e ∙ n)),
    (λ t. e ∙ first_is task root span well ∙ (none_where_tight task root span).1 t),
  )

  pub candidate_told : (told : Option Gain) → told ≡ first_gain task root span → IfSome told (λ gain. IsCandidate task.actions root span gain)
  candidate_told None e = tt
  candidate_told (Some gain) e = from_list task.actions root span well gain (some_found task root span gain (sym (first_is task root span well) ∙ sym e)).0

  pub qualifies_told : (told : Option Gain) → told ≡ first_gain task root span → IfSome told (λ gain. Qualifies task root gain)
  qualifies_told None e = tt
  qualifies_told (Some gain) e = (some_found task root span gain (sym (first_is task root span well) ∙ sym e)).1

-- what a walk through the right sides tells
module _ (task : TaskView) (root : Node) (span block : ℕ) (left : List ℕ) (rights : List (List ℕ)) (i : ℕ) (right side : List ℕ) (lt : i < length rights) (is : right ≡ get_or rights i right) (same : side ≡ right) where
  abbrev tried : List (List ℕ) → Option Gain
  tried z = gain_with task root span block z left

  one_tried : (o : Option Gain) → o ≡ gain_if task root span (record { block = block; left = left; right = side }) → tried (drop i rights) ≡ first_some (o ∷ map (λ r. gain_if task root span (record { block = block; left = left; right = r })) (drop (i + 1) rights))
  one_tried o e =
      ap tried (drop-at rights i right lt is)
      ∙ ap (λ (g : Option Gain). first_some (g ∷ map (λ r. gain_if task root span (record { block = block; left = left; right = r })) (drop (i + 1) rights)))
      (ap (λ (r : List ℕ). gain_if task root span (record { block = block; left = left; right = r })) (sym same) ∙ sym e)

  pub some_tried : (o : Option Gain) (gain : Gain) → o ≡ gain_if task root span (record { block = block; left = left; right = side }) → o ≡ Some gain → tried (drop i rights) ≡ tried rights → Some gain ≡ tried rights
  some_tried o gain e found all = sym (one_tried (Some gain) (sym found ∙ e)) ∙ all

  pub none_tried : (o : Option Gain) → o ≡ gain_if task root span (record { block = block; left = left; right = side }) → o ≡ None → tried (drop i rights) ≡ tried rights → tried (drop (i + 1) rights) ≡ tried rights
  none_tried o e missed all = sym (one_tried None (sym missed ∙ e)) ∙ all

-- what a walk through the ids of the blocks tells
module _ (task : TaskView) (root : Node) (span : ℕ) (ids : List ℕ) (i id : ℕ) (lt : i < length ids) (is : id ≡ get_or ids i id) where
  abbrev sought : List ℕ → Option Gain
  sought z = first_some (map (λ q. gain_in task root span (find_in q root)) z)

  one_sought : (o : Option Gain) → o ≡ gain_in task root span (find_in id root) → sought (drop i ids) ≡ first_some (o ∷ map (λ q. gain_in task root span (find_in q root)) (drop (i + 1) ids))
  one_sought o e = ap sought (drop-at ids i id lt is) ∙ ap (λ (g : Option Gain). first_some (g ∷ map (λ q. gain_in task root span (find_in q root)) (drop (i + 1) ids))) (sym e)

  pub some_sought : (o : Option Gain) (gain : Gain) (all : Option Gain) → o ≡ gain_in task root span (find_in id root) → o ≡ Some gain → sought (drop i ids) ≡ all → Some gain ≡ all
  some_sought o gain all e found h = sym (one_sought (Some gain) (sym found ∙ e)) ∙ h

  pub none_sought : (o : Option Gain) (all : Option Gain) → o ≡ gain_in task root span (find_in id root) → o ≡ None → sought (drop i ids) ≡ all → sought (drop (i + 1) ids) ≡ all
  none_sought o all e missed h = sym (one_sought None (sym missed ∙ e)) ∙ h
