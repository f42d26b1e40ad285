-- A tree has no first fault exactly where it is sound.
use Rattle.std.proofs.Common.{◌≡◌, ◌↔◌, ℕ, Bool, true, false, not, ◌&&◌, List, [], ◌∷◌, map, Option, Some, None, is_none, refl, sym, ap, ◌∙◌, subst, inl, inr}
use Rattle.std.specs.List.{list_all, find}
use Rattle.std.specs.Option.{option_or}
use Rattle.std.proofs.lemmas.Bool.{and_parts, and_from, cases_Bool}
use Rattle.bd_base.specs.Facts.{has, is_subset}
use Rattle.bd_task.specs.declared.ground.Action.{Action}
use Rattle.bd_task.specs.TaskView.{TaskView}
use Rattle.bd_task.specs.Run.{lacking}
use Rattle.bd_tree.specs.declared.node.Node.{Node}
use Rattle.bd_tree.specs.declared.node.Node.TheOpen.{Node-F}
use Rattle.bd_tree.specs.declared.node.Node.TheViews.{roll-Node}
use Rattle.bd_tree.specs.declared.node.Node.TheFolds.{fold-roll-Node, ind-Node, map-Node}
use Rattle.bd_links.specs.declared.parts.Effects.{Effects}
use Rattle.bd_links.specs.declared.parts.Fault.{Fault}
use Rattle.bd_links.specs.Effects.{Kid, Order, is_safe, are_safe}
use Rattle.bd_links.specs.Faults.{first_of, inside, kid_fault, block_fault, holds_after, need_fault, goal_fault, root_fault}
use Rattle.bd_links.specs.Sound.{Summary, summary_of, summary_step, numbered, effects_of, IsSound, first_fault}

pub none_or : (a b : Option Fault) → is_none (option_or a b) ≡ (is_none a && is_none b)
none_or None b = refl
none_or (Some x) b = refl

none-find : (t : ℕ → Bool) (xs : List ℕ) → is_none (find (λ p. not (t p)) xs) ≡ list_all t xs
none-find t [] = refl
none-find t (x ∷ xs) = elim (cases_Bool (t x)) [
  | inl e ↦ rw e (none-find t xs)
  | inr e ↦ rw e
]

pub none-inside : (block child : ℕ) (p : Option ℕ) → is_none (inside block child p) ≡ is_none p
none-inside block child None = refl
none-inside block child (Some p) = refl

none-need : (p : Option ℕ) → is_none (need_fault p) ≡ is_none p
none-need None = refl
none-need (Some p) = refl

none-goal : (p : Option ℕ) → is_none (goal_fault p) ≡ is_none p
none-goal None = refl
none-goal (Some p) = refl

none-kids : (block : ℕ) (order : Order) (kids rest : List Kid) → is_none (first_of (map (kid_fault block order kids) rest)) ≡ list_all (λ j. list_all (is_safe order kids j) j.1.effects.need) rest
none-kids block order kids [] = refl
none-kids block order kids (j ∷ rest) =
    none_or (kid_fault block order kids j) (first_of (map (kid_fault block order kids) rest))
    ∙ ap (λ b. b && is_none (first_of (map (kid_fault block order kids) rest)))
    (none-inside block j.1.id (find (λ p. not (is_safe order kids j p)) j.1.effects.need) ∙ none-find (is_safe order kids j) j.1.effects.need)
    ∙ ap (λ b. list_all (is_safe order kids j) j.1.effects.need && b) (none-kids block order kids rest)

pub none-block : (block : ℕ) (order : Order) (kids : List Kid) → is_none (block_fault block order kids) ≡ are_safe order kids
none-block block order kids = none-kids block order kids kids

module _ (actions : List Action) where
  abbrev IsTold : Node → Type 0
  IsTold n = is_none (summary_of actions n).fault ≡ (summary_of actions n).well_linked

  abbrev Shown : Type 0
  Shown = (n : Node) × IsTold n

  abbrev nodes : List Shown → List Node
  nodes ks = map (λ (e : Shown). e.0) ks

  kids_told : (ks : List Shown) → is_none (first_of (map (λ (k : Summary). k.fault) (map (summary_of actions) (nodes ks)))) ≡ list_all (λ (k : Summary). k.well_linked) (map (summary_of actions) (nodes ks))
  kids_told [] = refl
  kids_told (k ∷ ks) =
      none_or (summary_of actions k.0).fault (first_of (map (λ (k : Summary). k.fault) (map (summary_of actions) (nodes ks))))
      ∙ ap (λ b. b && is_none (first_of (map (λ (k : Summary). k.fault) (map (summary_of actions) (nodes ks))))) k.1
      ∙ ap (λ b. (summary_of actions k.0).well_linked && b) (kids_told ks)

  by_layer : (x : Node-F Node) (y : Node-F Shown) → map-Node Shown Node (λ (e : Shown). e.0) y ≡ x → IsTold (roll-Node x)
  by_layer x (Node-F.Step id a) is = subst (λ z. IsTold (roll-Node z)) is
      (subst (λ (s : Summary). is_none s.fault ≡ s.well_linked) (sym (fold-roll-Node Summary (summary_step actions) (Node-F.Step id a))) refl)
  by_layer x (Node-F.Block id ks order) is = subst (λ z. IsTold (roll-Node z)) is
      (subst (λ (s : Summary). is_none s.fault ≡ s.well_linked) (sym (fold-roll-Node Summary (summary_step actions) (Node-F.Block id (nodes ks) order)))
      (let sums = map (summary_of actions) (nodes ks) in
      none_or (first_of (map (λ (k : Summary). k.fault) sums)) (block_fault id order (numbered sums))
      ∙ ap (λ b. b && is_none (block_fault id order (numbered sums))) (kids_told ks)
      ∙ ap (λ b. list_all (λ (k : Summary). k.well_linked) sums && b) (none-block id order (numbered sums))))

  told : (n : Node) → is_none (summary_of actions n).fault ≡ (summary_of actions n).well_linked
  told = ind-Node IsTold by_layer

pub none_is : (f : Option Fault) → is_none f ≡ true → f ≡ None
none_is None e = refl
none_is (Some x) e = absurd (Rattle.std.proofs.lemmas.Bool.both_ways false refl e)

pub is_none_of : (f : Option Fault) → f ≡ None → is_none f ≡ true
is_none_of f e = rw e

pub none-root : (init goal : List ℕ) (e : Effects) → is_none (root_fault init goal e) ≡ (is_subset e.need init && list_all (holds_after init e) goal)
none-root init goal e =
    none_or (need_fault (lacking e.need init)) (goal_fault (find (λ g. not (holds_after init e g)) goal))
    ∙ ap (λ b. b && is_none (goal_fault (find (λ g. not (holds_after init e g)) goal))) (none-need (lacking e.need init) ∙ none-find (has init) e.need)
    ∙ ap (λ b. is_subset e.need init && b) (none-goal (find (λ g. not (holds_after init e g)) goal) ∙ none-find (holds_after init e) goal)

module _ (task : TaskView) (root : Node) where
  tests : is_none (first_fault task root) ≡ ((summary_of task.actions root).well_linked && (is_subset (effects_of task.actions root).need task.init && list_all (holds_after task.init (effects_of task.actions root)) task.goal))
  tests =
      let s = summary_of task.actions root in
      none_or s.fault (root_fault task.init task.goal s.child.effects)
      ∙ ap (λ b. b && is_none (root_fault task.init task.goal s.child.effects)) (told task.actions root)
      ∙ ap (λ b. s.well_linked && b) (none-root task.init task.goal s.child.effects)

  pub sound_from_none : first_fault task root ≡ None → IsSound task root
  sound_from_none e =
      let both = and_parts (summary_of task.actions root).well_linked _ (sym tests ∙ is_none_of (first_fault task root) e) in
      let two = and_parts (is_subset (effects_of task.actions root).need task.init) _ both.1 in
      record { linked = both.0; needs = two.0; goals = two.1 }

  pub none_from_sound : IsSound task root → first_fault task root ≡ None
  none_from_sound s = none_is (first_fault task root) (tests ∙ and_from _ _ s.linked (and_from _ _ s.needs s.goals))

  pub none_where_sound : first_fault task root ≡ None ↔ IsSound task root
  none_where_sound = (sound_from_none, none_from_sound)
