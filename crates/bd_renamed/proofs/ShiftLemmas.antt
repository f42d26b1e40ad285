-- Free ids are moved up, and those that are taken stay.
use Rattle.std.proofs.Common.{◌≡◌, ℕ, ◌+◌, ◌-◌, ◌<◌, ◌≤◌, max, cond, eqb, ltb, List, [], ◌∷◌, ◌++◌, map, refl, sym, ap, ◌∙◌, subst, inl, inr, arith}
use Rattle.std.proofs.lemmas.Bool.{cond-true, cond-false, cases_eq, cases_lt, eq-eqb, ne_eqb, lt-ltb, le-ltb}
use Rattle.bd_task.specs.TaskView.{TaskView}
use Rattle.bd_tree.specs.declared.node.Node.{Node, Step, Block}
use Rattle.bd_tree.specs.Tree.{ids_of, greatest, joined}
use Rattle.bd_tree.proofs.BoundLemmas.{greatest-append}
use Rattle.bd_tree.proofs.NodeLemmas.{Each, by_node, ids_of-Step, ids_of-Block}
use Rattle.bd_shape.specs.Grouped.{grouped, side_id, count_taken}
use Rattle.bd_shape.specs.Hull.{between_at}
use Rattle.bd_shape.specs.Kids.{convex_at}
use Rattle.bd_shape.specs.Tightened.{both_grouped, right_fresh, tightened}
use Rattle.bd_renamed.specs.Alike.{AreTaken, IsAlike, TightensAlike}
use Rattle.bd_renamed.specs.Renamed.{renamed}
use Rattle.bd_renamed.proofs.AlikeLemmas.{alike}
use Rattle.bd_renamed.proofs.RenameLemmas.{renamed-Step, renamed-Block, tightened_new, convex_sides_new, between_sides_new}

module _ (next by : ℕ) where
  -- a number from the next on is moved up
  abbrev shift : ℕ → ℕ
  shift x = cond (ltb x next) x (x + by)

  stays : (x : ℕ) → x < next → shift x ≡ x
  stays x lt = cond-true _ _ _ (lt-ltb x next lt)

  moves : (x : ℕ) → next ≤ x → shift x ≡ x + by
  moves x le = cond-false _ _ _ (le-ltb x next le)

  -- different numbers stay different
  one : (x y : ℕ) → (shift x ≡ shift y → x ≡ y) → eqb (shift x) (shift y) ≡ eqb x y
  one x y back = elim (cases_eq x y) [
    | inl same ↦ eq-eqb (shift x) (shift y) (ap shift same) ∙ sym (eq-eqb x y same)
    | inr ne ↦ ne_eqb (shift x) (shift y) (λ e. ne (back e)) ∙ sym (ne_eqb x y ne)
  ]

  apart : (x y : ℕ) → eqb (shift x) (shift y) ≡ eqb x y
  apart x y = one x y (λ e. elim (cases_lt x next) [
    | inl a ↦ elim (cases_lt y next) [ inl b ↦ omega (arith, e, stays x a, stays y b) | inr b ↦ absurd (omega (arith, e, a, b, stays x a, moves y b)) ]
    | inr a ↦ elim (cases_lt y next) [ inl b ↦ absurd (omega (arith, e, a, b, moves x a, stays y b)) | inr b ↦ omega (arith, e, moves x a, moves y b) ]
  ])

  all_stay : (xs : List ℕ) → greatest xs < next → map shift xs ≡ xs
  all_stay [] lt = refl
  all_stay (x ∷ xs) lt = ap (λ z. z ∷ map shift xs) (stays x (omega (arith, lt))) ∙ ap (λ z. x ∷ z) (all_stay xs (omega (arith, lt)))

  abbrev Stays : Node → Type 0
  Stays n = greatest (ids_of n) < next → renamed shift n ≡ n

  kids_stay : (kids : List Node) → Each Stays kids → greatest (joined (map ids_of kids)) < next → map (renamed shift) kids ≡ kids
  kids_stay [] e lt = refl
  kids_stay (k ∷ ks) e lt =
      let both : greatest (ids_of k ++ joined (map ids_of ks)) ≡ max (greatest (ids_of k)) (greatest (joined (map ids_of ks))) = greatest-append (ids_of k) (joined (map ids_of ks)) in
      ap (λ z. z ∷ map (renamed shift) ks) (e.0 (omega (arith, both, lt))) ∙ ap (λ z. k ∷ z) (kids_stay ks e.1 (omega (arith, both, lt)))

  tree_stays : (n : Node) → Stays n
  tree_stays = by_node Stays
      (λ id a lt. renamed-Step shift id a ∙ ap (λ z. Step z a) (stays id (omega (arith, lt, ap greatest (ids_of-Step id a)))))
      (λ id kids order e lt.
      let here : max id (greatest (joined (map ids_of kids))) < next = omega (arith, lt, ap greatest (ids_of-Block id kids order)) in
      renamed-Block shift id kids order
      ∙ ap (λ z. Block z (map (renamed shift) kids) order) (stays id (omega (arith, here)))
      ∙ ap (λ z. Block id z order) (kids_stay kids e (omega (arith, here))))

module _ (task : TaskView) (root : Node) (block : ℕ) (left right : List ℕ) (next later : ℕ) (taken : AreTaken root block left right next) (le : next ≤ later) where
  abbrev by : ℕ
  by = later - next

  abbrev f : ℕ → ℕ
  f = shift next by

  next_is : f next ≡ later
  next_is = omega (arith, le, moves next by next (omega arith))

  goes_on : f (next + count_taken left) ≡ f next + count_taken left
  goes_on = omega (arith, moves next by next (omega arith), moves next by (next + count_taken left) (omega arith))

  block_is : f block ≡ block
  block_is = stays next by block taken.at_block

  left_is : map f left ≡ left
  left_is = all_stay next by left taken.on_left

  right_is : map f right ≡ right
  right_is = all_stay next by right taken.on_right

  root_is : renamed f root ≡ root
  root_is = tree_stays next by root taken.in_tree

  -- what is said of the renamed parts is said of the parts
  module _ {A : Type 0} (g : Node → ℕ → List ℕ → List ℕ → ℕ → A) where
    parts_are : g (renamed f root) (f block) (map f left) (map f right) (f next) ≡ g root block left right later
    parts_are =
        ap (λ z. g z (f block) (map f left) (map f right) (f next)) root_is
        ∙ ap (λ z. g root z (map f left) (map f right) (f next)) block_is
        ∙ ap (λ z. g root block z (map f right) (f next)) left_is
        ∙ ap (λ z. g root block left z (f next)) right_is
        ∙ ap (g root block left right) next_is

  made_is : renamed f (tightened root block left right next) ≡ tightened root block left right later
  made_is = tightened_new f (apart next by) root block left right next goes_on ∙ parts_are tightened

  pub tightens_alike : TightensAlike task root block left right next later
  tightens_alike = record {
    convex = sym (parts_are (λ r b xs ys n. convex_at b ys (grouped r b xs n))) ∙ convex_sides_new f (apart next by) root block left right next goes_on;
    between = sym (parts_are (λ r b xs ys n. between_at b (side_id xs n) (side_id ys (right_fresh xs n)) (both_grouped r b xs ys n))) ∙ between_sides_new f (apart next by) root block left right next goes_on;
    tree = subst (IsAlike task (tightened root block left right next)) made_is (alike f task (tightened root block left right next));
  }
