-- The kids on the two sides of a window, by marks at their positions.
use Rattle.std.proofs.Common.{◌≡◌, ℕ, zero, suc, ◌+◌, Bool, true, false, cond, not, ◌&&◌, ◌||◌, List, [], ◌∷◌, filter, map, Some, None, refl, sym, ap, ◌∙◌, arith}
use Rattle.std.specs.List.{slice_get, enumerate_from, list_any}
use Rattle.std.specs.Option.{option_map_or}
use Rattle.bd_base.specs.Facts.{has, plus}
use Rattle.bd_base.proofs.FactLemmas.{has-plus}
use Rattle.bd_base.proofs.RowLemmas.{before_by_row}
use Rattle.bd_task.specs.declared.ground.Action.{Action}
use Rattle.bd_task.specs.TaskView.{TaskView}
use Rattle.bd_tree.specs.declared.node.Node.{Node}
use Rattle.bd_links.specs.Child.{Child}
use Rattle.bd_links.specs.declared.parts.Effects.{Effects}
use Rattle.bd_links.specs.Effects.{Kid, Order, block_effects}
use Rattle.bd_links.specs.Sound.{child_of}
use Rattle.bd_links.proofs.Members.{In, here, there}
use Rattle.bd_merge.specs.declared.window.Window.{Window}
use Rattle.bd_merge.specs.declared.window.Lean.{Lean}
use Rattle.bd_merge.specs.declared.window.Lean.TheVariants.{Early, Late}
use Rattle.bd_merge.specs.Merged.{goes_first, is_front, is_back}
use Rattle.bd_tree.specs.Convex.{is_member}
use Rattle.bd_tree.specs.Tree.{id_of}
use Rattle.bd_base.specs.Pairs.{after_of, is_before}
use Rattle.bd_subtask.specs.declared.fact_rows.FactRow.{FactRow}
use Rattle.bd_subtask.specs.declared.level.Level.{Level}
use Rattle.bd_subtask.specs.declared.parts.Around.{Around}
use Rattle.bd_subtask.specs.Certain.{kids_of}
use Rattle.bd_subtask.specs.declared.part.Part.{Part}
use Rattle.bd_subtask.specs.Level.{IsKept, is_in, is_marked, leans, part_deletes, part_gives, part_needs, part_of, reach_from, rows_of, settle_all, stands_behind, stands_in_front, start_of, touched_rows, with_rare}
use Rattle.bd_subtask.specs.Subtask.{back_kids, front_kids}
use Rattle.bd_subtask.proofs.PartLemmas.{any_picked, or_false}
use Rattle.bd_subtask.proofs.ToldLemmas.{deletes_same, gives_same, needs_same}
use Rattle.bd_subtask.proofs.Lists.{get_map, map_numbered, numbered_get}

get_enumerated : {X : Type 0} (m : ℕ) (xs : List X) (i : ℕ) (x : X) → slice_get xs i ≡ Some x → slice_get (enumerate_from m xs) i ≡ Some (m + i, x)
get_enumerated {X} m [] i x e = absurd (none x e)
  where
    none : (x : X) → None ≡ Some x → ⊥
    none x e = cc
get_enumerated {X} m (y ∷ xs) zero x e =
    let a : m ≡ m + 0 = omega arith in
    ap (λ z. Some (z, y)) a ∙ ap (λ z. Some (m + 0, z)) (same y x e)
  where
    same : (y x : X) → Some y ≡ Some x → y ≡ x
    same y x e = cc
get_enumerated m (y ∷ xs) (suc i) x e =
    let a : m + 1 + i ≡ m + suc i = omega arith in
    get_enumerated (m + 1) xs i x e ∙ ap (λ z. Some (z, x)) a

-- the mark at a kid's position is the test's answer
marked_is : (t : ℕ × Node → Bool) (ks : List Node) (k : ℕ × Node) → In k (enumerate_from 0 ks) → is_marked (map t (enumerate_from 0 ks)) k.0 ≡ t k
marked_is t ks k i =
    let r = numbered_get 0 ks k i in
    let at : k.0 ≡ r.0 = omega (arith, r.1) in
    let zero_first : 0 + r.0 ≡ k.0 = omega (arith, at) in
    ap (is_marked (map t (enumerate_from 0 ks))) at
    ∙ ap (λ o. option_map_or (λ b. b) o false) (get_map t (enumerate_from 0 ks) r.0 (0 + r.0, k.1) (get_enumerated 0 ks r.0 k.1 r.2))
    ∙ ap (λ z. t (z, k.1)) zero_first

module _ (t u : ℕ × Node → Bool) (g : ℕ × Node → Kid) (v : Kid → Bool) (same : (k : ℕ × Node) → v (g k) ≡ t k) where
  picked_map : (ks : List (ℕ × Node)) → ((k : ℕ × Node) → In k ks → t k ≡ u k) → filter v (map g ks) ≡ map g (filter u ks)
  picked_map [] h = refl
  picked_map (k ∷ ks) h =
      ap (λ b. cond b (g k ∷ filter v (map g ks)) (filter v (map g ks))) (same k ∙ h k here)
      ∙ one (u k) (picked_map ks (λ x i. h x (there i)))
    where
      one : (b : Bool) → filter v (map g ks) ≡ map g (filter u ks) → cond b (g k ∷ filter v (map g ks)) (filter v (map g ks)) ≡ map g (cond b (k ∷ filter u ks) (filter u ks))
      one true e = ap (λ z. g k ∷ z) e
      one false e = e

pub part_is : (actions : List Action) (t : ℕ × Node → Bool) (ks : List Node) → part_of (map t (enumerate_from 0 ks)) (kids_of actions ks) ≡ map (λ (k : ℕ × Node). (k.0, child_of actions k.1)) (filter t (enumerate_from 0 ks))
part_is actions t ks =
    let marks = map t (enumerate_from 0 ks) in
    ap (part_of marks) (sym (map_numbered (child_of actions) 0 ks))
    ∙ picked_map (λ k. is_marked marks k.0) t (λ k. (k.0, child_of actions k.1)) (λ k. is_marked marks k.0) (λ k. refl) (enumerate_from 0 ks) (marked_is t ks)

module _ (task : TaskView) (window : Window) (ks : List Node) (order : Order) (level : Level) (kept : IsKept task ks order level) (marks : List Bool) (rows : List FactRow) (same : rows ≡ level.rows.items) where
  abbrev kids : List Kid
  kids = kids_of task.actions ks

  rows_are : rows ≡ rows_of kids
  rows_are = same ∙ kept.rows

  abbrev parts : List Child
  parts = map (child_of task.actions) ks

  -- the part of the block that the kids of a list are
  module _ (chosen : List Kid) (is : part_of marks kids ≡ chosen) (part : Part) (touched : List (List ℕ)) (sliced : touched ≡ level.touched.items) (told : part.changed ≡ with_rare marks part.most [] (enumerate_from 0 touched)) where
    changed_is : part.changed ≡ with_rare marks part.most [] (enumerate_from 0 (map (λ (c : Child). plus [] (touched_rows (rows_of kids) c)) parts))
    changed_is = told ∙ ap (λ z. with_rare marks part.most [] (enumerate_from 0 z)) (sliced ∙ kept.touched ∙ ap (λ (z : List FactRow). map (λ (c : Child). plus [] (touched_rows z c)) parts) kept.rows)

    settled_is : (t : FactRow → Bool) (w whole : List ℕ) → whole ≡ w → settle_all t rows (start_of part.most whole) part.changed ≡ settle_all t (rows_of kids) (start_of part.most w) part.changed
    settled_is t w whole e = ap (λ z. settle_all t rows (start_of part.most z) part.changed) e ∙ ap (λ (z : List FactRow). settle_all t z (start_of part.most w) part.changed) rows_are

    pub needs_are : (s whole : List ℕ) → whole ≡ level.whole.need → s ≡ settle_all (part_needs order marks) rows (start_of part.most whole) part.changed → s ≡ (block_effects order chosen).need
    needs_are s whole w e =
        e ∙ settled_is (part_needs order marks) (block_effects order kids).need whole (w ∙ ap (λ (x : Effects). x.need) kept.whole)
        ∙ needs_same marks parts part changed_is order ∙ ap (λ z. (block_effects order z).need) is

    pub gives_are : (s whole : List ℕ) → whole ≡ level.whole.add → s ≡ settle_all (part_gives order marks) rows (start_of part.most whole) part.changed → s ≡ (block_effects order chosen).add
    gives_are s whole w e =
        e ∙ settled_is (part_gives order marks) (block_effects order kids).add whole (w ∙ ap (λ (x : Effects). x.add) kept.whole)
        ∙ gives_same marks parts part changed_is order ∙ ap (λ z. (block_effects order z).add) is

    pub deletes_are : (s whole : List ℕ) → whole ≡ level.whole.del → s ≡ settle_all (part_deletes order marks) rows (start_of part.most whole) part.changed → s ≡ (block_effects order chosen).del
    deletes_are s whole w e =
        e ∙ settled_is (part_deletes order marks) (block_effects order kids).del whole (w ∙ ap (λ (x : Effects). x.del) kept.whole)
        ∙ deletes_same marks parts part changed_is order ∙ ap (λ z. (block_effects order z).del) is

  abbrev ids : List ℕ
  ids = map id_of window.kids

  module _ (members : List ℕ) (carried : members ≡ map (λ (k : ℕ × Node). k.0) (filter (is_member ids) (enumerate_from 0 ks))) where
    leans_is : (lean : Lean) (j : ℕ) → leans lean order members j ≡ goes_first lean order ids (enumerate_from 0 ks) j
    leans_is Early j = ap not (ap (list_any (λ m. is_before order m j)) carried ∙ any_picked (is_member ids) (λ m. is_before order m j) (enumerate_from 0 ks))
    leans_is Late j = ap (list_any (λ m. is_before order j m)) carried ∙ any_picked (is_member ids) (λ m. is_before order j m) (enumerate_from 0 ks)

    front_same : (m : ℕ) (xs : List Node) → map (stands_in_front window.lean order members) (enumerate_from m (map (is_in ids) xs)) ≡ map (is_front window order (enumerate_from 0 ks)) (enumerate_from m xs)
    front_same m [] = refl
    front_same m (x ∷ xs) =
        ap (λ b. (not (is_in ids x) && b) ∷ map (stands_in_front window.lean order members) (enumerate_from (m + 1) (map (is_in ids) xs))) (leans_is window.lean m)
        ∙ ap (λ z. is_front window order (enumerate_from 0 ks) (m, x) ∷ z) (front_same (m + 1) xs)

    back_same : (m : ℕ) (xs : List Node) → map (stands_behind window.lean order members) (enumerate_from m (map (is_in ids) xs)) ≡ map (is_back window order (enumerate_from 0 ks)) (enumerate_from m xs)
    back_same m [] = refl
    back_same m (x ∷ xs) =
        ap (λ b. (not (is_in ids x) && not b) ∷ map (stands_behind window.lean order members) (enumerate_from (m + 1) (map (is_in ids) xs))) (leans_is window.lean m)
        ∙ ap (λ z. is_back window order (enumerate_from 0 ks) (m, x) ∷ z) (back_same (m + 1) xs)

    module _ (inside : List Bool) (marked : inside ≡ map (is_in ids) ks) where
      pub front_is : (items : List Bool) → marks ≡ items → items ≡ map (stands_in_front window.lean order members) (enumerate_from 0 inside) → part_of marks kids ≡ front_kids task.actions window ks order
      front_is items e h =
          ap (λ z. part_of z kids) (e ∙ h ∙ ap (λ z. map (stands_in_front window.lean order members) (enumerate_from 0 z)) marked ∙ front_same 0 ks)
          ∙ part_is task.actions (is_front window order (enumerate_from 0 ks)) ks

      pub back_is : (items : List Bool) → marks ≡ items → items ≡ map (stands_behind window.lean order members) (enumerate_from 0 inside) → part_of marks kids ≡ back_kids task.actions window ks order
      back_is items e h =
          ap (λ z. part_of z kids) (e ∙ h ∙ ap (λ z. map (stands_behind window.lean order members) (enumerate_from 0 z)) marked ∙ back_same 0 ks)
          ∙ part_is task.actions (is_back window order (enumerate_from 0 ks)) ks

-- the positions that are marked as carried
marked_members : (own : List ℕ) (m : ℕ) (xs : List Node) → map (λ (k : ℕ × Bool). k.0) (filter (λ (k : ℕ × Bool). k.1) (enumerate_from m (map (is_in own) xs))) ≡ map (λ (k : ℕ × Node). k.0) (filter (is_member own) (enumerate_from m xs))
marked_members own m [] = refl
marked_members own m (x ∷ xs) = one (is_in own x) (marked_members own (m + 1) xs)
  where
    left : List (ℕ × Bool)
    left = filter (λ (k : ℕ × Bool). k.1) (enumerate_from (m + 1) (map (is_in own) xs))

    right : List (ℕ × Node)
    right = filter (is_member own) (enumerate_from (m + 1) xs)

    one : (b : Bool) → map (λ (k : ℕ × Bool). k.0) left ≡ map (λ (k : ℕ × Node). k.0) right → map (λ (k : ℕ × Bool). k.0) (cond b ((m, is_in own x) ∷ left) left) ≡ map (λ (k : ℕ × Node). k.0) (cond b ((m, x) ∷ right) right)
    one true e = ap (λ z. m ∷ z) e
    one false e = e

pub members_are : (own members : List ℕ) (inside : List Bool) (ks : List Node) → inside ≡ map (is_in own) ks → members ≡ map (λ (k : ℕ × Bool). k.0) (filter (λ (k : ℕ × Bool). k.1) (enumerate_from 0 inside)) → members ≡ map (λ (k : ℕ × Node). k.0) (filter (is_member own) (enumerate_from 0 ks))
members_are own members inside ks marked e =
    e ∙ ap (λ z. map (λ (k : ℕ × Bool). k.0) (filter (λ (k : ℕ × Bool). k.1) (enumerate_from 0 z))) marked ∙ marked_members own 0 ks

-- ---- the positions after members

pub has_reach : (order : Order) (s ms : List ℕ) (j : ℕ) → has (reach_from order s ms) j ≡ (list_any (λ m. is_before order m j) ms || has s j)
has_reach order s [] j = refl
has_reach order s (m ∷ ms) j =
    has_reach order (plus s (after_of order m)) ms j
    ∙ ap (λ z. list_any (λ m. is_before order m j) ms || z) (has-plus s (after_of order m) j ∙ ap (λ z. z || has s j) (sym (before_by_row order m j)))
    ∙ turned (list_any (λ m. is_before order m j) ms) (is_before order m j) (has s j)
  where
    turned : (r h s : Bool) → (r || (h || s)) ≡ ((h || r) || s)
    turned true true s = refl
    turned true false s = refl
    turned false true s = refl
    turned false false s = refl

pub reach_has : (order : Order) (ms : List ℕ) (j : ℕ) → has (reach_from order [] ms) j ≡ list_any (λ m. is_before order m j) ms
reach_has order ms j = has_reach order [] ms j ∙ or_false (list_any (λ m. is_before order m j) ms)

pub made : (a : Around) (root : Bool) (fg fd bn bg g d : List ℕ) → root ≡ a.is_root → fg ≡ a.front_gives → fd ≡ a.front_deletes → bn ≡ a.back_needs → bg ≡ a.back_gives → g ≡ a.gives → d ≡ a.deletes → record { is_root = root; front_gives = fg; front_deletes = fd; back_needs = bn; back_gives = bg; gives = g; deletes = d } ≡ a
made a root fg fd bn bg g d r efg efd ebn ebg eg ed =
    ap (λ z. record { is_root = z; front_gives = fg; front_deletes = fd; back_needs = bn; back_gives = bg; gives = g; deletes = d }) r
    ∙ ap (λ z. record { is_root = a.is_root; front_gives = z; front_deletes = fd; back_needs = bn; back_gives = bg; gives = g; deletes = d }) efg
    ∙ ap (λ z. record { is_root = a.is_root; front_gives = a.front_gives; front_deletes = z; back_needs = bn; back_gives = bg; gives = g; deletes = d }) efd
    ∙ ap (λ z. record { is_root = a.is_root; front_gives = a.front_gives; front_deletes = a.front_deletes; back_needs = z; back_gives = bg; gives = g; deletes = d }) ebn
    ∙ ap (λ z. record { is_root = a.is_root; front_gives = a.front_gives; front_deletes = a.front_deletes; back_needs = a.back_needs; back_gives = z; gives = g; deletes = d }) ebg
    ∙ ap (λ z. record { is_root = a.is_root; front_gives = a.front_gives; front_deletes = a.front_deletes; back_needs = a.back_needs; back_gives = a.back_gives; gives = z; deletes = d }) eg
    ∙ ap (λ z. record { is_root = a.is_root; front_gives = a.front_gives; front_deletes = a.front_deletes; back_needs = a.back_needs; back_gives = a.back_gives; gives = a.gives; deletes = z }) ed
