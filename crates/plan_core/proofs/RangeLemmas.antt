-- What holds of each node of a tree and of each new step holds of each node of the merged tree.
use Rattle.std.proofs.Common.{◌≡◌, ℕ, ◌+◌, ◌<◌, Bool, true, false, ◌&&◌, eqb, nat_lt, cond, List, [], ◌∷◌, ◌++◌, map, filter, Option, Some, None, inl, inr, refl, sym, ap, ◌∙◌, subst, lt-ltb, arith}
use Rattle.std.specs.List.{list_all, enumerate_from, AllByRecursion}
use Rattle.std.proofs.lemmas.Bool.{and_parts, and_from}
use Rattle.bd_tree.specs.declared.node.Node.{Node, Step, Block}
use Rattle.bd_tree.specs.declared.node.Node.TheOpen.{Node-F}
use Rattle.bd_tree.specs.declared.node.Node.TheViews.{rolls-Step, rolls-Block}
use Rattle.bd_tree.specs.declared.node.Node.TheFolds.{fold-Node, fold-roll-Node}
use Rattle.bd_tree.specs.Chain.{steps_from}
use Rattle.bd_tree.specs.Tree.{find_in, first_some, total}
use Rattle.bd_tree.proofs.NodeLemmas.{Each, by_node}
use Rattle.bd_links.specs.Sound.{are_below, below_step}
use Rattle.bd_merge.specs.Merged.{merged, merged_block, merged_kids, fronts, backs, is_front, is_back}
use Rattle.bd_merge.specs.declared.window.Window.{Window}
use Rattle.bd_shape.specs.Measures.{AddUpAlike}
use Rattle.plan_core.specs.Rebuilt.{leaves_of, rebuilt}
use Rattle.plan_core.proofs.MeasureLemmas.{clash}
use Rattle.plan_core.proofs.RebuildLemmas.{leaves_pass}
use Rattle.bd_merge.proofs.MergeLemmas.{merged-Step, merged-Block}
use Rattle.bd_merge.specs.Stands.{IsAmong, AreAmong, IsThere}
use Rattle.std.specs.Option.{is_some}
use Rattle.bd_tree.proofs.TreeLemmas.{find_in-Step, find_in-Block}

abbrev all_true : List Bool → Bool
all_true bs = list_all (λ b. b) bs

module _ (window : Window) (list : List ℕ) (next : ℕ) (holds : Node → Bool) (own_holds : ℕ → Bool)
    (of_block : (id : ℕ) (kids : List Node) (order : List (ℕ × ℕ)) → holds (Block id kids order) ≡ (own_holds id && list_all (λ b. b) (map holds kids)))
    (news : list_all (λ b. b) (map holds (steps_from next list)) ≡ true) where
  all_of_two : (xs ys : List Node) → list_all (λ b. b) (map holds xs) ≡ true → list_all (λ b. b) (map holds ys) ≡ true → list_all (λ b. b) (map holds (xs ++ ys)) ≡ true
  all_of_two [] ys a b = b
  all_of_two (x ∷ xs) ys a b = let p = and_parts (holds x) _ a in and_from _ _ p.0 (all_of_two xs ys p.1 b)

  some_of_all : (t : ℕ × Node → Bool) (m : ℕ) (kids : List Node) → list_all (λ b. b) (map holds kids) ≡ true → list_all (λ b. b) (map holds (map (λ (k : ℕ × Node). k.1) (filter t (enumerate_from m kids)))) ≡ true
  some_of_all t m [] a = refl
  some_of_all t m (k ∷ ks) a = let p = and_parts (holds k) _ a in at (t (m, k)) p.0 (some_of_all t (m + 1) ks p.1)
    where
      at : (b : Bool) → holds k ≡ true → list_all (λ b. b) (map holds (map (λ (k : ℕ × Node). k.1) (filter t (enumerate_from (m + 1) ks)))) ≡ true →
          list_all (λ b. b) (map holds (map (λ (k : ℕ × Node). k.1) (cond b ((m, k) ∷ filter t (enumerate_from (m + 1) ks)) (filter t (enumerate_from (m + 1) ks))))) ≡ true
      at true h r = and_from _ _ h r
      at false h r = r

  kids_hold : (order : List (ℕ × ℕ)) (kids : List Node) → list_all (λ b. b) (map holds kids) ≡ true → list_all (λ b. b) (map holds (merged_kids window list next order (enumerate_from 0 kids))) ≡ true
  kids_hold order kids a =
      let ks = enumerate_from 0 kids in
      let fore = map (λ (k : ℕ × Node). k.1) (fronts window order ks) in
      let aft = map (λ (k : ℕ × Node). k.1) (backs window order ks) in
      let new = steps_from next list in
      all_of_two (fore ++ new) aft
      (all_of_two fore new (some_of_all (is_front window order ks) 0 kids a) news)
      (some_of_all (is_back window order ks) 0 kids a)

  abbrev Keeps : Node → Type 0
  Keeps n = holds n ≡ true → holds (merged n window list next) ≡ true

  all_keep : (ks : List Node) → Each Keeps ks → list_all (λ b. b) (map holds ks) ≡ true → list_all (λ b. b) (map holds (map (λ (n : Node). merged n window list next) ks)) ≡ true
  all_keep [] e a = refl
  all_keep (k ∷ ks) e a = let p = and_parts (holds k) _ a in and_from _ _ (e.0 p.0) (all_keep ks e.1 p.1)

  keeps_block : (own : ℕ) (kids : List Node) (order : List (ℕ × ℕ)) → Each Keeps kids → Keeps (Block own kids order)
  keeps_block own kids order e h =
      let p = and_parts (own_holds own) _ (sym (of_block own kids order) ∙ h) in
      ap holds (merged-Block window list next own kids order) ∙ at (eqb own window.block) p.0 p.1
    where
      at : (b : Bool) → own_holds own ≡ true → list_all (λ b. b) (map holds kids) ≡ true →
          holds (cond b (merged_block window list next own kids order) (Block own (map (λ (n : Node). merged n window list next) kids) order)) ≡ true
      at true o a = of_block own _ _ ∙ and_from _ _ o (kids_hold order kids a)
      at false o a = of_block own _ _ ∙ and_from _ _ o (all_keep kids e a)

  pub keeps_merge : (n : Node) → holds n ≡ true → holds (merged n window list next) ≡ true
  keeps_merge = by_node Keeps (λ own a h. ap holds (merged-Step window list next own a) ∙ h) keeps_block

-- the actions are in range
module _ (n : ℕ) where
  below-Step : (id a : ℕ) → are_below n (Step id a) ≡ nat_lt a n
  below-Step id a = ap (are_below n) (sym (rolls-Step id a)) ∙ fold-roll-Node Bool (below_step n) (Node-F.Step id a)

  below-Block : (id : ℕ) (kids : List Node) (order : List (ℕ × ℕ)) → are_below n (Block id kids order) ≡ (true && list_all (λ b. b) (map (are_below n) kids))
  below-Block id kids order = ap (are_below n) (sym (rolls-Block id kids order)) ∙ fold-roll-Node Bool (below_step n) (Node-F.Block id kids order)

  steps_below : (m : ℕ) (list : List ℕ) → AllByRecursion (λ a. a < n) list → list_all (λ b. b) (map (are_below n) (steps_from m list)) ≡ true
  steps_below m [] h = refl
  steps_below m (a ∷ list) h = and_from _ _ (below-Step m a ∙ lt-ltb a n h.0) (steps_below (m + 1) list h.1)

  pub merged_below : (root : Node) (window : Window) (list : List ℕ) (next : ℕ) → AllByRecursion (λ a. a < n) list → are_below n root ≡ true → are_below n (merged root window list next) ≡ true
  merged_below root window list next h e = keeps_merge window list next (are_below n) (λ id. true) below-Block (steps_below next list h) root e

module _ (n : ℕ) where
  pub rebuilt_below : (root : Node) (order : List (ℕ × ℕ)) → are_below n root ≡ true → are_below n (rebuilt root order) ≡ true
  rebuilt_below root order e =
      below-Block n 0 (leaves_of root) order ∙ leaves_pass (are_below n) (λ id kids o h. sym (below-Block n id kids o) ∙ h) root e

-- how many steps have an action that is out of range
module _ (n : ℕ) where
  abbrev out_step : Node-F ℕ → ℕ
  out_step (Node-F.Step id action) = cond (nat_lt action n) 0 1
  out_step (Node-F.Block id kids order) = total kids

  abbrev out_of : Node → ℕ
  out_of = fold-Node ℕ out_step

  out-Step : (id a : ℕ) → out_of (Step id a) ≡ cond (nat_lt a n) 0 1
  out-Step id a = ap out_of (sym (rolls-Step id a)) ∙ fold-roll-Node ℕ out_step (Node-F.Step id a)

  out-Block : (id : ℕ) (kids : List Node) (order : List (ℕ × ℕ)) → out_of (Block id kids order) ≡ total (map out_of kids)
  out-Block id kids order = ap out_of (sym (rolls-Block id kids order)) ∙ fold-roll-Node ℕ out_step (Node-F.Block id kids order)

  -- none is exactly where all are in range
  abbrev IsCounted : Node → Type 0
  IsCounted m = (are_below n m ≡ true → out_of m ≡ 0) × (out_of m ≡ 0 → are_below n m ≡ true)

  step_counted : (id a : ℕ) → IsCounted (Step id a)
  step_counted id a = at (nat_lt a n) (below-Step n id a) (out-Step id a)
    where
      at : (b : Bool) → are_below n (Step id a) ≡ b → out_of (Step id a) ≡ cond b 0 1 → IsCounted (Step id a)
      at true below out = ((λ e. out), (λ e. below))
      at false below out = ((λ e. absurd (clash _ e below)), (λ e. absurd (omega (arith, out, e))))

  kids_counted : (kids : List Node) → Each IsCounted kids → (list_all (λ b. b) (map (are_below n) kids) ≡ true → total (map out_of kids) ≡ 0) × (total (map out_of kids) ≡ 0 → list_all (λ b. b) (map (are_below n) kids) ≡ true)
  kids_counted [] e = ((λ h. refl), (λ h. refl))
  kids_counted (k ∷ ks) e =
      let rest = kids_counted ks e.1 in (
        (λ h. let p = and_parts (are_below n k) _ h in omega (arith, e.0.0 p.0, rest.0 p.1)),
        (λ h. and_from _ _ (e.0.1 (omega (arith, h))) (rest.1 (omega (arith, h)))),
      )

  all_counted : (m : Node) → IsCounted m
  all_counted = by_node IsCounted step_counted
      (λ id kids order e. let rest = kids_counted kids e in (
        (λ h. out-Block id kids order ∙ rest.0 (sym (below-Block n id kids order) ∙ h)),
        (λ h. below-Block n id kids order ∙ rest.1 (sym (out-Block id kids order) ∙ h)),
      ))

  -- so trees with the same steps are in range together
  pub below_alike : (old new : Node) → AddUpAlike old new → are_below n old ≡ true → are_below n new ≡ true
  below_alike old new alike h = (all_counted new).1 (alike out_of out-Block ∙ (all_counted old).0 h)

-- what is found in a tree, and what is carried of it, is in range too
module _ (n : ℕ) (id : ℕ) where
  abbrev FoundBelow : Node → Type 0
  FoundBelow root = (m : Node) → find_in id root ≡ Some m → are_below n root ≡ true → are_below n m ≡ true

  abbrev BelowIn : Option Node → Type 0
  BelowIn None = Unit {0}
  BelowIn (Some k) = are_below n k ≡ true

  same_some : (x m : Node) → Some x ≡ Some m → are_below n x ≡ true → are_below n m ≡ true
  same_some x m e h = subst BelowIn e h

  none_some : (m : Node) → None ≡ Some m → ⊥
  none_some m e = clash (is_some (Some m)) refl (ap is_some (sym e))

  among_kids : (ks : List Node) → Each FoundBelow ks → (m : Node) → first_some (map (find_in id) ks) ≡ Some m → list_all (λ b. b) (map (are_below n) ks) ≡ true → are_below n m ≡ true
  among_kids [] e m f h = absurd (none_some m f)
  among_kids (k ∷ ks) e m f h = let p = and_parts (are_below n k) _ h in at (find_in id k) refl f p.0 p.1 (among_kids ks e.1 m)
    where
      at : (o : Option Node) → find_in id k ≡ o → first_some (o ∷ map (find_in id) ks) ≡ Some m → are_below n k ≡ true → list_all (λ b. b) (map (are_below n) ks) ≡ true →
          (first_some (map (find_in id) ks) ≡ Some m → list_all (λ b. b) (map (are_below n) ks) ≡ true → are_below n m ≡ true) → are_below n m ≡ true
      at None is f a b rest = rest f b
      at (Some x) is f a b rest = e.0 m (is ∙ f) a

  pub found_below : (root : Node) → FoundBelow root
  found_below = by_node FoundBelow
      (λ own a m f h. at_step own a m (eqb own id) (sym (find_in-Step id own a) ∙ f) h)
      (λ own kids order e m f h. at_block own kids order e m (eqb own id) (sym (find_in-Block id own kids order) ∙ f) h)
    where
      at_step : (own a : ℕ) (m : Node) (b : Bool) → cond b (Some (Step own a)) None ≡ Some m → are_below n (Step own a) ≡ true → are_below n m ≡ true
      at_step own a m true f h = same_some _ m f h
      at_step own a m false f h = absurd (none_some m f)

      at_block : (own : ℕ) (kids : List Node) (order : List (ℕ × ℕ)) → Each FoundBelow kids → (m : Node) (b : Bool) → cond b (Some (Block own kids order)) (first_some (map (find_in id) kids)) ≡ Some m → are_below n (Block own kids order) ≡ true → are_below n m ≡ true
      at_block own kids order e m true f h = same_some _ m f h
      at_block own kids order e m false f h = among_kids kids e m f (sym (below-Block n own kids order) ∙ h)

module _ (n : ℕ) where
  one_below : (kids : List Node) (node : Node) → IsAmong kids node → list_all (λ b. b) (map (are_below n) kids) ≡ true → are_below n node ≡ true
  one_below [] node i h = elim i [ ]
  one_below (k ∷ ks) node (inl e) h = subst (λ z. are_below n z ≡ true) e (and_parts _ _ h).0
  one_below (k ∷ ks) node (inr i) h = one_below ks node i (and_parts (are_below n k) _ h).1

  all_below : (kids carried : List Node) → AreAmong kids carried → list_all (λ b. b) (map (are_below n) kids) ≡ true → list_all (λ b. b) (map (are_below n) carried) ≡ true
  all_below kids [] a h = refl
  all_below kids (c ∷ cs) a h = and_from _ _ (one_below kids c a.0 h) (all_below kids cs a.1 h)

  pub carried_below : (root : Node) (window : Window) → IsThere root window → are_below n root ≡ true → list_all (λ b. b) (map (are_below n) window.kids) ≡ true
  carried_below root window there h =
      all_below there.kids window.kids there.carried.equal (sym (below-Block n window.block there.kids there.order) ∙ found_below n window.block root _ there.found h)
