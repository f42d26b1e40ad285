-- In a tight tree no pair of single kids of the root is a gain.
use Rattle.std.proofs.Common.{◌≡◌, ℕ, zero, suc, ◌+◌, ◌*◌, ◌<◌, ◌≤◌, true, false, not, ◌&&◌, eqb, List, map, Option, Some, slice_get, refl, sym, ap, ◌∙◌, subst, arith}
use Rattle.std.specs.Option.{option_map_or}
use Rattle.std.proofs.lemmas.Bool.{cond-true, eqb-true, eq-eqb}
use Rattle.bd_base.specs.Pairs.{without_pair}
use Rattle.bd_task.specs.TaskView.{TaskView}
use Rattle.bd_tree.specs.declared.node.Node.{Node, Block}
use Rattle.bd_tree.specs.Tree.{depth_of, find_in, id_of, steps_of}
use Rattle.bd_tree.specs.WellFormed.{IsWellFormed, are_distinct}
use Rattle.bd_tree.proofs.TreeLemmas.{find_in-Block}
use Rattle.bd_links.specs.Sound.{IsSound}
use Rattle.bd_links.proofs.Members.{In}
use Rattle.bd_shape.specs.Unordered.{stands_at, unordered, unordered_block, unordered_pairs}
use Rattle.bd_shape.proofs.RemadeLemmas.{of_the_block}
use Rattle.bd_shape.proofs.TimesLemmas.{kids_distinct}
use Rattle.bd_shape.proofs.UnorderLemmas.{unordered_depth}
use Rattle.bd_tight.specs.declared.gain.Gain.{Gain}
use Rattle.bd_tight.specs.Candidates.{IsCandidate, IsTight, Qualifies, candidates}
use Rattle.bd_tight.proofs.CandidateLemmas.{all_rec}
use Rattle.bd_tight.proofs.HullLemmas.{named_at}
use Rattle.bd_tight.proofs.KidLemmas.{the_kid}
use Rattle.bd_tight.proofs.ListLemmas.{filter_on}
use Rattle.bd_tight.proofs.ListedLaw.{from_list}
use Rattle.bd_tight.proofs.TightLaw.{alone, alone_listed, can_unorder, pairs_gone}
use Rattle.bd_kept.specs.Gain.{HasNoGain, IsGain}

positive : (m n : ℕ) → 0 < m → 0 < n → 0 < m * n
positive zero n x y = absurd (omega arith)
positive (suc m) zero x y = absurd (omega arith)
positive (suc m) (suc n) x y = let e : suc m * suc n ≡ suc (n + m * suc n) = omega arith in omega (arith, e)

-- the kid with the id of the one at a place stands there
stands_there : (kids : List Node) (a : ℕ) (n : Node) → are_distinct (map id_of kids) ≡ true → slice_get kids a ≡ Some n → (q : ℕ) → stands_at kids (id_of n) q ≡ eqb q a
stands_there kids a n distinct at =
    let k = the_kid (id_of n) kids distinct (named_at kids a n at) in
    let here : eqb a k.at ≡ true = sym (k.alone a) ∙ ap (λ (o : Option Node). option_map_or (λ (kid : Node). eqb (id_of kid) (id_of n)) o false) at ∙ eq-eqb (id_of n) (id_of n) refl in
    λ q. k.alone q ∙ ap (eqb q) (sym (eqb-true a k.at here))

module _ (root : Node) (id : ℕ) (kids : List Node) (order : List (ℕ × ℕ)) (well : IsWellFormed root) (is : root ≡ Block id kids order) where
  pub found_root : find_in id root ≡ Some (Block id kids order)
  found_root = ap (find_in id) is ∙ find_in-Block id id kids order ∙ cond-true _ _ _ (eq-eqb id id refl)

  -- of two kids of the root the one is no longer before the other
  pub unordered_is : (a b : ℕ) (first second : Node) → slice_get kids a ≡ Some first → slice_get kids b ≡ Some second → unordered root id (id_of first) (id_of second) ≡ Block id kids (without_pair a b order)
  unordered_is a b first second at_a at_b =
      let distinct = kids_distinct root id id kids order well.distinct found_root in
      let pairs : unordered_pairs (id_of first) (id_of second) kids order ≡ without_pair a b order =
      filter_on (λ p. not (stands_at kids (id_of first) p.0 && stands_at kids (id_of second) p.1)) (λ p. not (eqb p.0 a && eqb p.1 b)) order
      (λ p. ap (λ z. not (z && stands_at kids (id_of second) p.1)) (stands_there kids a first distinct at_a p.0) ∙ ap (λ z. not (eqb p.0 a && z)) (stands_there kids b second distinct at_b p.1)) in
      sym (of_the_block id (unordered_block id (id_of first) (id_of second)) root id kids kids order is refl (eq-eqb id id refl))
      ∙ ap (λ (z : List (ℕ × ℕ)). Block id kids z) pairs

-- two single kids that are a gain are a candidate, and it qualifies
module _ (task : TaskView) (root : Node) (span : ℕ) (well : IsWellFormed root) (shallow : depth_of root ≤ 64) (le : 1 ≤ span) (id : ℕ) (kids : List Node) (order : List (ℕ × ℕ)) (is : root ≡ Block id kids order) (i j : ℕ) (g : IsGain task id kids order i j) where
  pub found : find_in id root ≡ Some (Block id kids order)
  found = found_root root id kids order well is

  abbrev pub the_two : Gain
  the_two = alone task root id kids order well found i j g.first g.second g.first_at g.second_at g.ordered g.free

  listed : In the_two (candidates task.actions root span)
  listed = alone_listed task root id kids order well found i j g.first g.second g.first_at g.second_at g.ordered g.free span le

  pub two_candidate : IsCandidate task.actions root span the_two
  two_candidate = from_list task.actions root span well the_two listed

  pub two_qualify : Qualifies task root the_two
  two_qualify =
      let new = unordered root id (id_of g.first) (id_of g.second) in
      let same : new ≡ Block id kids (without_pair i j order) = unordered_is root id kids order well is i j g.first g.second g.first_at g.second_at in
      let gone = pairs_gone task root id kids order well found i j g.first g.second g.first_at g.second_at g.ordered g.free in
      let deep : depth_of new ≡ depth_of root = unordered_depth root id (id_of g.first) (id_of g.second) well (can_unorder task root id kids order well found i j g.first g.second g.first_at g.second_at g.ordered g.free) in
      let some = positive (steps_of g.first) (steps_of g.second) g.first_steps g.second_steps in
      record {
        sound = subst (IsSound task) (sym same) g.sound;
        fewer = omega (arith, gone, some);
        shallow = omega (arith, deep, shallow);
      }

  pub two_tight : IsTight task root span → ⊥
  two_tight tight = all_rec (λ c. Qualifies task root c → ⊥) the_two (candidates task.actions root span) tight listed two_qualify

pub no_single : (task : TaskView) (root : Node) (span : ℕ) → IsWellFormed root → depth_of root ≤ 64 → 1 ≤ span → IsTight task root span → HasNoGain task root
no_single task root span well shallow le tight id kids order is i j g = two_tight task root span well shallow le id kids order is i j g tight
