-- A merge makes no tree deeper: new steps stand where a window's kids stood.
use Rattle.std.proofs.Common.{◌≡◌, ℕ, ◌+◌, ◌<◌, ◌≤◌, max, Bool, true, false, eqb, cond, List, [], ◌∷◌, ◌++◌, map, filter, Option, Some, None, refl, sym, ap, ◌∙◌, subst, arith}
use Rattle.std.specs.List.{enumerate_from}
use Rattle.std.specs.Option.{is_some}
use Rattle.std.proofs.lemmas.Bool.{and_parts, cond-true, cond-false}
use Rattle.bd_base.specs.Facts.{has}
use Rattle.bd_tree.specs.declared.node.Node.{Node, Block}
use Rattle.bd_tree.specs.Chain.{steps_from}
use Rattle.bd_tree.specs.Tree.{depth_of, greatest, ids_of, joined, find_in, first_some}
use Rattle.bd_tree.specs.WellFormed.{are_distinct}
use Rattle.bd_tree.proofs.NodeLemmas.{Each, by_node, depth_of-Step, depth_of-Block, ids_of-Block}
use Rattle.bd_tree.proofs.TreeLemmas.{find_in-Block, is_found}
use Rattle.bd_merge.specs.Merged.{merged, merged_block, merged_kids, merged_order, merged_places, is_front, is_back, fronts, backs}
use Rattle.bd_merge.proofs.MergeLemmas.{merged-Step, merged-Block}
use Rattle.bd_merge.specs.Stands.{AreKids, IsThere}
use Rattle.bd_merge.specs.declared.window.Window.{Window}
use Rattle.plan_core.proofs.MeasureLemmas.{distinct_parts, kids_same, some_same, is_there_at_all, stays, all_stay, each_stays}

pub has_depth : (n : Node) → 1 ≤ depth_of n
has_depth = by_node (λ n. 1 ≤ depth_of n) (λ id a. omega (arith, depth_of-Step id a)) (λ id kids order e. omega (arith, depth_of-Block id kids order))

-- the depth of the deepest
abbrev pub deepest : List Node → ℕ
deepest ns = greatest (map depth_of ns)

pub deepest-append : (xs ys : List Node) → deepest (xs ++ ys) ≡ max (deepest xs) (deepest ys)
deepest-append [] ys = omega arith
deepest-append (x ∷ xs) ys = omega (arith, deepest-append xs ys)

flat_steps : (m : ℕ) (list : List ℕ) → deepest (steps_from m list) ≤ 1
flat_steps m [] = omega arith
flat_steps m (a ∷ list) = omega (arith, depth_of-Step m a, flat_steps (m + 1) list)

abbrev nodes : List (ℕ × Node) → List Node
nodes ks = map (λ (k : ℕ × Node). k.1) ks

part_if : (b : Bool) (k : ℕ × Node) (ks : List (ℕ × Node)) (n : ℕ) → deepest (nodes ks) ≤ n → deepest (nodes (cond b (k ∷ ks) ks)) ≤ max (depth_of k.1) n
part_if true k ks n le = omega (arith, le)
part_if false k ks n le = omega (arith, le)

-- a part of the kids is no deeper than all
part_no_deeper : (t : ℕ × Node → Bool) (m : ℕ) (kids : List Node) → deepest (nodes (filter t (enumerate_from m kids))) ≤ deepest kids
part_no_deeper t m [] = omega arith
part_no_deeper t m (k ∷ ks) = part_if (t (m, k)) (m, k) (filter t (enumerate_from (m + 1) ks)) (deepest ks) (part_no_deeper t (m + 1) ks)

-- where kids are carried, there are kids
some_kid : (kids carried : List Node) → AreKids kids carried → 1 ≤ deepest kids
some_kid [] [] are = absurd (let e : 0 < 0 = are.some in omega (arith, e))
some_kid [] (c ∷ cs) are = absurd (elim (are.equal.0) [ ])
some_kid (k ∷ ks) carried are = omega (arith, has_depth k)

module _ (window : Window) (list : List ℕ) (next : ℕ) where
  abbrev goes : Node → Node
  goes n = merged n window list next

  kids_no_deeper : (order : List (ℕ × ℕ)) (kids : List Node) → 1 ≤ deepest kids → deepest (merged_kids window list next order (enumerate_from 0 kids)) ≤ deepest kids
  kids_no_deeper order kids one =
      let all = enumerate_from 0 kids in
      let fore = nodes (fronts window order all) in
      let aft = nodes (backs window order all) in
      let new = steps_from next list in
      let goal : deepest ((fore ++ new) ++ aft) ≤ deepest kids = omega (
        arith,
        one,
        deepest-append (fore ++ new) aft,
        deepest-append fore new,
        flat_steps next list,
        part_no_deeper (is_front window order all) 0 kids,
        part_no_deeper (is_back window order all) 0 kids,
      ) in
      goal

  module _ (kids0 : List Node) (order0 : List (ℕ × ℕ)) (are : AreKids kids0 window.kids) where
    abbrev Found0 : Option Node
    Found0 = Some (Block window.block kids0 order0)

    abbrev IsNoDeeper : Node → Type 0
    IsNoDeeper n = are_distinct (ids_of n) ≡ true → find_in window.block n ≡ Found0 → depth_of (goes n) ≤ depth_of n

    all_no_deeper : (ks : List Node) → Each IsNoDeeper ks → are_distinct (joined (map ids_of ks)) ≡ true → first_some (map (find_in window.block) ks) ≡ Found0 → deepest (map goes ks) ≤ deepest ks
    all_no_deeper [] e d f = absurd (is_there_at_all _ f)
    all_no_deeper (k ∷ ks) e d f =
        let p = distinct_parts (ids_of k) (joined (map ids_of ks)) d in
        at (find_in window.block k) refl p.0 p.1 p.2 f (all_no_deeper ks e.1)
      where
        at : (o : Option Node) → find_in window.block k ≡ o → are_distinct (ids_of k) ≡ true → are_distinct (joined (map ids_of ks)) ≡ true → ((q : ℕ) → has (ids_of k) q ≡ true → has (joined (map ids_of ks)) q ≡ false) →
            first_some (o ∷ map (find_in window.block) ks) ≡ Found0 →
            (are_distinct (joined (map ids_of ks)) ≡ true → first_some (map (find_in window.block) ks) ≡ Found0 → deepest (map goes ks) ≤ deepest ks) →
            max (depth_of (goes k)) (deepest (map goes ks)) ≤ max (depth_of k) (deepest ks)
        at None is dk dks apart f rest =
            omega (arith, ap depth_of (stays window list next k (sym (is_found window.block k) ∙ ap is_some is)), rest dks f)
        at (Some n) is dk dks apart f rest =
            omega (arith, e.0 dk (is ∙ f), ap deepest (all_stay window list next ks (each_stays window list next ks) (apart window.block (sym (is_found window.block k) ∙ ap is_some is))))

    block_no_deeper : (own : ℕ) (kids : List Node) (order : List (ℕ × ℕ)) → Each IsNoDeeper kids → IsNoDeeper (Block own kids order)
    block_no_deeper own kids order e d f =
        let dk = (and_parts _ _ (sym (ap are_distinct (ids_of-Block own kids order)) ∙ d)).1 in
        at (eqb own window.block) refl dk (sym (find_in-Block window.block own kids order) ∙ f)
      where
        at : (b : Bool) → eqb own window.block ≡ b → are_distinct (joined (map ids_of kids)) ≡ true → cond b (Some (Block own kids order)) (first_some (map (find_in window.block) kids)) ≡ Found0 →
            depth_of (goes (Block own kids order)) ≤ depth_of (Block own kids order)
        at true is dk g =
            let same : kids ≡ kids0 = kids_same own window.block kids kids0 order order0 (some_same _ _ g) in
            let new : goes (Block own kids order) ≡ merged_block window list next own kids order = merged-Block window list next own kids order ∙ cond-true _ _ _ is in
            omega (
              arith,
              ap depth_of new ∙ depth_of-Block own (merged_kids window list next order (enumerate_from 0 kids)) (merged_order order (merged_places window list order (enumerate_from 0 kids))),
              depth_of-Block own kids order,
              kids_no_deeper order kids (some_kid kids window.kids (subst (λ z. AreKids z window.kids) (sym same) are)),
            )
        at false is dk g =
            let new : goes (Block own kids order) ≡ Block own (map goes kids) order = merged-Block window list next own kids order ∙ cond-false _ _ _ is in
            omega (arith, ap depth_of new ∙ depth_of-Block own (map goes kids) order, depth_of-Block own kids order, all_no_deeper kids e dk g)

    no_deeper : (n : Node) → IsNoDeeper n
    no_deeper = by_node IsNoDeeper (λ own a d f. omega (arith, ap depth_of (merged-Step window list next own a))) block_no_deeper

  pub merged_depth : (root : Node) → are_distinct (ids_of root) ≡ true → IsThere root window → depth_of (merged root window list next) ≤ depth_of root
  merged_depth root d there = no_deeper there.kids there.order there.carried root d there.found
