-- Sums over kids that are parted, and how many positions and nodes there are.
use Rattle.std.proofs.Common.{◌≡◌, ℕ, ◌+◌, ◌<◌, ◌≤◌, ◌^◌, Bool, true, false, not, ◌&&◌, cond, List, [], ◌∷◌, ◌++◌, length, map, filter, drop, get_or, refl, sym, ap, ◌∙◌, length-append, append_assoc, arith}
use Rattle.std.specs.List.{enumerate_from, list_all}
use Rattle.std.proofs.lemmas.Bool.{and_parts}
use Rattle.std.proofs.lemmas.List.{length-map, append-nil, drop_all, drop_more}
use Rattle.std.proofs.lemmas.List.FromFn.{length-enumerate_from}
use Rattle.bd_tree.specs.declared.node.Node.{Node, Block}
use Rattle.bd_tree.specs.Convex.{is_member}
use Rattle.bd_tree.specs.Tree.{id_of, nodes_of, total}
use Rattle.bd_tree.specs.WellFormed.{has_orders}
use Rattle.bd_tree.proofs.NodeLemmas.{by_node, nodes_of-Step, nodes_of-Block}
use Rattle.bd_merge.specs.Merged.{goes_first, is_front, is_back, fronts, backs, merged_places}
use Rattle.bd_merge.specs.declared.merging.Place.{Place}
use Rattle.bd_merge.specs.declared.merging.Place.TheVariants.{Front, New, Back}
use Rattle.bd_merge.specs.declared.window.Window.{Window}

not_both : (b c : Bool) → (b && c) ≡ true → (b && not c) ≡ false
not_both true true e = refl
not_both true false e = absurd (cc)
not_both false c e = refl

-- no kid is both in front and behind
pub apart : (window : Window) (order : List (ℕ × ℕ)) (kids : List (ℕ × Node)) (k : ℕ × Node) → is_front window order kids k ≡ true → is_back window order kids k ≡ false
apart window order kids k e = not_both (not (is_member (map id_of window.kids) k)) (goes_first window.lean order (map id_of window.kids) kids k.0) e

module _ (g : ℕ × Node → ℕ) where
  split_step : (b c : Bool) (k : ℕ × Node) (ys zs : List (ℕ × Node)) (n : ℕ) → (b ≡ true → c ≡ false) → total (map g ys) + total (map g zs) ≤ n →
      total (map g (cond b (k ∷ ys) ys)) + total (map g (cond c (k ∷ zs) zs)) ≤ g k + n
  split_step true true k ys zs n h le = absurd (let e : true ≡ false = h refl in cc)
  split_step true false k ys zs n h le = omega arith
  split_step false true k ys zs n h le = omega arith
  split_step false false k ys zs n h le = omega arith

  -- two parts of the kids have no more than all
  pub sums_split : (t u : ℕ × Node → Bool) → ((k : ℕ × Node) → t k ≡ true → u k ≡ false) → (ks : List (ℕ × Node)) → total (map g (filter t ks)) + total (map g (filter u ks)) ≤ total (map g ks)
  sums_split t u h [] = omega arith
  sums_split t u h (k ∷ ks) = split_step (t k) (u k) k (filter t ks) (filter u ks) (total (map g ks)) (h k) (sums_split t u h ks)

ones : {X : Type 0} (xs : List X) → total (map (λ (x : X). 1) xs) ≡ length xs
ones [] = refl
ones (x ∷ xs) = omega (arith, ones xs)

-- how many positions the new listing has
pub few_places : (window : Window) (list : List ℕ) (order : List (ℕ × ℕ)) (kids : List Node) → length (merged_places window list order (enumerate_from 0 kids)) ≤ length kids + length list
few_places window list order kids =
    let all = enumerate_from 0 kids in
    let f = fronts window order all in
    let b = backs window order all in
    let fp : List Place = map (λ (k : ℕ × Node). Front k.0) f in
    let np : List Place = map (λ (a : ℕ). New) list in
    let bp : List Place = map (λ (k : ℕ × Node). Back k.0) b in
    let split : total (map (λ (k : ℕ × Node). 1) f) + total (map (λ (k : ℕ × Node). 1) b) ≤ total (map (λ (k : ℕ × Node). 1) all) = sums_split (λ (k : ℕ × Node). 1) (is_front window order all) (is_back window order all) (apart window order all) all in
    let one : length ((fp ++ np) ++ bp) ≡ length (fp ++ np) + length bp = length-append (fp ++ np) bp in
    let two : length (fp ++ np) ≡ length fp + length np = length-append fp np in
    let three : length fp ≡ length f = length-map f (λ (k : ℕ × Node). Front k.0) in
    let four : length np ≡ length list = length-map list (λ (a : ℕ). New) in
    let five : length bp ≡ length b = length-map b (λ (k : ℕ × Node). Back k.0) in
    let six : length all ≡ length kids = length-enumerate_from 0 kids in
    let goal : length ((fp ++ np) ++ bp) ≤ length kids + length list = omega (arith, split, ones f, ones b, ones all, one, two, three, four, five, six) in
    goal

abbrev HasNodes : Node → Type 0
HasNodes n = 0 < nodes_of n

has_nodes : (n : Node) → 0 < nodes_of n
has_nodes = by_node HasNodes (λ id a. omega (arith, nodes_of-Step id a)) (λ id kids order e. omega (arith, nodes_of-Block id kids order))

few_kids : (kids : List Node) → length kids ≤ total (map nodes_of kids)
few_kids [] = omega arith
few_kids (k ∷ ks) = omega (arith, has_nodes k, few_kids ks)

-- a block has more nodes than kids
module _ (n : Node) (id : ℕ) (kids ks : List Node) (order : List (ℕ × ℕ)) (is : n ≡ Block id kids order) (same : ks ≡ kids) (m : ℕ) (few : nodes_of n + m < 2 ^ 32) where
  nodes_are : nodes_of n ≡ 1 + total (map nodes_of kids)
  nodes_are = ap nodes_of is ∙ nodes_of-Block id kids order

  pub block_few : length ks + m < 2 ^ 32
  block_few = omega (arith, few, nodes_are, few_kids kids, ap (λ (z : List Node). length z) same)

  pub block_nodes : total (map nodes_of ks) + m < 2 ^ 32
  block_nodes = omega (arith, few, nodes_are, ap (λ (z : List Node). total (map nodes_of z)) same)

-- one kid more of a walk through the kids
module _ (kids : List Node) (i : ℕ) (k : Node) (lt : i < length kids) (is : k ≡ get_or kids i k) where
  first_left : drop i kids ≡ k ∷ drop (i + 1) kids
  first_left = drop_more kids i k lt ∙ ap (λ z. z ∷ drop (i + 1) kids) (sym is)

  pub one_more_made : (f : Node → Node) (copies all : List Node) (made : Node) → copies ++ map f (drop i kids) ≡ all → made ≡ f k → (copies ++ made ∷ []) ++ map f (drop (i + 1) kids) ≡ all
  one_more_made f copies all made so_far new =
      append_assoc copies (made ∷ []) (map f (drop (i + 1) kids))
      ∙ ap (λ z. copies ++ z ∷ map f (drop (i + 1) kids)) new
      ∙ ap (λ (z : List Node). copies ++ map f z) (sym first_left)
      ∙ so_far

  pub one_less_left : (m : ℕ) → total (map nodes_of (drop i kids)) + m < 2 ^ 32 → total (map nodes_of (drop (i + 1) kids)) + m < 2 ^ 32
  one_less_left m few = omega (arith, few, ap (λ (z : List Node). total (map nodes_of z)) first_left)

  pub rest_ordered : list_all (λ b. b) (map has_orders (drop i kids)) ≡ true → list_all (λ b. b) (map has_orders (drop (i + 1) kids)) ≡ true
  rest_ordered all =
      (and_parts (has_orders k) (list_all (λ b. b) (map has_orders (drop (i + 1) kids))) (sym (ap (λ (z : List Node). list_all (λ b. b) (map has_orders z)) first_left) ∙ all)).1

pub all_made : (kids copies all : List Node) (f : Node → Node) (i : ℕ) → length kids ≤ i → copies ++ map f (drop i kids) ≡ all → copies ≡ all
all_made kids copies all f i le so_far = sym (append-nil copies) ∙ ap (λ (z : List Node). copies ++ map f z) (sym (drop_all i kids le)) ∙ so_far
