-- The kids of a block that is there.
use Rattle.std.proofs.Common.{◌≡◌, ℕ, true, false, eqb, List, [], ◌∷◌, ◌++◌, map, Option, Some, None, refl, sym, ap, ◌∙◌}
use Rattle.std.specs.Option.{option_map_or}
use Rattle.std.proofs.lemmas.Bool.{cond-true, cond-false, eq-eqb}
use Rattle.bd_base.specs.Facts.{has}
use Rattle.bd_tree.specs.declared.node.Node.{Node, Step, Block}
use Rattle.bd_tree.specs.declared.node.Node.TheViews.{outs-Step, outs-Block}
use Rattle.bd_tree.specs.Tree.{id_of, find_in, first_some}
use Rattle.bd_tree.proofs.NodeLemmas.{by_node, id_of-Block}
use Rattle.bd_tree.proofs.TreeLemmas.{found_by_id, find_in-Block}
use Rattle.bd_shape.specs.Kids.{kids_in_layer, kid_ids, kids_at}

pub kid_ids-Step : (id a : ℕ) → kid_ids (Step id a) ≡ []
kid_ids-Step id a = ap kids_in_layer (outs-Step id a)

pub kid_ids-Block : (id : ℕ) (kids : List Node) (order : List (ℕ × ℕ)) → kid_ids (Block id kids order) ≡ map id_of kids
kid_ids-Block id kids order = ap kids_in_layer (outs-Block id kids order)

-- a block of kids and an order
pub record IsBlock (node : Node) : Type 0 where
  pub own : ℕ
  pub kids : List Node
  pub order : List (ℕ × ℕ)
  pub is : node ≡ Block own kids order

module _ (q : ℕ) where
  abbrev IsBlockWith : Node → Type 0
  IsBlockWith n = has (kid_ids n) q ≡ true → IsBlock n

  no_step : (id a : ℕ) → IsBlockWith (Step id a)
  no_step id a h = absurd (let e : false ≡ true = sym (ap (λ (z : List ℕ). has z q) (kid_ids-Step id a)) ∙ h in cc)

  -- a node with a kid is a block
  pub has_kid : (n : Node) → IsBlockWith n
  has_kid = by_node IsBlockWith no_step (λ id kids order e h. record { own = id; kids = kids; order = order; is = refl })

-- the block is there
pub record IsThere (block : ℕ) (root : Node) : Type 0 where
  pub kids : List Node
  pub order : List (ℕ × ℕ)
  pub found : find_in block root ≡ Some (Block block kids order)

module _ (block : ℕ) (root : Node) (q : ℕ) where
  there_if : (o : Option Node) → find_in block root ≡ o → has (option_map_or kid_ids o []) q ≡ true → IsThere block root
  there_if None e h = absurd (cc)
  there_if (Some n) e h =
      let is_block : IsBlock n = has_kid q n h in
      let own : is_block.own ≡ block = sym (id_of-Block is_block.own is_block.kids is_block.order) ∙ ap id_of (sym is_block.is) ∙ found_by_id block root n e in
      record {
        kids = is_block.kids;
        order = is_block.order;
        found = e ∙ ap Some is_block.is ∙ ap (λ z. Some (Block z is_block.kids is_block.order)) own;
      }

  -- a block with a kid is there
  pub is_there : has (kids_at block root) q ≡ true → IsThere block root
  is_there h = there_if (find_in block root) refl h

-- the kids of a block that is found
pub kids_found : (block : ℕ) (root : Node) (own : ℕ) (kids : List Node) (order : List (ℕ × ℕ)) → find_in block root ≡ Some (Block own kids order) → kids_at block root ≡ map id_of kids
kids_found block root own kids order found = ap (λ (o : Option Node). option_map_or kid_ids o []) found ∙ kid_ids-Block own kids order

pub first_some-append : (xs ys : List (Option Node)) → first_some xs ≡ None → first_some (xs ++ ys) ≡ first_some ys
first_some-append [] ys e = refl
first_some-append (None ∷ xs) ys e = first_some-append xs ys e
first_some-append (Some n ∷ xs) ys e = absurd (cc)

pub map-append : {X : Type 0} {Y : Type 0} (f : X → Y) (xs ys : List X) → map f (xs ++ ys) ≡ map f xs ++ map f ys
map-append f [] ys = refl
map-append f (x ∷ xs) ys = ap (λ z. f x ∷ z) (map-append f xs ys)

-- the block that is found in the new tree
module _ (block : ℕ) (kids : List Node) (order : List (ℕ × ℕ)) where
  abbrev pub Finds : Node → Node → Type 0
  Finds old new = find_in block new ≡ Some (Block block kids order)

  pub finds_here : (old : Node) → Finds old (Block block kids order)
  finds_here old = find_in-Block block block kids order ∙ cond-true _ _ _ (eq-eqb block block refl)

  pub finds_around : (own : ℕ) (before : List Node) (k new : Node) (after : List Node) (o : List (ℕ × ℕ)) → eqb own block ≡ false → first_some (map (find_in block) before) ≡ None → Finds k new →
      Finds (Block own (before ++ k ∷ after) o) (Block own (before ++ new ∷ after) o)
  finds_around own before k new after o ne none e =
      find_in-Block block own (before ++ new ∷ after) o
      ∙ cond-false _ _ _ ne
      ∙ ap first_some (map-append (find_in block) before (new ∷ after))
      ∙ first_some-append (map (find_in block) before) (map (find_in block) (new ∷ after)) none
      ∙ ap (λ (z : Option Node). first_some (z ∷ map (find_in block) after)) e
