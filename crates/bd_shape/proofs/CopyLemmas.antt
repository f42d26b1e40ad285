-- Kids that are remade one by one.
use Rattle.std.proofs.Common.{◌≡◌, ℕ, ◌+◌, ◌<◌, ◌≤◌, List, [], ◌∷◌, ◌++◌, length, map, drop, get_or, sym, ap, ◌∙◌, append_assoc}
use Rattle.std.proofs.lemmas.List.{append-nil, drop_all, drop_more}
use Rattle.bd_tree.specs.declared.node.Node.{Node}

-- one kid more of a walk through the kids
module _ (kids : List Node) (i : ℕ) (k : Node) (lt : i < length kids) (is : k ≡ get_or kids i k) where
  first_left : drop i kids ≡ k ∷ drop (i + 1) kids
  first_left = drop_more kids i k lt ∙ ap (λ z. z ∷ drop (i + 1) kids) (sym is)

  pub one_more_made : (f : Node → Node) (copies all : List Node) (made : Node) → copies ++ map f (drop i kids) ≡ all → made ≡ f k → (copies ++ made ∷ []) ++ map f (drop (i + 1) kids) ≡ all
  one_more_made f copies all made so_far new =
      append_assoc copies (made ∷ []) (map f (drop (i + 1) kids))
      ∙ ap (λ z. copies ++ z ∷ map f (drop (i + 1) kids)) new
      ∙ ap (λ (z : List Node). copies ++ map f z) (sym first_left)
      ∙ so_far

pub all_made : (kids copies all : List Node) (f : Node → Node) (i : ℕ) → length kids ≤ i → copies ++ map f (drop i kids) ≡ all → copies ≡ all
all_made kids copies all f i le so_far = sym (append-nil copies) ∙ ap (λ (z : List Node). copies ++ map f z) (sym (drop_all i kids le)) ∙ so_far
