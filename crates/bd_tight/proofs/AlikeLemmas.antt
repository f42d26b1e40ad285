-- Trees that add up alike have actions in range together, and so has what is found in a tree.
use Rattle.std.proofs.Common.{◌≡◌, ℕ, Bool, true, false, nat_lt, cond, eqb, List, [], ◌∷◌, map, Option, Some, None, sym, ap, ◌∙◌, refl, subst, inl, inr, arith}
use Rattle.std.specs.List.{list_all}
use Rattle.std.proofs.lemmas.Bool.{and_parts, and_from, both_ways, cases_Bool, cond-true, cond-false}
use Rattle.bd_tree.specs.declared.node.Node.{Node, Step, Block}
use Rattle.bd_tree.specs.declared.node.Node.TheOpen.{Node-F}
use Rattle.bd_tree.specs.declared.node.Node.TheViews.{rolls-Step, rolls-Block}
use Rattle.bd_tree.specs.declared.node.Node.TheFolds.{fold-Node, fold-roll-Node}
use Rattle.bd_tree.specs.Tree.{find_in, first_some, total}
use Rattle.bd_tree.proofs.NodeLemmas.{Each, by_node}
use Rattle.bd_tree.proofs.TreeLemmas.{find_in-Step, find_in-Block}
use Rattle.bd_links.specs.Sound.{are_below, below_step}
use Rattle.bd_shape.specs.Measures.{AddUpAlike}

module _ (n : ℕ) where
  below-Step : (id a : ℕ) → are_below n (Step id a) ≡ nat_lt a n
  below-Step id a = ap (are_below n) (sym (rolls-Step id a)) ∙ fold-roll-Node Bool (below_step n) (Node-F.Step id a)

  pub below-Block : (id : ℕ) (kids : List Node) (order : List (ℕ × ℕ)) → are_below n (Block id kids order) ≡ list_all (λ b. b) (map (are_below n) kids)
  below-Block id kids order = ap (are_below n) (sym (rolls-Block id kids order)) ∙ fold-roll-Node Bool (below_step n) (Node-F.Block id kids order)

  -- how many steps have an action that is out of range
  abbrev out_step : Node-F ℕ → ℕ
  out_step (Node-F.Step id action) = cond (nat_lt action n) 0 1
  out_step (Node-F.Block id kids order) = total kids

  abbrev out_of : Node → ℕ
  out_of = fold-Node ℕ out_step

  out-Step : (id a : ℕ) → out_of (Step id a) ≡ cond (nat_lt a n) 0 1
  out-Step id a = ap out_of (sym (rolls-Step id a)) ∙ fold-roll-Node ℕ out_step (Node-F.Step id a)

  out-Block : (id : ℕ) (kids : List Node) (order : List (ℕ × ℕ)) → out_of (Block id kids order) ≡ total (map out_of kids)
  out-Block id kids order = ap out_of (sym (rolls-Block id kids order)) ∙ fold-roll-Node ℕ out_step (Node-F.Block id kids order)

  -- none is exactly where all are in range
  abbrev IsCounted : Node → Type 0
  IsCounted m = (are_below n m ≡ true → out_of m ≡ 0) × (out_of m ≡ 0 → are_below n m ≡ true)

  step_counted : (id a : ℕ) → IsCounted (Step id a)
  step_counted id a = at (nat_lt a n) (below-Step id a) (out-Step id a)
    where
      at : (b : Bool) → are_below n (Step id a) ≡ b → out_of (Step id a) ≡ cond b 0 1 → IsCounted (Step id a)
      at true below out = ((λ e. out), (λ e. below))
      at false below out = ((λ e. absurd (both_ways _ below e)), (λ e. absurd (omega (arith, out, e))))

  kids_counted : (kids : List Node) → Each IsCounted kids → (list_all (λ b. b) (map (are_below n) kids) ≡ true → total (map out_of kids) ≡ 0) × (total (map out_of kids) ≡ 0 → list_all (λ b. b) (map (are_below n) kids) ≡ true)
  kids_counted [] e = ((λ h. refl), (λ h. refl))
  kids_counted (k ∷ ks) e =
      let rest = kids_counted ks e.1 in (
        (λ h. let p = and_parts (are_below n k) _ h in omega (arith, e.0.0 p.0, rest.0 p.1)),
        (λ h. and_from _ _ (e.0.1 (omega (arith, h))) (rest.1 (omega (arith, h)))),
      )

  all_counted : (m : Node) → IsCounted m
  all_counted = by_node IsCounted step_counted
      (λ id kids order e. let rest = kids_counted kids e in (
        (λ h. out-Block id kids order ∙ rest.0 (sym (below-Block id kids order) ∙ h)),
        (λ h. below-Block id kids order ∙ rest.1 (sym (out-Block id kids order) ∙ h)),
      ))

  pub below_alike : (old new : Node) → AddUpAlike old new → are_below n old ≡ true → are_below n new ≡ true
  below_alike old new alike h = (all_counted new).1 (alike out_of out-Block ∙ (all_counted old).0 h)

  kids_below_found : (id : ℕ) (m : Node) (kids : List Node) → Each (λ r. find_in id r ≡ Some m → are_below n r ≡ true → are_below n m ≡ true) kids → first_some (map (find_in id) kids) ≡ Some m → list_all (λ b. b) (map (are_below n) kids) ≡ true → are_below n m ≡ true
  kids_below_found id m [] e f h = absurd (cc)
  kids_below_found id m (k ∷ ks) e f h =
      let p = and_parts (are_below n k) (list_all (λ b. b) (map (are_below n) ks)) h in
      one (find_in id k) refl f (λ g. kids_below_found id m ks e.1 g p.1) p.0
    where
      one : (o : Option Node) → find_in id k ≡ o → first_some (o ∷ map (find_in id) ks) ≡ Some m → (first_some (map (find_in id) ks) ≡ Some m → are_below n m ≡ true) → are_below n k ≡ true → are_below n m ≡ true
      one None is g rest b = rest g
      one (Some x) is g rest b = e.0 (is ∙ g) b

  -- so are those of a node that is found in a tree
  pub below_found : (id : ℕ) (m root : Node) → find_in id root ≡ Some m → are_below n root ≡ true → are_below n m ≡ true
  below_found id m = by_node (λ r. find_in id r ≡ Some m → are_below n r ≡ true → are_below n m ≡ true)
      (λ own a f h. elim (cases_Bool (eqb own id)) [
        | inl hit ↦
            let same : Some (Step own a) ≡ Some m = sym (find_in-Step id own a ∙ cond-true _ _ _ hit) ∙ f in
            let one : Step own a ≡ m = cc in
            subst (λ z. are_below n z ≡ true) one h
        | inr miss ↦
            let none : None ≡ Some m = sym (find_in-Step id own a ∙ cond-false _ _ _ miss) ∙ f in
            absurd (cc)
      ])
      (λ own kids order e f h. elim (cases_Bool (eqb own id)) [
        | inl hit ↦
            let same : Some (Block own kids order) ≡ Some m = sym (find_in-Block id own kids order ∙ cond-true _ _ _ hit) ∙ f in
            let one : Block own kids order ≡ m = cc in
            subst (λ z. are_below n z ≡ true) one h
        | inr miss ↦ kids_below_found id m kids e (sym (find_in-Block id own kids order ∙ cond-false _ _ _ miss) ∙ f) (sym (below-Block own kids order) ∙ h)
      ])
