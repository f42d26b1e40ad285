-- What `remade` gives at a step and at a block, and how a tree changes whose one block is made anew.
use Rattle.std.proofs.Common.{◌≡◌, ℕ, ◌+◌, ◌≤◌, Bool, true, false, eqb, cond, List, [], ◌∷◌, ◌++◌, map, Option, Some, None, refl, sym, ap, ◌∙◌, subst, inl, inr, arith}
use Rattle.std.specs.Option.{is_some}
use Rattle.std.proofs.lemmas.Bool.{cond-true, cond-false, eq-eqb, cases_eq, ne_eqb}
use Rattle.bd_base.specs.Facts.{has}
use Rattle.bd_tree.specs.declared.node.Node.{Node, Step, Block}
use Rattle.bd_tree.specs.declared.node.Node.TheOpen.{Node-F}
use Rattle.bd_tree.specs.declared.node.Node.TheViews.{out-Node, outs-Step, outs-Block, rolls-Step, rolls-Block}
use Rattle.bd_tree.specs.declared.node.Node.TheFolds.{para-roll-Node}
use Rattle.bd_tree.specs.Tree.{ids_of, total, find_in, first_some}
use Rattle.bd_tree.proofs.NodeLemmas.{Each, by_node}
use Rattle.bd_tree.proofs.TreeLemmas.{find_in-Step, find_in-Block, is_found}
use Rattle.bd_shape.proofs.TimesLemmas.{one_if, times_in, times_in-Block, times_none, times_some}
use Rattle.bd_shape.specs.Remade.{remake_step, remade}

module _ (block : ℕ) (make : List Node → List (ℕ × ℕ) → Node) where
  abbrev pub remade_here : Node → Node
  remade_here n = remade n block make

  pub remade-Step : (own a : ℕ) → remade_here (Step own a) ≡ Step own a
  remade-Step own a = ap remade_here (sym (rolls-Step own a)) ∙ para-roll-Node Node (remake_step block make) (Node-F.Step own a)

  firsts : (kids : List Node) → map (λ (k : Node × Node). k.0) (map (λ (k : Node). (k, remade_here k)) kids) ≡ kids
  firsts [] = refl
  firsts (k ∷ ks) = ap (λ z. k ∷ z) (firsts ks)

  seconds : (kids : List Node) → map (λ (k : Node × Node). k.1) (map (λ (k : Node). (k, remade_here k)) kids) ≡ map remade_here kids
  seconds [] = refl
  seconds (k ∷ ks) = ap (λ z. remade_here k ∷ z) (seconds ks)

  pub remade-Block : (own : ℕ) (kids : List Node) (order : List (ℕ × ℕ)) → remade_here (Block own kids order) ≡ cond (eqb own block) (make kids order) (Block own (map remade_here kids) order)
  remade-Block own kids order =
      ap remade_here (sym (rolls-Block own kids order))
      ∙ para-roll-Node Node (remake_step block make) (Node-F.Block own kids order)
      ∙ ap (λ (z : List Node). cond (eqb own block) (make z order) (Block own (map (λ (k : Node × Node). k.1) (map (λ (k : Node). (k, remade_here k)) kids)) order)) (firsts kids)
      ∙ ap (λ (z : List Node). cond (eqb own block) (make kids order) (Block own z order)) (seconds kids)

  -- by what the node is
  pub of_step : (n : Node) (own a : ℕ) → n ≡ Step own a → Step own a ≡ remade_here n
  of_step n own a is = sym (ap remade_here is ∙ remade-Step own a)

  module _ (n : Node) (own : ℕ) (kids ks : List Node) (order : List (ℕ × ℕ)) (is : n ≡ Block own kids order) (same : ks ≡ kids) where
    pub of_the_block : eqb own block ≡ true → make ks order ≡ remade_here n
    of_the_block e = ap (λ (z : List Node). make z order) same ∙ sym (ap remade_here is ∙ remade-Block own kids order ∙ cond-true _ _ _ e)

    pub of_other_block : eqb own block ≡ false → (copies : List Node) (pairs : List (ℕ × ℕ)) → copies ≡ map remade_here ks → pairs ≡ order → Block own copies pairs ≡ remade_here n
    of_other_block e copies pairs made kept =
        ap (λ (z : List Node). Block own z pairs) (made ∙ ap (map remade_here) same)
        ∙ ap (λ (z : List (ℕ × ℕ)). Block own (map remade_here kids) z) kept
        ∙ sym (ap remade_here is ∙ remade-Block own kids order ∙ cond-false _ _ _ e)

  -- how often the block is in a node
  abbrev pub at : Node → ℕ
  at n = times_in block n

  no_if : (b : Bool) (n : ℕ) → one_if b + n ≡ 0 → (b ≡ false) × (n ≡ 0)
  no_if true n e = absurd (omega arith)
  no_if false n e = (refl, omega arith)

  abbrev IsUntouched : Node → Type 0
  IsUntouched n = at n ≡ 0 → remade_here n ≡ n

  kids_untouched : (kids : List Node) → Each IsUntouched kids → total (map at kids) ≡ 0 → map remade_here kids ≡ kids
  kids_untouched [] e z = refl
  kids_untouched (k ∷ ks) e z = ap (λ (x : Node). x ∷ map remade_here ks) (e.0 (omega arith)) ∙ ap (λ (x : List Node). k ∷ x) (kids_untouched ks e.1 (omega arith))

  block_untouched : (own : ℕ) (kids : List Node) (order : List (ℕ × ℕ)) → Each IsUntouched kids → IsUntouched (Block own kids order)
  block_untouched own kids order e z =
      let parts = no_if (eqb own block) (total (map at kids)) (sym (times_in-Block block own kids order) ∙ z) in
      remade-Block own kids order ∙ cond-false _ _ _ parts.0 ∙ ap (λ (x : List Node). Block own x order) (kids_untouched kids e parts.1)

  -- a node in which the block isn't stays as it is
  pub untouched : (n : Node) → IsUntouched n
  untouched = by_node IsUntouched (λ own a z. remade-Step own a) block_untouched

  all_untouched : (kids : List Node) → Each IsUntouched kids
  all_untouched [] = tt
  all_untouched (k ∷ ks) = (untouched k, all_untouched ks)

  -- a relation of the old node and the new one that holds at the block, and holds of a node where it holds of one kid
  module _ (P : Node → Node → Type 0) (kids : List Node) (order : List (ℕ × ℕ)) (here : P (Block block kids order) (make kids order))
      (around : (own : ℕ) (before : List Node) (k new : Node) (after : List Node) (o : List (ℕ × ℕ)) → eqb own block ≡ false → first_some (map (find_in block) before) ≡ None → P k new → P (Block own (before ++ k ∷ after) o) (Block own (before ++ new ∷ after) o)) where
    abbrev the_block : Node
    the_block = Block block kids order

    record Split (ks : List Node) : Type 0 where
      before : List Node
      kid : Node
      after : List Node
      old : ks ≡ before ++ kid ∷ after
      new : map remade_here ks ≡ before ++ remade_here kid ∷ after
      none : first_some (map (find_in block) before) ≡ None
      changed : P kid (remade_here kid)

    abbrev Changes : Node → Type 0
    Changes n = at n ≤ 1 → find_in block n ≡ Some the_block → P n (remade_here n)

    changes_step : (own a : ℕ) → Changes (Step own a)
    changes_step own a once e = elim (cases_eq own block) [
      | inl same ↦
          let is : Some (Step own a) ≡ Some the_block = sym (find_in-Step block own a ∙ cond-true _ _ _ (eq-eqb own block same)) ∙ e in
          let node : Step own a ≡ the_block = cc in
          let layer : Node-F.Step own a ≡ Node-F.Block block kids order = sym (outs-Step own a) ∙ ap out-Node node ∙ outs-Block block kids order in
          absurd (cc)
      | inr ne ↦
          let is : None ≡ Some the_block = sym (find_in-Step block own a ∙ cond-false _ _ _ (ne_eqb own block ne)) ∙ e in
          absurd (cc)
    ]

    -- a kid in which the block is, or isn't, and the kids behind it
    split_first : (k : Node) (ks : List Node) (o : Option Node) → find_in block k ≡ o → Changes k → (total (map at ks) ≤ 1 → first_some (map (find_in block) ks) ≡ Some the_block → Split ks) →
        at k + total (map at ks) ≤ 1 → first_some (o ∷ map (find_in block) ks) ≡ Some the_block → Split (k ∷ ks)
    split_first k ks None o here_k later once e =
        let none : has (ids_of k) block ≡ false = sym (is_found block k) ∙ ap is_some o in
        let alike : remade_here k ≡ k = untouched k (times_none block (ids_of k) none) in
        let rest : Split ks = later (omega arith) e in
        record {
          before = k ∷ rest.before;
          kid = rest.kid;
          after = rest.after;
          old = ap (λ (z : List Node). k ∷ z) rest.old;
          new = ap (λ (z : Node). z ∷ map remade_here ks) alike ∙ ap (λ (z : List Node). k ∷ z) rest.new;
          none = ap (λ (z : Option Node). first_some (z ∷ map (find_in block) rest.before)) o ∙ rest.none;
          changed = rest.changed;
        }
    split_first k ks (Some n) o here_k later once e =
        let some : has (ids_of k) block ≡ true = sym (is_found block k) ∙ ap is_some o in
        let one : 1 ≤ at k = times_some block (ids_of k) some in
        record {
          before = [];
          kid = k;
          after = ks;
          old = refl;
          new = ap (λ (z : List Node). remade_here k ∷ z) (kids_untouched ks (all_untouched ks) (omega arith));
          none = refl;
          changed = here_k (omega arith) (o ∙ e);
        }

    split : (ks : List Node) → Each Changes ks → total (map at ks) ≤ 1 → first_some (map (find_in block) ks) ≡ Some the_block → Split ks
    split [] e once is = absurd (cc)
    split (k ∷ ks) e once is = split_first k ks (find_in block k) refl e.0 (split ks e.1) once is

    changes_block : (own : ℕ) (ks : List Node) (o : List (ℕ × ℕ)) → Each Changes ks → Changes (Block own ks o)
    changes_block own ks o h once e = elim (cases_eq own block) [
      | inl same ↦
          let is : Some (Block own ks o) ≡ Some the_block = sym (find_in-Block block own ks o ∙ cond-true _ _ _ (eq-eqb own block same)) ∙ e in
          let node : Block own ks o ≡ the_block = cc in
          let new : remade_here the_block ≡ make kids order = remade-Block block kids order ∙ cond-true _ _ _ (eq-eqb block block refl) in
          subst (λ (z : Node). P z (remade_here z)) (sym node) (subst (λ (z : Node). P the_block z) (sym new) here)
      | inr ne ↦
          let f : eqb own block ≡ false = ne_eqb own block ne in
          let few : at (Block own ks o) ≡ total (map at ks) = omega (arith, times_in-Block block own ks o, ap one_if f) in
          let parts : Split ks = split ks h (omega (arith, few, once)) (sym (find_in-Block block own ks o ∙ cond-false _ _ _ f) ∙ e) in
          let new : remade_here (Block own ks o) ≡ Block own (parts.before ++ remade_here parts.kid ∷ parts.after) o = remade-Block own ks o ∙ cond-false _ _ _ f ∙ ap (λ (z : List Node). Block own z o) parts.new in
          subst (λ (z : Node). P (Block own ks o) z) (sym new)
          (subst (λ (z : List Node). P (Block own z o) (Block own (parts.before ++ remade_here parts.kid ∷ parts.after) o)) (sym parts.old)
          (around own parts.before parts.kid (remade_here parts.kid) parts.after o f parts.none parts.changed))
    ]

    pub changes : (n : Node) → at n ≤ 1 → find_in block n ≡ Some the_block → P n (remade_here n)
    changes = by_node Changes changes_step changes_block
