-- What `find_in` gives at a step and at a block, and where it gives none.
use Rattle.std.proofs.Common.{◌≡◌, ℕ, Bool, true, false, ◌||◌, eqb, cond, List, [], ◌∷◌, ◌++◌, map, Option, Some, None, Bor, inl, inr, refl, sym, ap, ◌∙◌}
use Rattle.std.proofs.Math.Bool.{or_assoc}
use Rattle.std.specs.Option.{is_some, option_copied}
use Rattle.bd_base.specs.Facts.{has}
use Rattle.bd_tree.proofs.NodeLemmas.{Each, by_node, id_of-Step, id_of-Block, ids_of-Step, ids_of-Block}
use Rattle.std.proofs.lemmas.Bool.{cond-true, cond-false, cases_eq, eq-eqb, ne_eqb}
use Rattle.bd_tree.specs.declared.node.Node.{Node, Step, Block}
use Rattle.bd_tree.specs.declared.node.Node.TheOpen.{Node-F}
use Rattle.bd_tree.specs.declared.node.Node.TheViews.{rolls-Step, rolls-Block}
use Rattle.bd_tree.specs.declared.node.Node.TheFolds.{para-roll-Node}
use Rattle.bd_tree.specs.Tree.{first_some, find_step, find_in, id_of, ids_of, joined}

module _ (id : ℕ) where
  pub find_in-Step : (own a : ℕ) → find_in id (Step own a) ≡ cond (eqb own id) (Some (Step own a)) None
  find_in-Step own a = ap (find_in id) (sym (rolls-Step own a)) ∙ para-roll-Node (Option Node) (find_step id) (Node-F.Step own a)

  firsts : (kids : List Node) → map (λ (k : Node × Option Node). k.0) (map (λ (k : Node). (k, find_in id k)) kids) ≡ kids
  firsts [] = refl
  firsts (k ∷ ks) = ap (λ z. k ∷ z) (firsts ks)

  seconds : (kids : List Node) → map (λ (k : Node × Option Node). k.1) (map (λ (k : Node). (k, find_in id k)) kids) ≡ map (find_in id) kids
  seconds [] = refl
  seconds (k ∷ ks) = ap (λ z. find_in id k ∷ z) (seconds ks)

  pub find_in-Block : (own : ℕ) (kids : List Node) (order : List (ℕ × ℕ)) → find_in id (Block own kids order) ≡ cond (eqb own id) (Some (Block own kids order)) (first_some (map (find_in id) kids))
  find_in-Block own kids order =
      ap (find_in id) (sym (rolls-Block own kids order))
      ∙ para-roll-Node (Option Node) (find_step id) (Node-F.Block own kids order)
      ∙ ap (λ z. cond (eqb own id) (Some (Block own z order)) (first_some (map (λ (k : Node × Option Node). k.1) (map (λ (k : Node). (k, find_in id k)) kids)))) (firsts kids)
      ∙ ap (λ z. cond (eqb own id) (Some (Block own kids order)) (first_some z)) (seconds kids)

  -- by what the node is
  pub found_step : (n : Node) (own a : ℕ) → n ≡ Step own a → eqb own id ≡ true → Some n ≡ find_in id n
  found_step n own a is e = sym (ap (find_in id) is ∙ find_in-Step own a ∙ cond-true _ _ _ e ∙ ap Some (sym is))

  pub missed_step : (n : Node) (own a : ℕ) → n ≡ Step own a → eqb own id ≡ false → None ≡ find_in id n
  missed_step n own a is e = sym (ap (find_in id) is ∙ find_in-Step own a ∙ cond-false _ _ _ e)

  pub found_block : (n : Node) (own : ℕ) (kids : List Node) (order : List (ℕ × ℕ)) → n ≡ Block own kids order → eqb own id ≡ true → Some n ≡ find_in id n
  found_block n own kids order is e = sym (ap (find_in id) is ∙ find_in-Block own kids order ∙ cond-true _ _ _ e ∙ ap Some (sym is))

  pub sought_block : (n : Node) (own : ℕ) (kids : List Node) (order : List (ℕ × ℕ)) → n ≡ Block own kids order → eqb own id ≡ false → first_some (map (find_in id) kids) ≡ find_in id n
  sought_block n own kids order is e = sym (ap (find_in id) is ∙ find_in-Block own kids order ∙ cond-false _ _ _ e)

pub has-append : (xs ys : List ℕ) (q : ℕ) → has (xs ++ ys) q ≡ (has xs q || has ys q)
has-append [] ys q = refl
has-append (x ∷ xs) ys q = ap (λ z. eqb x q || z) (has-append xs ys q) ∙ sym (or_assoc (eqb x q) (has xs q) (has ys q))

module _ (id : ℕ) where
  abbrev IsFoundIn : Node → Type 0
  IsFoundIn n = is_some (find_in id n) ≡ has (ids_of n) id

  some_first : (o : Option Node) (os : List (Option Node)) → is_some (first_some (o ∷ os)) ≡ (is_some o || is_some (first_some os))
  some_first None os = refl
  some_first (Some n) os = refl

  found_in_kids : (kids : List Node) → Each IsFoundIn kids → is_some (first_some (map (find_in id) kids)) ≡ has (joined (map ids_of kids)) id
  found_in_kids [] e = refl
  found_in_kids (k ∷ ks) e =
      some_first (find_in id k) (map (find_in id) ks)
      ∙ ap (λ z. z || is_some (first_some (map (find_in id) ks))) e.0
      ∙ ap (λ z. has (ids_of k) id || z) (found_in_kids ks e.1)
      ∙ sym (has-append (ids_of k) (joined (map ids_of ks)) id)

  some_if : (b : Bool) (n : Node) (o : Option Node) (rest : Bool) → is_some o ≡ rest → is_some (cond b (Some n) o) ≡ (b || rest)
  some_if true n o rest e = refl
  some_if false n o rest e = e

  -- a node is found exactly where the id is among the ids
  pub is_found : (n : Node) → is_some (find_in id n) ≡ has (ids_of n) id
  is_found = by_node IsFoundIn
      (λ own a. ap is_some (find_in-Step id own a) ∙ some_if (eqb own id) (Step own a) None false refl ∙ sym (ap (λ z. has z id) (ids_of-Step own a)))
      (λ own kids order e. ap is_some (find_in-Block id own kids order)
      ∙ some_if (eqb own id) (Block own kids order) (first_some (map (find_in id) kids)) _ (found_in_kids kids e)
      ∙ sym (ap (λ z. has z id) (ids_of-Block own kids order)))

  some_copied : (r : Option (Bor Node)) → is_some (option_copied r) ≡ is_some r
  some_copied None = refl
  some_copied (Some x) = refl

  -- what is not found is not among the ids, and the other way round
  pub missed : (n : Node) (r : Option (Bor Node)) → option_copied r ≡ find_in id n → is_some r ≡ has (ids_of n) id
  missed n r e = sym (some_copied r) ∙ ap is_some e ∙ is_found n

-- an id of nodes or of a list, by the two put together
module _ (named listed all : List ℕ) (is : named ++ listed ≡ all) (id : ℕ) where
  either_has : (has named id || has listed id) ≡ has all id
  either_has = sym (has-append named listed id) ∙ ap (λ z. has z id) is

  pub has_named : has named id ≡ true → true ≡ has all id
  has_named e = ap (λ z. z || has listed id) (sym e) ∙ either_has

  pub has_listed : has named id ≡ false → has listed id ≡ has all id
  has_listed e = ap (λ z. z || has listed id) (sym e) ∙ either_has

-- what is found by an id has it
module _ (id : ℕ) where
  abbrev IsFoundById : Node → Type 0
  IsFoundById n = (m : Node) → find_in id n ≡ Some m → id_of m ≡ id

  step_by_id : (own a : ℕ) → IsFoundById (Step own a)
  step_by_id own a m e = elim (cases_eq own id) [
    | inl same ↦
        let is : Some (Step own a) ≡ Some m = sym (find_in-Step id own a ∙ cond-true _ _ _ (eq-eqb own id same)) ∙ e in
        let node : Step own a ≡ m = cc in
        ap id_of (sym node) ∙ id_of-Step own a ∙ same
    | inr ne ↦
        let is : None ≡ Some m = sym (find_in-Step id own a ∙ cond-false _ _ _ (ne_eqb own id ne)) ∙ e in
        absurd (cc)
  ]

  first_by_id : (o : Option Node) (rest : List (Option Node)) → ((m : Node) → o ≡ Some m → id_of m ≡ id) → ((m : Node) → first_some rest ≡ Some m → id_of m ≡ id) → (m : Node) → first_some (o ∷ rest) ≡ Some m → id_of m ≡ id
  first_by_id None rest h hs m e = hs m e
  first_by_id (Some n) rest h hs m e = h m e

  kids_by_id : (kids : List Node) → Each IsFoundById kids → (m : Node) → first_some (map (find_in id) kids) ≡ Some m → id_of m ≡ id
  kids_by_id [] e m is = absurd (cc)
  kids_by_id (k ∷ ks) e m is = first_by_id (find_in id k) (map (find_in id) ks) e.0 (kids_by_id ks e.1) m is

  block_by_id : (own : ℕ) (kids : List Node) (order : List (ℕ × ℕ)) → Each IsFoundById kids → IsFoundById (Block own kids order)
  block_by_id own kids order h m e = elim (cases_eq own id) [
    | inl same ↦
        let is : Some (Block own kids order) ≡ Some m = sym (find_in-Block id own kids order ∙ cond-true _ _ _ (eq-eqb own id same)) ∙ e in
        let node : Block own kids order ≡ m = cc in
        ap id_of (sym node) ∙ id_of-Block own kids order ∙ same
    | inr ne ↦ kids_by_id kids h m (sym (find_in-Block id own kids order ∙ cond-false _ _ _ (ne_eqb own id ne)) ∙ e)
  ]

  pub found_by_id : (n m : Node) → find_in id n ≡ Some m → id_of m ≡ id
  found_by_id = by_node IsFoundById step_by_id block_by_id
