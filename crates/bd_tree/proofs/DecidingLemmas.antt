-- A linearisation of kids begins with one of them, and the number of that kid's steps says where its part ends.
use Rattle.std.proofs.Common.{◌≡◌, ◌↔◌, ℕ, ◌+◌, ◌<◌, ◌≤◌, Bool, true, false, eqb, List, [], ◌∷◌, ◌++◌, length, map, take, drop, Result, Ok, Err, Bor, IfOk, refl, sym, ap, ◌∙◌, subst, arith}
use Rattle.std.proofs.lemmas.Bool.{both_ways, eqb-true, eq-eqb}
use Rattle.std.specs.List.{enumerate_from}
use Rattle.std.proofs.Math.Seq.{take-append_seam, drop-append_seam}
use Rattle.std.proofs.lemmas.List.{length-append, length-map, length-take-le, map-append, take-append-drop}
use Rattle.bd_tree.specs.declared.node.Node.{Node, Step, Block}
use Rattle.bd_tree.specs.declared.node.Node.TheOpen.{Node-F}
use Rattle.bd_tree.specs.declared.node.Node.TheViews.{out-Node, outs-Step, outs-Block}
use Rattle.bd_tree.specs.declared.node.Node.TheFolds.{fold_out-Node}
use Rattle.bd_tree.specs.Deciding.{placed, nodes_in, steps_in, StartsAt}
use Rattle.bd_tree.specs.Linearisation.{IsFirst, IsLinearisation, LinearisesKids, of_step, of_block, no_kid, next_kid}
use Rattle.bd_tree.specs.Tree.{total, steps_of, steps_step, nodes_of}
use Rattle.bd_tree.proofs.NodeLemmas.{nodes_of-Block}

pub steps_numbered : (n : ℕ) (kids : List Node) → steps_in (enumerate_from n kids) ≡ total (map steps_of kids)
steps_numbered n [] = refl
steps_numbered n (k ∷ ks) = ap (λ z. steps_of k + z) (steps_numbered (n + 1) ks)

pub nodes_numbered : (n : ℕ) (kids : List Node) → nodes_in (enumerate_from n kids) ≡ total (map nodes_of kids)
nodes_numbered n [] = refl
nodes_numbered n (k ∷ ks) = ap (λ z. nodes_of k + z) (nodes_numbered (n + 1) ks)

pub steps_between : (before after : List (ℕ × Node)) (k : ℕ × Node) → steps_in (before ++ k ∷ after) ≡ steps_of k.1 + steps_in (before ++ after)
steps_between [] after k = refl
steps_between (x ∷ xs) after k = omega (arith, steps_between xs after k)

pub nodes_between : (before after : List (ℕ × Node)) (k : ℕ × Node) → nodes_in (before ++ k ∷ after) ≡ nodes_of k.1 + nodes_in (before ++ after)
nodes_between [] after k = refl
nodes_between (x ∷ xs) after k = omega (arith, nodes_between xs after k)

mutual
  -- a linearisation is as long as there are steps
  pub lin_length : (n : Node) (list : List ℕ) → IsLinearisation n list → length list ≡ steps_of n
  lin_length n list (of_step id a e) = sym (fold_out-Node ℕ steps_step n ∙ rw e)
  lin_length n list (of_block id kids order e of) = kids_length order (enumerate_from 0 kids) list of ∙ steps_numbered 0 kids ∙ sym (fold_out-Node ℕ steps_step n ∙ rw e)

  kids_length : (order : List (ℕ × ℕ)) (rest : List (ℕ × Node)) (list : List ℕ) → LinearisesKids order rest list → length list ≡ steps_in rest
  kids_length order rest list no_kid = refl
  kids_length order rest list (next_kid b a k front back split first lin of joined) =
      omega (arith, ap length joined, length-append front back, lin_length k.1 front lin, kids_length order (b ++ a) back of, ap steps_in split, steps_between b a k)

same_parts : (b c a d : List (ℕ × Node)) (x y : ℕ × Node) → length b ≡ length c → b ++ x ∷ a ≡ c ++ y ∷ d → (b ≡ c) × (x ≡ y) × (a ≡ d)
same_parts [] [] a d x y l e = (refl, cc, cc)
same_parts [] (z ∷ c) a d x y l e = absurd (omega (arith, l))
same_parts (z ∷ b) [] a d x y l e = absurd (omega (arith, l))
same_parts (z ∷ b) (w ∷ c) a d x y l e =
    let head : z ≡ w = cc in
    let tail : b ++ x ∷ a ≡ c ++ y ∷ d = cc in
    let rest = same_parts b c a d x y (omega (arith, l)) tail in
    (cc, rest.1, rest.2)

module _ (order : List (ℕ × ℕ)) (rest before after : List (ℕ × Node)) (k : ℕ × Node) (list : List ℕ) (place : ℕ) (split : rest ≡ before ++ k ∷ after) (at_place : length before ≡ place) where
  pub starts_from : IsFirst order k.0 rest → IsLinearisation k.1 (take (steps_of k.1) list) → LinearisesKids order (before ++ after) (drop (steps_of k.1) list) → StartsAt order rest list place
  starts_from first begins goes_on = record {
    before = before;
    kid = k;
    after = after;
    front = take (steps_of k.1) list;
    back = drop (steps_of k.1) list;
    parts = split;
    at_place = at_place;
    first = first;
    begins = begins;
    goes_on = goes_on;
    whole = sym (take-append-drop (steps_of k.1) list);
  }

  module _ (s : StartsAt order rest list place) where
    unique : (before ≡ s.before) × (k ≡ s.kid) × (after ≡ s.after)
    unique = same_parts before s.before after s.after k s.kid (at_place ∙ sym s.at_place) (sym split ∙ s.parts)

    front_length : length s.front ≡ steps_of k.1
    front_length = lin_length s.kid.1 s.front s.begins ∙ ap (λ (z : ℕ × Node). steps_of z.1) (sym unique.1)

    pub starts_long : steps_of k.1 ≤ length list
    starts_long = omega (arith, front_length, ap length s.whole, length-append s.front s.back)

    front_is : s.front ≡ take (steps_of k.1) list
    front_is = sym (ap (take (steps_of k.1)) s.whole ∙ ap (λ z. take z (s.front ++ s.back)) (sym front_length) ∙ take-append_seam s.front s.back)

    back_is : s.back ≡ drop (steps_of k.1) list
    back_is = sym (ap (drop (steps_of k.1)) s.whole ∙ ap (λ z. drop z (s.front ++ s.back)) (sym front_length) ∙ drop-append_seam s.front s.back)

    pub starts_first : IsFirst order k.0 rest
    starts_first = subst (λ (z : ℕ × Node). IsFirst order z.0 rest) (sym unique.1) s.first

    pub starts_begins : IsLinearisation k.1 (take (steps_of k.1) list)
    starts_begins = subst (IsLinearisation k.1) front_is (subst (λ (z : ℕ × Node). IsLinearisation z.1 s.front) (sym unique.1) s.begins)

    pub starts_goes_on : LinearisesKids order (before ++ after) (drop (steps_of k.1) list)
    starts_goes_on = subst (LinearisesKids order (before ++ after)) back_is
        (subst (λ z. LinearisesKids order z s.back) (ap (λ z. z ++ s.after) (sym unique.0) ∙ ap (λ z. before ++ z) (sym unique.2)) s.goes_on)

-- no kid stands at a place past the last
pub starts_within : (order : List (ℕ × ℕ)) (rest : List (ℕ × Node)) (list : List ℕ) (place : ℕ) → StartsAt order rest list place → place < length rest
starts_within order rest list place s = omega (arith, s.at_place, ap length s.parts, length-append s.before (s.kid ∷ s.after))

-- no kids have the empty linearisation alone
pub no_kids : (order : List (ℕ × ℕ)) (rest : List (ℕ × Node)) (list : List ℕ) → rest ≡ [] → LinearisesKids order rest list → list ≡ []
no_kids order rest list is no_kid = refl
no_kids order rest list is (next_kid b a k front back split first lin of joined) =
    let none : length rest ≡ 0 = ap length is in
    absurd (omega (arith, none, ap length split, length-append b (k ∷ a)))

pub none_left : (order : List (ℕ × ℕ)) (rest : List (ℕ × Node)) (list : List ℕ) → rest ≡ [] → list ≡ [] → LinearisesKids order rest list
none_left order rest list r l = subst (λ z. LinearisesKids order z list) (sym r) (subst (LinearisesKids order []) (sym l) no_kid)

-- a linearisation of some kids begins with one of them
pub kids_start : (order : List (ℕ × ℕ)) (rest : List (ℕ × Node)) (list : List ℕ) → 0 < length rest → LinearisesKids order rest list → (place : ℕ) × StartsAt order rest list place
kids_start order rest list lt no_kid = absurd (omega arith)
kids_start order rest list lt (next_kid b a k front back split first lin of joined) = (
  length b,
  record {
    before = b;
    kid = k;
    after = a;
    front = front;
    back = back;
    parts = split;
    at_place = refl;
    first = first;
    begins = lin;
    goes_on = of;
    whole = joined;
  },
)

pub start_linearises : (order : List (ℕ × ℕ)) (rest : List (ℕ × Node)) (list : List ℕ) (place : ℕ) → StartsAt order rest list place → LinearisesKids order rest list
start_linearises order rest list place s = next_kid s.before s.after s.kid s.front s.back s.parts s.first s.begins s.goes_on s.whole

-- the answer where no kid remains
pub none_answer : (order : List (ℕ × ℕ)) (rest : List (ℕ × Node)) (list : List ℕ) (b : Bool) → rest ≡ [] → b ≡ eqb (length list) 0 → (b ≡ true) ↔ LinearisesKids order rest list
none_answer order rest list b none e = (
  (λ yes_b. none_left order rest list none (no_items list (eqb-true _ _ (sym e ∙ yes_b)))),
  (λ of. e ∙ eq-eqb _ _ (ap length (no_kids order rest list none of))),
)
  where
    no_items : (xs : List ℕ) → length xs ≡ 0 → xs ≡ []
    no_items [] f = refl
    no_items (x ∷ xs) f = absurd (omega (arith, f))

-- the answer at a step and at a block
pub step_answer : (n : Node) (id a : ℕ) (list : List ℕ) → n ≡ Step id a → (list ≡ a ∷ []) ↔ IsLinearisation n list
step_answer n id a list is =
    let out : out-Node n ≡ Node-F.Step id a = ap out-Node is ∙ outs-Step id a in
    ((λ e. subst (IsLinearisation n) (sym e) (of_step id a out)), (λ of. at_step n id a list out of))
  where
    at_step : (n : Node) (id a : ℕ) (list : List ℕ) → out-Node n ≡ Node-F.Step id a → IsLinearisation n list → list ≡ a ∷ []
    at_step n id a list out (of_step own b e) =
        let same : Node-F.Step own b ≡ Node-F.Step id a = sym e ∙ out in
        let action : b ≡ a = cc in
        ap (λ z. z ∷ []) action
    at_step n id a list out (of_block own kids order e of) =
        let same : Node-F.Block own kids order ≡ Node-F.Step id a = sym e ∙ out in
        absurd (cc)

pub block_answer : (n : Node) (id : ℕ) (kids : List Node) (order : List (ℕ × ℕ)) (list : List ℕ) → n ≡ Block id kids order → LinearisesKids order (enumerate_from 0 kids) list ↔ IsLinearisation n list
block_answer n id kids order list is =
    let out : out-Node n ≡ Node-F.Block id kids order = ap out-Node is ∙ outs-Block id kids order in
    ((λ of. of_block id kids order out of), (λ of. at_block n id kids order list out of))
  where
    at_block : (n : Node) (id : ℕ) (kids : List Node) (order : List (ℕ × ℕ)) (list : List ℕ) → out-Node n ≡ Node-F.Block id kids order → IsLinearisation n list → LinearisesKids order (enumerate_from 0 kids) list
    at_block n id kids order list out (of_step own b e) =
        let same : Node-F.Step own b ≡ Node-F.Block id kids order = sym e ∙ out in
        absurd (cc)
    at_block n id kids order list out (of_block own ks o e of) =
        let same : Node-F.Block own ks o ≡ Node-F.Block id kids order = sym e ∙ out in
        let kids_are : ks ≡ kids = cc in
        let order_is : o ≡ order = cc in
        subst (λ z. LinearisesKids z (enumerate_from 0 kids) list) order_is (subst (λ z. LinearisesKids o (enumerate_from 0 z) list) kids_are of)

-- what a call told, where the answers mean the same
pub told_same : {E : Type 0} (r : Result Bool E) (P Q : Type 0) → P ↔ Q → IfOk r (λ b. (b ≡ true) ↔ P) → IfOk r (λ b. (b ≡ true) ↔ Q)
told_same (Ok b) P Q e h = ((λ t. e.0 (h.0 t)), (λ q. h.1 (e.1 q)))
told_same (Err x) P Q e h = h

-- the parts of kids as the code lends them
module _ (rest before after : List (ℕ × Bor Node)) (k : ℕ × Bor Node) (at_place : ℕ) (within : at_place ≤ length rest) (front : before ≡ take at_place rest) (back : drop at_place rest ≡ k ∷ after) where
  pub parts_split : placed rest ≡ placed before ++ (k.0, k.1.now) ∷ placed after
  parts_split =
      ap placed (sym (take-append-drop at_place rest))
      ∙ map-append (λ (z : ℕ × Bor Node). (z.0, z.1.now)) (take at_place rest) (drop at_place rest)
      ∙ ap (λ z. placed z ++ placed (drop at_place rest)) (sym front)
      ∙ ap (λ z. placed before ++ placed z) back

  pub parts_place : length (placed before) ≡ at_place
  parts_place = length-map before (λ (z : ℕ × Bor Node). (z.0, z.1.now)) ∙ ap length front ∙ length-take-le at_place rest within

  pub parts_nodes : nodes_in (placed rest) ≡ nodes_of k.1.now + nodes_in (placed before ++ placed after)
  parts_nodes = ap nodes_in parts_split ∙ nodes_between (placed before) (placed after) (k.0, k.1.now)

pub none_placed : (rest : List (ℕ × Bor Node)) → length rest ≡ 0 → placed rest ≡ []
none_placed [] e = refl
none_placed (k ∷ ks) e = absurd (omega (arith, e))

pub some_placed : (rest : List (ℕ × Bor Node)) → length (placed rest) ≡ length rest
some_placed rest = length-map rest (λ (z : ℕ × Bor Node). (z.0, z.1.now))

-- a block has one node more than its kids
pub block_whole : (n : Node) (id : ℕ) (kids ks : List Node) (order : List (ℕ × ℕ)) → n ≡ Block id kids order → ks ≡ kids → nodes_of n ≡ 1 + total (map nodes_of ks)
block_whole n id kids ks order is same = ap nodes_of is ∙ nodes_of-Block id kids order ∙ ap (λ z. 1 + total (map nodes_of z)) (sym same)

pub refused : (P : Type 0) → (P → ⊥) → (false ≡ true) ↔ P
refused P off = ((λ e. absurd (both_ways false refl e)), (λ p. absurd (off p)))

-- the answer at a place, by what the code finds there
module _ (order : List (ℕ × ℕ)) (list : List ℕ) (rest before after : List (ℕ × Bor Node)) (k : ℕ × Bor Node) (at_place : ℕ) (within : at_place ≤ length rest) (front : before ≡ take at_place rest) (back : drop at_place rest ≡ k ∷ after) where
  abbrev kid : ℕ × Node
  kid = (k.0, k.1.now)

  split_is : placed rest ≡ placed before ++ kid ∷ placed after
  split_is = parts_split rest before after k at_place within front back

  place_is : length (placed before) ≡ at_place
  place_is = parts_place rest before after k at_place within front back

  pub too_short : length list < steps_of k.1.now → StartsAt order (placed rest) list at_place → ⊥
  too_short lt s = omega (arith, lt, starts_long order (placed rest) (placed before) (placed after) kid list at_place split_is place_is s)

  pub no_front : (IsLinearisation k.1.now (take (steps_of k.1.now) list) → ⊥) → StartsAt order (placed rest) list at_place → ⊥
  no_front off s = off (starts_begins order (placed rest) (placed before) (placed after) kid list at_place split_is place_is s)

  pub not_first : (IsFirst order k.0 (placed rest) → ⊥) → StartsAt order (placed rest) list at_place → ⊥
  not_first off s = off (starts_first order (placed rest) (placed before) (placed after) kid list at_place split_is place_is s)

  pub rest_tells : IsFirst order k.0 (placed rest) → IsLinearisation k.1.now (take (steps_of k.1.now) list) → LinearisesKids order (placed before ++ placed after) (drop (steps_of k.1.now) list) ↔ StartsAt order (placed rest) list at_place
  rest_tells first begins = (
    starts_from order (placed rest) (placed before) (placed after) kid list at_place split_is place_is first begins,
    starts_goes_on order (placed rest) (placed before) (placed after) kid list at_place split_is place_is,
  )

pub placed-append : (before after : List (ℕ × Bor Node)) → placed (before ++ after) ≡ placed before ++ placed after
placed-append before after = map-append (λ (z : ℕ × Bor Node). (z.0, z.1.now)) before after
