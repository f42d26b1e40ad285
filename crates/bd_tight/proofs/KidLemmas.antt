-- The two kids of a pair: where they stand, and how they touch a fact.
use Rattle.std.proofs.Common.{◌≡◌, ℕ, ◌+◌, Bool, true, false, not, ◌||◌, eqb, List, [], ◌∷◌, map, zero, suc, Some, slice_get, refl, sym, ap, ◌∙◌, inl, inr, subst, arith}
use Rattle.std.specs.List.{enumerate_from}
use Rattle.std.proofs.lemmas.Bool.{or_parts, and_parts, cases_Bool, cases_eq, both_ways, eq-eqb, eqb-true, ne_eqb, not-true, cond-true, cond-false}
use Rattle.bd_base.specs.Facts.{has}
use Rattle.bd_task.specs.declared.ground.Action.{Action}
use Rattle.bd_tree.specs.declared.node.Node.{Node}
use Rattle.bd_tree.specs.Tree.{id_of}
use Rattle.bd_tree.specs.WellFormed.{are_distinct}
use Rattle.bd_links.proofs.Members.{In, here, there, in_without}
use Rattle.bd_links.specs.Effects.{Kid}
use Rattle.bd_links.specs.Sound.{child_of}
use Rattle.bd_shape.specs.Unordered.{stands_at}
use Rattle.bd_tight.specs.Judged.{touch_at, kid_row}
use Rattle.bd_reason.specs.Reasons.{kid_with}
use Rattle.bd_tight.specs.Touch.{Touch, Toucher, touch_of}
use Rattle.bd_tight.proofs.ListLemmas.{in_map}

-- the kid with an id
pub record IsKid (id : ℕ) (kids : List Node) : Type 0 where
  pub at : ℕ
  pub node : Node
  pub found : kid_with id kids ≡ Some node
  pub stands : slice_get kids at ≡ Some node
  pub alone : (q : ℕ) → stands_at kids id q ≡ eqb q at

eqb-suc : (a b : ℕ) → eqb (suc a) (suc b) ≡ eqb a b
eqb-suc a b = elim (cases_eq a b) [
  | inl e ↦ eq-eqb (suc a) (suc b) (omega arith) ∙ sym (eq-eqb a b e)
  | inr ne ↦ ne_eqb (suc a) (suc b) (λ e. ne (omega arith)) ∙ sym (ne_eqb a b ne)
]

-- an id that no kid has
stands_nowhere : (id : ℕ) (kids : List Node) → has (map id_of kids) id ≡ false → (q : ℕ) → stands_at kids id q ≡ false
stands_nowhere id [] h q = refl
stands_nowhere id (k ∷ ks) h zero = (or_parts (eqb (id_of k) id) (has (map id_of ks) id) h).0
stands_nowhere id (k ∷ ks) h (suc q) = stands_nowhere id ks (or_parts (eqb (id_of k) id) (has (map id_of ks) id) h).1 q

later_in : (a b : Bool) → a ≡ false → (a || b) ≡ true → b ≡ true
later_in true b e h = absurd (both_ways true e refl)
later_in false b e h = h

pub the_kid : (id : ℕ) (kids : List Node) → are_distinct (map id_of kids) ≡ true → has (map id_of kids) id ≡ true → IsKid id kids
the_kid id [] d h = absurd (both_ways false refl h)
the_kid id (k ∷ ks) d h =
    let parts = and_parts (not (has (map id_of ks) (id_of k))) (are_distinct (map id_of ks)) d in
    elim (cases_Bool (eqb (id_of k) id)) [
      | inl here_is ↦ record {
        at = zero;
        node = k;
        found = cond-true _ _ _ here_is;
        stands = refl;
        alone = first_alone here_is (ap (λ z. has (map id_of ks) z) (sym (eqb-true (id_of k) id here_is)) ∙ not-true _ parts.0);
      }
      | inr not_here ↦
          let r : IsKid id ks = the_kid id ks parts.1 (later_in (eqb (id_of k) id) (has (map id_of ks) id) not_here h) in
          record {
            at = suc r.at;
            node = r.node;
            found = cond-false _ _ _ not_here ∙ r.found;
            stands = r.stands;
            alone = later_alone not_here r;
          }
    ]
  where
    first_alone : eqb (id_of k) id ≡ true → has (map id_of ks) id ≡ false → (q : ℕ) → stands_at (k ∷ ks) id q ≡ eqb q zero
    first_alone e none zero = e
    first_alone e none (suc q) = stands_nowhere id ks none q ∙ sym (ne_eqb (suc q) zero (λ z. omega (arith, z)))

    later_alone : eqb (id_of k) id ≡ false → (r : IsKid id ks) → (q : ℕ) → stands_at (k ∷ ks) id q ≡ eqb q (suc r.at)
    later_alone e r zero = e ∙ sym (ne_eqb zero (suc r.at) (λ z. omega (arith, z)))
    later_alone e r (suc q) = r.alone q ∙ sym (eqb-suc q r.at)

-- a member of a numbered list
module _ {X : Type 0} where
  pub in_numbered : (m : ℕ) (xs : List X) (k : ℕ × X) → In k (enumerate_from m xs) → (q : ℕ) × (k.0 ≡ m + q) × (slice_get xs q ≡ Some k.1)
  in_numbered m [] k i = elim i [ ]
  in_numbered m (x ∷ xs) k i = elim (in_without [] (enumerate_from (m + 1) xs) (m, x) k i) [
    | inl e ↦ (zero, ap (λ (z : ℕ × X). z.0) e ∙ (let z : m ≡ m + 0 = omega arith in z), ap (λ (z : ℕ × X). Some z.1) (sym e))
    | inr j ↦ let r = in_numbered (m + 1) xs k j in (suc r.0, r.1 ∙ (let z : m + 1 + r.0 ≡ m + suc r.0 = omega arith in z), r.2)
  ]

  pub numbered_in : (m : ℕ) (xs : List X) (q : ℕ) (x : X) → slice_get xs q ≡ Some x → In (m + q, x) (enumerate_from m xs)
  numbered_in m [] q x e = absurd (cc)
  numbered_in m (y ∷ ys) zero x e =
      let same : y ≡ x = cc in
      let z : m ≡ m + 0 = omega arith in
      subst (λ (w : X). In (m + 0, w) ((m, y) ∷ enumerate_from (m + 1) ys)) same (subst (λ w. In (w, y) ((m, y) ∷ enumerate_from (m + 1) ys)) z here)
  numbered_in m (y ∷ ys) (suc q) x e =
      let z : m + 1 + q ≡ m + suc q = omega arith in
      there (subst (λ w. In (w, x) (enumerate_from (m + 1) ys)) z (numbered_in (m + 1) ys q x e))

module _ (actions : List Action) (p : ℕ) where
  slice_map : (kids : List Node) (q : ℕ) (n : Node) → slice_get kids q ≡ Some n → slice_get (map (child_of actions) kids) q ≡ Some (child_of actions n)
  slice_map [] q n e = absurd (cc)
  slice_map (k ∷ ks) zero n e = let same : k ≡ n = cc in ap (λ z. Some (child_of actions z)) same
  slice_map (k ∷ ks) (suc q) n e = slice_map ks q n e

  abbrev touch_here : Node → Touch
  touch_here n = touch_at actions p n

  abbrev kid_rows : List Node → List Toucher
  kid_rows kids = kid_row actions p kids

  -- the row has each kid at its position, and nothing else there
  pub row_in : (kids : List Node) (q : ℕ) (n : Node) → slice_get kids q ≡ Some n → In (q, touch_here n) (kid_rows kids)
  row_in kids q n e =
      let z : 0 + q ≡ q = omega arith in
      subst (λ w. In (w, touch_here n) (kid_rows kids)) z
      (Rattle.bd_tight.proofs.ListLemmas.map_in (λ (k : Kid). (k.0, touch_of p k.1.effects)) (0 + q, child_of actions n) (enumerate_from 0 (map (child_of actions) kids)) (numbered_in 0 (map (child_of actions) kids) q (child_of actions n) (slice_map kids q n e)))

  pub row_only : (kids : List Node) (q : ℕ) (n : Node) → slice_get kids q ≡ Some n → (x : Toucher) → In x (kid_rows kids) → x.0 ≡ q → x.1 ≡ touch_here n
  row_only kids q n e x i same =
      let r = in_map (λ (k : Kid). (k.0, touch_of p k.1.effects)) x (enumerate_from 0 (map (child_of actions) kids)) i in
      let s = in_numbered 0 (map (child_of actions) kids) r.0 r.1 in
      let at : r.0.0 ≡ q = ap (λ (z : Toucher). z.0) (sym r.2) ∙ same in
      let s_is : s.0 ≡ q = (let z : 0 + s.0 ≡ s.0 = omega arith in sym z) ∙ sym s.1 ∙ at in
      let both : Some r.0.1 ≡ Some (child_of actions n) = sym s.2 ∙ ap (slice_get (map (child_of actions) kids)) s_is ∙ slice_map kids q n e in
      let child : r.0.1 ≡ child_of actions n = cc in
      ap (λ (z : Toucher). z.1) r.2 ∙ ap (λ z. touch_of p z.effects) child
