-- Which sets a tree of sets has, and what remains of a block's kids.
use Rattle.std.proofs.Common.{◌≡◌, ℕ, zero, suc, ◌+◌, ◌-◌, ◌<◌, ◌^◌, ◌⊎◌, inl, inr, true, List, [], ◌∷◌, ◌++◌, length, map, drop, get_or, Vec, Global, refl, sym, ap, ◌∙◌, subst, arith}
use Rattle.std.specs.BTreeSet.{insert_key}
use Rattle.std.specs.Cmp.Lexicographic.{slice_cmp}
use Rattle.std.specs.declared.cmp.Ordering.{Ordering}
use Rattle.std.specs.declared.cmp.Ordering.TheVariants.{Less, Equal, Greater}
use Rattle.std.specs.List.{list_any, enumerate_from}
use Rattle.std.specs.Ordering.{nat_cmp, is_eq, match_ordering}
use Rattle.std.proofs.lemmas.Bool.{or_cases}
use Rattle.std.proofs.lemmas.List.{drop-drop}
use Rattle.std.proofs.lemmas.Map.Text.{is_eq-slice_cmp}
use Rattle.std.proofs.lemmas.Slice.Eq.{bytes_eq-Decides}
use Rattle.bd_tree.specs.declared.node.Node.{Node, Step, Block}
use Rattle.bd_tree.specs.Deciding.{nodes_in, steps_in, positions, chosen, last_of, Remains, IsOneOf, AreRefused}
use Rattle.bd_tree.specs.Linearisation.{LinearisesKids}
use Rattle.bd_tree.specs.Tree.{total, nodes_of, steps_of}
use Rattle.bd_tree.proofs.DecidingLemmas.{steps_numbered, nodes_numbered, steps_between, nodes_between, block_whole}
use Rattle.bd_tree.proofs.NodeLemmas.{steps_of-Block}

abbrev Key : Type 0
Key = Vec ℕ Global

abbrev sets_of : List Key → List (List ℕ)
sets_of keys = map (λ (k : Key). k.items) keys

same_set : (xs ys : List ℕ) → is_eq (slice_cmp nat_cmp xs ys) ≡ true → xs ≡ ys
same_set xs ys e = (bytes_eq-Decides xs ys).0 (sym (is_eq-slice_cmp xs ys) ∙ e)

-- a set that a tree has is one of its sets
pub found_set : (set : List ℕ) (keys : List Key) → list_any (λ (k : Key). is_eq (slice_cmp nat_cmp set k.items)) keys ≡ true → IsOneOf (sets_of keys) set
found_set set [] e = absurd (cc)
found_set set (k ∷ ks) e = elim (or_cases (is_eq (slice_cmp nat_cmp set k.items)) _ e) [
  | inl here ↦ inl (same_set set k.items here)
  | inr there ↦ inr (found_set set ks there)
]

-- what a tree has after it took a set
module _ (cmp : Key → Key → Ordering) (key : Key) (set : List ℕ) where
  at_first : (k : Key) (ks : List Key) (o : Ordering) → (IsOneOf (sets_of (insert_key cmp ks key)) set → (set ≡ key.items) ⊎ IsOneOf (sets_of ks) set) →
      IsOneOf (sets_of (match_ordering o (key ∷ k ∷ ks) (k ∷ ks) (k ∷ insert_key cmp ks key))) set → (set ≡ key.items) ⊎ IsOneOf (sets_of (k ∷ ks)) set
  at_first k ks Less later (inl e) = inl e
  at_first k ks Less later (inr old) = inr old
  at_first k ks Equal later one = inr one
  at_first k ks Greater later (inl e) = inr (inl e)
  at_first k ks Greater later (inr one) = elim (later one) [ inl e ↦ inl e | inr old ↦ inr (inr old) ]

  pub inserted_set : (keys : List Key) → IsOneOf (sets_of (insert_key cmp keys key)) set → (set ≡ key.items) ⊎ IsOneOf (sets_of keys) set
  inserted_set [] (inl e) = inl e
  inserted_set [] (inr off) = absurd off
  inserted_set (k ∷ ks) one = at_first k ks (cmp key k) (inserted_set ks) one

module _ (kids : List Node) (list : List ℕ) where
  own_tail : (k : ℕ × Node) (ks : List (ℕ × Node)) → k ∷ ks ≡ chosen kids (positions (k ∷ ks)) → ks ≡ chosen kids (positions ks)
  own_tail k ks e = cc

  own_without : (before after : List (ℕ × Node)) (k : ℕ × Node) → before ++ k ∷ after ≡ chosen kids (positions (before ++ k ∷ after)) → before ++ after ≡ chosen kids (positions (before ++ after))
  own_without [] after k e = own_tail k after e
  own_without (x ∷ xs) after k e =
      let head : x ≡ (x.0, get_or kids x.0 (Step 0 0)) = cc in
      let rest = own_without xs after k (own_tail x (xs ++ k ∷ after) e) in
      ap (λ z. z ∷ xs ++ after) head ∙ ap (λ z. (x.0, get_or kids x.0 (Step 0 0)) ∷ z) rest

  module _ (rest : List (ℕ × Node)) (back : List ℕ) (r : Remains kids list rest back) where
    -- where a kid goes on, the others remain for what is behind its part
    pub remains_next : (before after : List (ℕ × Node)) (k : ℕ × Node) (others : List ℕ) → rest ≡ before ++ k ∷ after → others ≡ drop (steps_of k.1) back → Remains kids list (before ++ after) others
    remains_next before after k others split is =
        let steps : steps_in rest ≡ steps_of k.1 + steps_in (before ++ after) = ap steps_in split ∙ steps_between before after k in
        let nodes : nodes_in rest ≡ nodes_of k.1 + nodes_in (before ++ after) = ap nodes_in split ∙ nodes_between before after k in
        let sum : length list - steps_in rest + steps_of k.1 ≡ length list - steps_in (before ++ after) = omega (arith, steps, r.fits) in
        record {
          own = own_without before after k (subst (λ z. z ≡ chosen kids (positions z)) split r.own);
          small = omega (arith, r.small, nodes);
          fits = omega (arith, r.fits, steps);
          ends = is ∙ ap (drop (steps_of k.1)) r.ends ∙ drop-drop (steps_of k.1) (length list - steps_in rest) list ∙ ap (λ z. drop z list) sum;
        }

    module _ (order : List (ℕ × ℕ)) (sets : List (List ℕ)) (refused : AreRefused kids order list sets) where
      -- what was refused is refused again
      pub refused_now : IsOneOf sets (positions rest) → LinearisesKids order rest back → ⊥
      refused_now one of = refused (positions rest) one
          (subst (λ z. LinearisesKids order z (last_of list (steps_in z))) r.own (subst (LinearisesKids order rest) r.ends of))

      -- the set of what remains may be kept as refused where it has no linearisation
      pub refused_more : (new : List (List ℕ)) (set : List ℕ) → set ≡ positions rest → ((other : List ℕ) → IsOneOf new other → (other ≡ set) ⊎ IsOneOf sets other) → (LinearisesKids order rest back → ⊥) → AreRefused kids order list new
      refused_more new set is taken off other one of = elim (taken other one) [
        | inr old ↦ refused other old of
        | inl e ↦ off (subst (LinearisesKids order rest) (sym r.ends)
            (subst (λ z. LinearisesKids order z (last_of list (steps_in z))) (sym r.own)
            (subst (λ z. LinearisesKids order (chosen kids z) (last_of list (steps_in (chosen kids z)))) (e ∙ is) of)))
      ]

  own_numbered : (n : ℕ) (ks : List Node) → drop n kids ≡ ks → enumerate_from n ks ≡ chosen kids (positions (enumerate_from n ks))
  own_numbered n [] e = refl
  own_numbered n (k ∷ ks) e =
      let next = own_numbered (n + 1) ks (rest_at kids n k ks e) in
      ap (λ z. (n, z) ∷ enumerate_from (n + 1) ks) (sym (first_at kids n k ks e)) ∙ ap (λ z. (n, get_or kids n (Step 0 0)) ∷ z) next
    where
      first_at : (xs : List Node) (n : ℕ) (k : Node) (ks : List Node) → drop n xs ≡ k ∷ ks → get_or xs n (Step 0 0) ≡ k
      first_at [] zero k ks e = absurd (cc)
      first_at [] (suc n) k ks e = absurd (cc)
      first_at (x ∷ xs) zero k ks e = cc
      first_at (x ∷ xs) (suc n) k ks e = first_at xs n k ks e

      rest_at : (xs : List Node) (n : ℕ) (k : Node) (ks : List Node) → drop n xs ≡ k ∷ ks → drop (n + 1) xs ≡ ks
      rest_at xs n k ks e = sym (drop-drop (suc zero) n xs) ∙ ap (drop (suc zero)) e

  -- at first all kids of a block remain, for a list that is as long as the block has steps
  pub remains_all : (n : Node) (id : ℕ) (block : List Node) (order : List (ℕ × ℕ)) (rest : List (ℕ × Node)) → n ≡ Block id block order → kids ≡ block → rest ≡ enumerate_from 0 kids → nodes_of n < 2 ^ 32 → steps_of n ≡ length list → Remains kids list rest list
  remains_all n id block order rest is same all few long =
      let steps : steps_in rest ≡ length list = ap steps_in all ∙ steps_numbered 0 kids ∙ ap (λ z. total (map steps_of z)) same ∙ sym (ap steps_of is ∙ steps_of-Block id block order) ∙ long in
      let none : length list - steps_in rest ≡ 0 = omega (arith, steps) in
      record {
        own = subst (λ z. z ≡ chosen kids (positions z)) (sym all) (own_numbered 0 kids refl);
        small = omega (arith, few, ap nodes_in all ∙ nodes_numbered 0 kids, block_whole n id block kids order is same);
        fits = omega (arith, steps);
        ends = sym (ap (λ z. drop z list) none);
      }

pub none_refused : (kids : List Node) (order : List (ℕ × ℕ)) (list : List ℕ) (sets : List (List ℕ)) → sets ≡ [] → AreRefused kids order list sets
none_refused kids order list sets is set one of = let off : IsOneOf [] set = subst (λ z. IsOneOf z set) is one in absurd off
