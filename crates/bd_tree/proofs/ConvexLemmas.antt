-- Where each pair of an order rises, only the members on one side of a position can be before it or after it.
use Rattle.std.proofs.Common.{◌≡◌, ℕ, zero, suc, ◌+◌, ◌<◌, ◌≤◌, Bool, true, false, ◌&&◌, ◌||◌, ltb, eqb, List, [], ◌∷◌, length, take, drop, IsTrue, refl, sym, ap, ◌∙◌, arith}
use Rattle.std.proofs.Math.Bool.{or_assoc}
use Rattle.std.specs.List.{list_any, enumerate_from}
use Rattle.std.proofs.lemmas.Bool.{and_parts, and_left, and_right, or_parts, or_right, or_from, not_from_false, ltb-true, le-ltb, eqb-true, false_from_ne_true}
use Rattle.std.proofs.lemmas.List.{length-take}
use Rattle.bd_base.specs.Facts.{has}
use Rattle.bd_base.specs.Pairs.{have_rising_pairs, is_before}
use Rattle.bd_tree.specs.declared.node.Node.{Node}
use Rattle.bd_tree.specs.Convex.{is_member, is_after_some, is_before_some, is_aside, has_member, SpansMembers}
use Rattle.bd_tree.specs.Tree.{id_of}
use Rattle.bd_tree.proofs.OrderLemmas.{none_of}

module _ (t : ℕ × Node → Bool) where
  -- some kid passes, if one of the first i or one behind them does
  pub any_split : (kids : List Node) (n i m : ℕ) → m ≡ n + i → i ≤ length kids → list_any t (enumerate_from n kids) ≡ (list_any t (enumerate_from n (take i kids)) || list_any t (enumerate_from m (drop i kids)))
  any_split kids n zero m e le = let same : n ≡ m = omega arith in ap (λ z. list_any t (enumerate_from z kids)) same
  any_split [] n (suc i) m e le = absurd (omega arith)
  any_split (k ∷ ks) n (suc i) m e le =
      ap (λ z. t (n, k) || z) (any_split ks (n + 1) i m (omega arith) (omega arith))
      ∙ sym (or_assoc (t (n, k)) (list_any t (enumerate_from (n + 1) (take i ks))) (list_any t (enumerate_from m (drop i ks))))

  pub none_at : (kids : List Node) (n : ℕ) → ((k : ℕ) (kid : Node) → n ≤ k → k < n + length kids → t (k, kid) ≡ false) → list_any t (enumerate_from n kids) ≡ false
  none_at [] n h = refl
  none_at (k ∷ ks) n h = or_from _ _ (h n k (omega arith) (omega arith)) (none_at ks (n + 1) (λ i kid le lt. h i kid (omega arith) (omega arith)))

pub no_member : (ids : List ℕ) (f : ℕ → Bool) (kids : List Node) (n : ℕ) → has_member ids kids ≡ false → list_any (λ k. is_member ids k && f k.0) (enumerate_from n kids) ≡ false
no_member ids f [] n none = refl
no_member ids f (k ∷ ks) n none =
    let parts = or_parts (has ids (id_of k)) (has_member ids ks) none in
    or_from _ _ (and_left (has ids (id_of k)) (f n) parts.0) (no_member ids f ks (n + 1) parts.1)

-- where pairs rise, no position is before an earlier one
not_risen : (order : List (ℕ × ℕ)) (i j : ℕ) → have_rising_pairs order ≡ true → j ≤ i → is_before order i j ≡ false
not_risen order i j rise le = none_of (λ p. ltb p.0 p.1) (λ p. eqb p.0 i && eqb p.1 j) (λ p w.
    false_from_ne_true _ (λ e.
    let same = and_parts (eqb p.0 i) (eqb p.1 j) e in
    let up : p.0 < p.1 = ltb-true _ _ w in
    let i_is : p.0 ≡ i = eqb-true _ _ same.0 in
    let j_is : p.1 ≡ j = eqb-true _ _ same.1 in
    omega arith)) order rise

module _ (order : List (ℕ × ℕ)) (ids : List ℕ) (kids : List Node) (first past : ℕ) (rise : IsTrue (have_rising_pairs order)) (span : SpansMembers ids kids first past) (j : ℕ) where
  abbrev leads : ℕ × Node → Bool
  leads k = is_member ids k && is_before order k.0 j

  abbrev follows : ℕ × Node → Bool
  follows k = is_member ids k && is_before order j k.0

  -- the kids below the first member lead nowhere
  pub after_from_first : is_after_some order ids (enumerate_from first (drop first kids)) j ≡ is_after_some order ids (enumerate_from 0 kids) j
  after_from_first =
      let none : has_member ids (take first kids) ≡ false = span.before first span.begins ∙ le-ltb first first (omega arith) in
      sym (any_split leads kids 0 first first (omega arith) span.begins ∙ ap (λ z. z || list_any leads (enumerate_from first (drop first kids))) (no_member ids (λ i. is_before order i j) (take first kids) 0 none))

  -- the kids from the position on don't lead to it
  pub after_none_from : (i : ℕ) → j ≤ i → is_after_some order ids (enumerate_from i (drop i kids)) j ≡ false
  after_none_from i le = none_at leads (drop i kids) i (λ k kid from below. and_right _ _ (not_risen order k j rise (omega arith)))

  -- the kids up to the position don't follow it
  pub before_from_next : j < length kids → is_before_some order ids (enumerate_from (j + 1) (drop (j + 1) kids)) j ≡ is_before_some order ids (enumerate_from 0 kids) j
  before_from_next lt =
      let none : list_any follows (enumerate_from 0 (take (j + 1) kids)) ≡ false =
      none_at follows (take (j + 1) kids) 0 (λ k kid from below. and_right _ _ (not_risen order j k rise (omega (arith, length-take (j + 1) kids)))) in
      sym (any_split follows kids 0 (j + 1) (j + 1) (omega arith) (omega arith) ∙ ap (λ z. z || list_any follows (enumerate_from (j + 1) (drop (j + 1) kids))) none)

  -- the kids behind the last member don't follow
  pub before_none_from : (i : ℕ) → past ≤ i → is_before_some order ids (enumerate_from i (drop i kids)) j ≡ false
  before_none_from i le = no_member ids (λ k. is_before order j k) (drop i kids) i (span.behind i ∙ le-ltb i past le)

  -- a kid below the first member is aside, and so is one behind the last
  pub aside_below : (kid : Node) → j < first → is_aside order ids (enumerate_from 0 kids) (j, kid) ≡ true
  aside_below kid lt =
      let none : is_after_some order ids (enumerate_from 0 kids) j ≡ false = sym after_from_first ∙ after_none_from first (omega arith) in
      or_right _ _ (not_from_false _ (and_left _ _ none))

  pub aside_behind : (kid : Node) → past ≤ j → is_aside order ids (enumerate_from 0 kids) (j, kid) ≡ true
  aside_behind kid le =
      let early : list_any follows (enumerate_from 0 (take past kids)) ≡ false =
      none_at follows (take past kids) 0 (λ k kid from below. and_right _ _ (not_risen order j k rise (omega (arith, length-take past kids)))) in
      let none : is_before_some order ids (enumerate_from 0 kids) j ≡ false =
      any_split follows kids 0 past past (omega arith) span.ends ∙ or_from _ _ early (before_none_from past (omega arith)) in
      or_right _ _ (not_from_false _ (and_right _ _ none))
