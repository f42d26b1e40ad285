-- The body makes a candidate's tree step by step, and stops where the candidate doesn't fit.
use Rattle.std.proofs.Common.{◌≡◌, ℕ, ◌+◌, ◌≤◌, true, false, not, ◌&&◌, List, [], ◌∷◌, sym, ap, ◌∙◌, subst, arith}
use Rattle.std.proofs.lemmas.Bool.{false_from_ne_true}
use Rattle.bd_tree.specs.declared.node.Node.{Node}
use Rattle.bd_tree.specs.Tree.{nodes_of}
use Rattle.bd_tree.specs.WellFormed.{IsWellFormed}
use Rattle.bd_shape.specs.Grouped.{CanGroup, count_taken, grouped, side_id}
use Rattle.bd_shape.specs.Hull.{between_at}
use Rattle.bd_shape.specs.Kids.{convex_at}
use Rattle.bd_shape.specs.Measures.{AddUpAlike, AddsUp}
use Rattle.bd_shape.specs.Tightened.{both_grouped, right_fresh}
use Rattle.bd_shape.specs.Unordered.{CanUnorder, unordered}
use Rattle.bd_tight.specs.declared.gain.Gain.{Gain}
use Rattle.bd_tight.specs.Candidates.{fits, fresh_of}
use Rattle.bd_tight.specs.Gains.{Makes, MakesBoth, are_short}
use Rattle.bd_tight.proofs.AlikeLemmas.{below_alike}
use Rattle.bd_tight.proofs.FitLemmas.{both_unorder, fit_from, fit_parts, right_groups}

taken_few : (ids : List ℕ) → count_taken ids ≤ 1
taken_few [] = omega arith
taken_few (i ∷ []) = omega arith
taken_few (i ∷ j ∷ more) = omega arith

alike_through : (a b c : Node) → AddUpAlike a b → AddUpAlike b c → AddUpAlike a c
alike_through a b c first second = λ (g : Node → ℕ) (up : AddsUp g). second g up ∙ first g up

module _ (root : Node) (span : ℕ) (c : Gain) where
  pub short_fails : are_short span c.left c.right ≡ false → fits root span c ≡ false
  short_fails e = ap (λ z. z && convex_at c.block c.right (grouped root c.block c.left (fresh_of root))
      && not (between_at c.block (side_id c.left (fresh_of root)) (side_id c.right (right_fresh c.left (fresh_of root))) (both_grouped root c.block c.left c.right (fresh_of root)))) e

  module _ (well : IsWellFormed root) (left : CanGroup root c.block c.left) (right : CanGroup root c.block c.right) (short : are_short span c.left c.right ≡ true) (next : ℕ) (is_next : next ≡ fresh_of root) (first : Node) (is_first : first ≡ grouped root c.block c.left next) where
    first_is : first ≡ grouped root c.block c.left (fresh_of root)
    first_is = is_first ∙ ap (grouped root c.block c.left) is_next

    pub group_fails : (CanGroup first c.block c.right → ⊥) → fits root span c ≡ false
    group_fails cannot = false_from_ne_true (fits root span c)
        (λ e. cannot (subst (λ (t : Node). CanGroup t c.block c.right) (sym first_is) (right_groups root span c well left right short (fit_parts root span c well left right e).convex)))

    module _ (groups : CanGroup first c.block c.right) (free : ℕ) (is_free : free ≡ right_fresh c.left next) (both : Node) (is_both : both ≡ grouped first c.block c.right free) where
      free_is : free ≡ right_fresh c.left (fresh_of root)
      free_is = is_free ∙ ap (right_fresh c.left) is_next

      both_is : both ≡ both_grouped root c.block c.left c.right (fresh_of root)
      both_is = is_both ∙ ap (λ (t : Node). grouped t c.block c.right free) first_is ∙ ap (grouped (grouped root c.block c.left (fresh_of root)) c.block c.right) free_is

      groups_there : CanGroup (grouped root c.block c.left (fresh_of root)) c.block c.right
      groups_there = subst (λ (t : Node). CanGroup t c.block c.right) first_is groups

      module _ (one : ℕ) (is_one : one ≡ side_id c.left next) (two : ℕ) (is_two : two ≡ side_id c.right free) where
        one_is : one ≡ side_id c.left (fresh_of root)
        one_is = is_one ∙ ap (side_id c.left) is_next

        two_is : two ≡ side_id c.right (right_fresh c.left (fresh_of root))
        two_is = is_two ∙ ap (side_id c.right) free_is

        pub unorder_fails : (CanUnorder both c.block one two → ⊥) → fits root span c ≡ false
        unorder_fails cannot = false_from_ne_true (fits root span c) (λ e. cannot
            (subst (λ (t : Node). CanUnorder t c.block one two) (sym both_is)
            (subst (CanUnorder (both_grouped root c.block c.left c.right (fresh_of root)) c.block one) (sym two_is)
            (subst (λ (i : ℕ). CanUnorder (both_grouped root c.block c.left c.right (fresh_of root)) c.block i (side_id c.right (right_fresh c.left (fresh_of root)))) (sym one_is)
            (both_unorder root span c well left right short groups_there (fit_parts root span c well left right e).free)))))

        pub both_made : CanUnorder both c.block one two → nodes_of first ≡ nodes_of root + count_taken c.left → nodes_of both ≡ nodes_of first + count_taken c.right → AddUpAlike root first → AddUpAlike first both → MakesBoth root span c both
        both_made can nodes_first nodes_both alike_first alike_both =
            let unorders : CanUnorder both c.block (side_id c.left (fresh_of root)) (side_id c.right (right_fresh c.left (fresh_of root))) =
            subst (CanUnorder both c.block (side_id c.left (fresh_of root))) two_is (subst (λ (i : ℕ). CanUnorder both c.block i two) one_is can) in
            record {
              fit = fit_from root span c well left right short groups_there (subst (λ (t : Node). CanUnorder t c.block (side_id c.left (fresh_of root)) (side_id c.right (right_fresh c.left (fresh_of root)))) both_is unorders);
              is = both_is;
              unorders = unorders;
              few = omega (arith, nodes_first, nodes_both, taken_few c.left, taken_few c.right);
              alike = alike_through root first both alike_first alike_both;
            }

  -- and then the two are unordered
  pub made : (both t : Node) → MakesBoth root span c both → (next : ℕ) → next ≡ fresh_of root → t ≡ unordered both c.block (side_id c.left next) (side_id c.right (right_fresh c.left next)) → AddUpAlike both t → nodes_of t ≡ nodes_of both → Makes root span c t
  made both t m next is_next is alike nodes = record {
    fit = m.fit;
    is = is ∙ ap (λ (n : ℕ). unordered both c.block (side_id c.left n) (side_id c.right (right_fresh c.left n))) is_next ∙ ap (λ (b : Node). unordered b c.block (side_id c.left (fresh_of root)) (side_id c.right (right_fresh c.left (fresh_of root)))) m.is;
    few = omega (arith, nodes, m.few);
    below = λ n h. below_alike n root t (alike_through root both t m.alike alike) h;
  }

  pub can_then : (both : Node) → MakesBoth root span c both → (next : ℕ) → next ≡ fresh_of root → CanUnorder both c.block (side_id c.left next) (side_id c.right (right_fresh c.left next))
  can_then both m next is_next = subst (λ (n : ℕ). CanUnorder both c.block (side_id c.left n) (side_id c.right (right_fresh c.left n))) (sym is_next) m.unorders
