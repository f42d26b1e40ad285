-- What is read as a word, and as the key of a line, is spelled.
use Rattle.std.proofs.Common.{◌≡◌, ℕ, ◌+◌, ◌≤◌, Bool, true, false, cond, nat_le, List, [], ◌∷◌, ◌++◌, Some, None, Ok, Err, refl, ap, arith}
use Rattle.std.proofs.lemmas.Bool.Decides.{nat_tests}
use Rattle.std.proofs.lemmas.Slice.Eq.{bytes_eq-Decides}
use Rattle.std.specs.Str.{bytes_eq}
use Rattle.bd_base.specs.declared.text_err.Cause.TheVariants as cause
use Rattle.script_text.specs.Lines.{is_number, number_of}
use Rattle.script_text.specs.Reading.{Fault, Left, after_key, first_word, number_at, word_at, key_at, end_at, line_at, no_more}
use Rattle.script_text.proofs.ReadLemmas.{bind_ok, ok_is, needed_ok}

pub joined : (l m : List (List ℕ)) (xs ys : List (List (List ℕ))) → l ≡ m → xs ≡ ys → l ∷ xs ≡ m ∷ ys
joined l m xs ys e f = cc

pub cons2 : (a b : List ℕ) (xs ys : List (List ℕ)) → a ≡ b → xs ≡ ys → a ∷ xs ≡ b ∷ ys
cons2 a b xs ys e f = cc

pub key_back : (key : List ℕ) (ws rest : List (List ℕ)) → after_key key ws ≡ Some rest → ws ≡ key ∷ rest
key_back key [] rest e = cc
key_back key (w ∷ ws) rest e = by_test (bytes_eq w key) refl e
  where
    by_test : (t : Bool) → bytes_eq w key ≡ t → cond t (Some ws) None ≡ Some rest → w ∷ ws ≡ key ∷ rest
    by_test true p h = let q : w ≡ key = (bytes_eq-Decides w key).0 p in cc
    by_test false p h = cc

pub first_back : (ws : List (List ℕ)) (x : List ℕ × List (List ℕ)) → first_word ws ≡ Some x → ws ≡ x.0 ∷ x.1
first_back [] x e = cc
first_back (w ∷ ws) x e = let h : (w, ws) ≡ x = cc in ap (λ (y : List ℕ × List (List ℕ)). y.0 ∷ y.1) h

pub end_back : (place : ℕ) (ws : List (List ℕ)) (u : Unit {0}) → end_at place ws ≡ Ok u → ws ≡ []
end_back place [] u e = refl
end_back place (w ∷ ws) u e = cc

pub word_back : (place : ℕ) (ws : List (List ℕ)) (x : List ℕ × List (List ℕ)) → word_at place ws ≡ Ok x → ws ≡ x.0 ∷ x.1
word_back place ws x e = first_back ws x (needed_ok _ (first_word ws) x e)

pub number_back : (most place : ℕ) (w : List ℕ) (n : ℕ) → number_at most place w ≡ Ok n → (is_number w ≡ true) × (number_of w ≡ n) × (number_of w ≤ most)
number_back most place w n e = by_test (place, cause.BadNumber w) (place, cause.Shape) (is_number w) (nat_le (number_of w) most) refl refl e
  where
    by_test : (A B : Fault) (s t : Bool) → is_number w ≡ s → nat_le (number_of w) most ≡ t → cond s (cond t (Ok (number_of w)) (Err A)) (Err B) ≡ Ok n → (is_number w ≡ true) × (number_of w ≡ n) × (number_of w ≤ most)
    by_test A B true true p q h = (p, cc, grind (arith, nat_tests))
    by_test A B true false p q h = cc
    by_test A B false t p q h = cc

pub app2 : (a b : List (List ℕ)) (xs ys : List (List ℕ)) → a ≡ b → xs ≡ ys → a ++ xs ≡ b ++ ys
app2 a b xs ys e f = cc

pub line_back : (key : List ℕ) (left : Left) (x : List (List ℕ) × Left) → line_at key left ≡ Ok x → left.1 ≡ (key ∷ x.0) ∷ x.1.1
line_back key left x e = by_lines left.0 left.1 e
  where
    by_lines : (n : ℕ) (ls : List (List (List ℕ))) → line_at key (n, ls) ≡ Ok x → ls ≡ (key ∷ x.0) ∷ x.1.1
    by_lines n [] h = cc
    by_lines n (l ∷ ls) h =
        let b = bind_ok (key_at n key l) _ x h in
        let y : x ≡ (b.0, (n + 1, ls)) = ok_is _ _ _ refl b.2 in
        rw y (joined _ _ _ _ (key_back key l b.0 (needed_ok _ (after_key key l) b.0 b.1)) refl)

-- the lines behind a line begin one later
pub line_next : (key : List ℕ) (left : Left) (x : List (List ℕ) × Left) → line_at key left ≡ Ok x → x.1.0 ≡ left.0 + 1
line_next key left x e = by_lines left.0 left.1 e
  where
    by_lines : (n : ℕ) (ls : List (List (List ℕ))) → line_at key (n, ls) ≡ Ok x → x.1.0 ≡ n + 1
    by_lines n [] h = cc
    by_lines n (l ∷ ls) h =
        let b = bind_ok (key_at n key l) _ x h in
        let y : x ≡ (b.0, (n + 1, ls)) = ok_is _ _ _ refl b.2 in
        ap (λ (z : List (List ℕ) × Left). z.1.0) y

pub no_more_back : (left : Left) (u : Unit {0}) → no_more left ≡ Ok u → left.1 ≡ []
no_more_back left u e = by_lines left.0 left.1 e
  where
    by_lines : (n : ℕ) (ls : List (List (List ℕ))) → no_more (n, ls) ≡ Ok u → ls ≡ []
    by_lines n [] h = refl
    by_lines n (l ∷ ls) h = cc

pub after_lines : (a b xs ys : List (List (List ℕ))) → a ≡ b → xs ≡ ys → a ++ xs ≡ b ++ ys
after_lines a b xs ys e f = cc
