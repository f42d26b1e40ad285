-- The parts of a word and of a list.
use Rattle.std.proofs.Common.{◌≡◌, ℕ, zero, suc, ◌≤◌, true, false, cond, List, [], ◌∷◌, ◌++◌, map, length, drop, codes, refl, sym, ap, ◌∙◌, arith, Bor}
use Rattle.std.proofs.lemmas.List.{append-nil}
use Rattle.pddl_lex.specs.declared.sexp.Sexp.{Sexp, Word, List as ListOf}
use Rattle.pddl_lex.specs.declared.sexp.Sexp.TheOpen.{Sexp-F}
use Rattle.pddl_lex.specs.declared.sexp.Sexp.TheFolds.{para-roll-Sexp}
use Rattle.pddl_lex.specs.declared.sexp.Sexp.TheViews.{rolls-Word, rolls-List}
use Rattle.pddl_form.specs.Trees.{is_word}
use Rattle.pddl_form.specs.Parts.{joined, parts_step, parts_of}

pub parts-Word : (place : ℕ) (text : List ℕ) → parts_of (Word place text) ≡ Word place text ∷ []
parts-Word place text = ap parts_of (sym (rolls-Word place text)) ∙ para-roll-Sexp (List Sexp) parts_step (Sexp-F.Word place text)

firsts : (items : List Sexp) → map (λ (k : Sexp × List Sexp). k.0) (map (λ (k : Sexp). (k, parts_of k)) items) ≡ items
firsts [] = refl
firsts (x ∷ items) = ap (λ (xs : List Sexp). x ∷ xs) (firsts items)

seconds : (items : List Sexp) → map (λ (k : Sexp × List Sexp). k.1) (map (λ (k : Sexp). (k, parts_of k)) items) ≡ map parts_of items
seconds [] = refl
seconds (x ∷ items) = ap (λ (xs : List (List Sexp)). parts_of x ∷ xs) (seconds items)

abbrev pub parts_in : ℕ → List Sexp → List Sexp
parts_in place [] = []
parts_in place (h ∷ items) = cond (is_word (codes "and") h) (joined (map parts_of items)) (ListOf place (h ∷ items) ∷ [])

by_items : (place : ℕ) (items : List Sexp) → parts_step (Sexp-F.List place (map (λ (k : Sexp). (k, parts_of k)) items)) ≡ parts_in place items
by_items place [] = refl
by_items place (h ∷ items) = rw (firsts items, seconds items) refl

pub parts-List : (place : ℕ) (items : List Sexp) → parts_of (ListOf place items) ≡ parts_in place items
parts-List place items = ap parts_of (sym (rolls-List place items)) ∙ para-roll-Sexp (List Sexp) parts_step (Sexp-F.List place items) ∙ by_items place items

-- what the code's branches say

pushed : (xs : List (Bor Sexp)) (x : Bor Sexp) → map (λ (p : Bor Sexp). p.now) (xs ++ x ∷ []) ≡ map (λ (p : Bor Sexp). p.now) xs ++ x.now ∷ []
pushed [] x = refl
pushed (y ∷ xs) x = ap (λ (all : List Sexp). y.now ∷ all) (pushed xs x)

pub one_part : (old new : List (Bor Sexp)) (tree : Bor Sexp) → new ≡ old ++ tree ∷ [] → parts_of tree.now ≡ tree.now ∷ [] → map (λ (p : Bor Sexp). p.now) new ≡ map (λ (p : Bor Sexp). p.now) old ++ parts_of tree.now
one_part old new tree e is = ap (map (λ (p : Bor Sexp). p.now)) e ∙ pushed old tree ∙ ap (λ (xs : List Sexp). map (λ (p : Bor Sexp). p.now) old ++ xs) (sym is)

pub word_is_one : (tree : Sexp) (place : ℕ) (text : List ℕ) → tree ≡ Word place text → parts_of tree ≡ tree ∷ []
word_is_one tree place text e = rw e (parts-Word place text)

parts_by : (tree : Sexp) (place : ℕ) (items slice : List Sexp) → tree ≡ ListOf place items → slice ≡ items → parts_of tree ≡ parts_in place slice
parts_by tree place items slice e s = ap parts_of e ∙ parts-List place items ∙ ap (parts_in place) (sym s)

pub list_is_one : (tree : Sexp) (place : ℕ) (items slice : List Sexp) (head : Sexp) (rest : List Sexp) → tree ≡ ListOf place items → slice ≡ items → slice ≡ head ∷ rest → is_word (codes "and") head ≡ false → parts_of tree ≡ tree ∷ []
list_is_one tree place items slice head rest e s h t = parts_by tree place items slice e s ∙ ap (parts_in place) h ∙ rw t (ap (λ (xs : List Sexp). ListOf place xs ∷ []) (sym h ∙ s) ∙ ap (λ (x : Sexp). x ∷ []) (sym e))

pub no_part : (xs : List Sexp) (tree : Sexp) (place : ℕ) (items slice : List Sexp) → tree ≡ ListOf place items → slice ≡ items → length slice ≡ 0 → xs ≡ xs ++ parts_of tree
no_part xs tree place items [] e s l = sym (append-nil xs) ∙ ap (λ (ys : List Sexp). xs ++ ys) (sym (parts_by tree place items [] e s))
no_part xs tree place items (x ∷ slice) e s l = absurd (omega arith)

none_left : (n : ℕ) (xs : List Sexp) → length xs ≤ n → drop n xs ≡ []
none_left zero [] l = refl
none_left zero (x ∷ xs) l = absurd (omega arith)
none_left (suc n) [] l = refl
none_left (suc n) (x ∷ xs) l = none_left n xs (omega arith)

pub and_parts : (before after : List Sexp) (n : ℕ) (tree : Sexp) (place : ℕ) (items slice : List Sexp) (head : Sexp) (rest : List Sexp) → after ++ joined (map parts_of (drop n rest)) ≡ before ++ joined (map parts_of rest) → length rest ≤ n
    → tree ≡ ListOf place items → slice ≡ items → slice ≡ head ∷ rest → is_word (codes "and") head ≡ true → after ≡ before ++ parts_of tree
and_parts before after n tree place items slice head rest i l e s h t =
    let parts : parts_of tree ≡ joined (map parts_of rest) = parts_by tree place items slice e s ∙ ap (parts_in place) h ∙ rw t refl in
    sym (append-nil after) ∙ ap (λ (xs : List Sexp). after ++ joined (map parts_of xs)) (sym (none_left n rest l)) ∙ i ∙ ap (λ (xs : List Sexp). before ++ xs) (sym parts)
