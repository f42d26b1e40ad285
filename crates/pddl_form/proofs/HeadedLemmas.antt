-- What a list with a head that was read is, as a tree.
use Rattle.std.proofs.Common.{◌≡◌, ℕ, Bool, true, false, cond, List, [], ◌∷◌, Result, Ok, Err, refl, ap, ◌∙◌}
use Rattle.pddl_lex.specs.declared.sexp.Sexp.{Sexp}
use Rattle.pddl_lex.specs.declared.sexp.Sexp.TheOpen.{Sexp-F}
use Rattle.pddl_lex.specs.declared.sexp.Sexp.TheViews.{out-Sexp}
use Rattle.pddl_form.specs.Fault.{Fault, ◌>>=◌}
use Rattle.pddl_form.specs.Trees.{Named, Headed, must, word_in, word_at, list_in, list_at, headed_by, head_at}
use Rattle.pddl_form.specs.Spells.{IsWord}
use Rattle.pddl_form.proofs.Laws.{bind_ok}

pub word_back : (l : Sexp-F Sexp) (w : Named) → word_in l ≡ Ok w → l ≡ Sexp-F.Word w.0 w.1
word_back (Sexp-F.Word place text) w e = let is : (place, text) ≡ w = cc in ap (λ (v : Named). Sexp-F.Word v.0 v.1) is
word_back (Sexp-F.List place items) w e = cc

pub list_back : (l : Sexp-F Sexp) (r : ℕ × List Sexp) → list_in l ≡ Ok r → l ≡ Sexp-F.List r.0 r.1
list_back (Sexp-F.Word place text) r e = cc
list_back (Sexp-F.List place items) r e = let is : (place, items) ≡ r = cc in ap (λ (v : ℕ × List Sexp). Sexp-F.List v.0 v.1) is

-- a list with a head, as a tree
pub record IsHeaded (tree : Sexp) (h : Headed) : Type 0 where
  pub head : Sexp
  pub whole : out-Sexp tree ≡ Sexp-F.List h.place (head ∷ h.items)
  pub named : IsWord head h.head

headed_back : (place : ℕ) (items : List Sexp) (h : Headed) → headed_by place items ≡ Ok h → (head : Sexp) × (items ≡ head ∷ h.items) × (place ≡ h.place) × IsWord head h.head
headed_back place [] h e = cc
headed_back place (x ∷ items) h e =
    let b = bind_ok (word_at x) (λ w. Ok (record { place = place; head = w; items = items })) h e in
    let is : record { place = place; head = b.0; items = items } ≡ h = cc in
    (x, ap (λ (k : Headed). x ∷ k.items) is, ap (λ (k : Headed). k.place) is, word_back (out-Sexp x) h.head (b.1 ∙ ap (λ (k : Headed). Ok k.head) is))

pub head_back : (tree : Sexp) (h : Headed) → head_at tree ≡ Ok h → IsHeaded tree h
head_back tree h e =
    let b = bind_ok (list_at tree) (λ l. headed_by l.0 l.1) h e in
    let k = headed_back b.0.0 b.0.1 h b.2 in
    record { head = k.0; whole = list_back (out-Sexp tree) b.0 b.1 ∙ ap (λ (p : ℕ). Sexp-F.List p b.0.1) k.2 ∙ ap (λ (xs : List Sexp). Sexp-F.List h.place xs) k.1; named = k.3 }

pub free_back : (t : Bool) (f : Fault) (u : Unit {0}) → cond t (Err f) (Ok tt) ≡ Ok u → t ≡ false
free_back true f u e = cc
free_back false f u e = refl

pub must_back : (t : Bool) (place : ℕ) (u : Unit {0}) → must t place ≡ Ok u → t ≡ true
must_back true place u e = refl
must_back false place u e = cc
