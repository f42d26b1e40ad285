-- Words, names and lists with a head, as trees.
use Rattle.std.specs.Prelude.{ℕ, ◌==◌, ◌&&◌, Bool, true, false, not, cond, nat_lt, List, [], ◌∷◌, Result, Ok, Err, codes}
use Rattle.std.specs.Str.{bytes_eq}
use Rattle.std.specs.List.{list_all}
use Rattle.bd_base.specs.declared.text_err.Cause.TheVariants as cause
use Rattle.pddl_lex.specs.declared.sexp.Sexp.{Sexp}
use Rattle.pddl_lex.specs.declared.sexp.Sexp.TheOpen.{Sexp-F}
use Rattle.pddl_lex.specs.declared.sexp.Sexp.TheViews.{out-Sexp}
use Rattle.pddl_form.specs.Fault.{Fault, ◌>>=◌}

-- a word with its place
abbrev pub Named : Type 0
Named = ℕ × List ℕ

abbrev pub place_in : Sexp-F Sexp → ℕ
place_in (Sexp-F.Word place text) = place
place_in (Sexp-F.List place items) = place

abbrev pub place_at : Sexp → ℕ
place_at tree = place_in (out-Sexp tree)

abbrev pub word_in : Sexp-F Sexp → Result Named Fault
word_in (Sexp-F.Word place text) = Ok (place, text)
word_in (Sexp-F.List place items) = Err (place, cause.Shape)

-- the word that stands where only one may
abbrev pub word_at : Sexp → Result Named Fault
word_at tree = word_in (out-Sexp tree)

abbrev pub list_in : Sexp-F Sexp → Result (ℕ × List Sexp) Fault
list_in (Sexp-F.Word place text) = Err (place, cause.Shape)
list_in (Sexp-F.List place items) = Ok (place, items)

-- the list that stands where only one may
abbrev pub list_at : Sexp → Result (ℕ × List Sexp) Fault
list_at tree = list_in (out-Sexp tree)

abbrev pub begins : ℕ → List ℕ → Bool
begins b [] = false
begins b (c ∷ cs) = c == b

-- a byte that a word may have
abbrev pub is_seen : ℕ → Bool
is_seen b = nat_lt 32 b && nat_lt b 127

-- neither a variable nor a keyword nor `-`
abbrev pub is_name : List ℕ → Bool
is_name [] = false
is_name (b ∷ bs) = list_all is_seen (b ∷ bs) && not (b == 63) && not (b == 58) && not (bytes_eq (b ∷ bs) (codes "-"))

-- `?` and more
abbrev pub is_variable : List ℕ → Bool
is_variable [] = false
is_variable (b ∷ []) = false
is_variable (b ∷ c ∷ cs) = b == 63

-- the test must hold
abbrev pub must : Bool → ℕ → Result (Unit {0}) Fault
must true place = Ok tt
must false place = Err (place, cause.Shape)

abbrev pub unless_odd : Bool → Named → Result Named Fault
unless_odd true word = Ok word
unless_odd false word = Err (word.0, cause.Shape)

abbrev pub name_at : Sexp → Result Named Fault
name_at tree = word_at tree >>= λ w. unless_odd (is_name w.1) w

abbrev pub variable_at : Sexp → Result Named Fault
variable_at tree = word_at tree >>= λ w. unless_odd (is_variable w.1) w

abbrev pub is_in : List ℕ → Sexp-F Sexp → Bool
is_in key (Sexp-F.Word place text) = bytes_eq text key
is_in key (Sexp-F.List place items) = false

-- whether it is that word
abbrev pub is_word : List ℕ → Sexp → Bool
is_word key tree = is_in key (out-Sexp tree)

-- the word that must be this one
abbrev pub key_at : List ℕ → Sexp → Result (Unit {0}) Fault
key_at key tree = cond (is_word key tree) (Ok tt) (Err (place_at tree, cause.Shape))

-- a list with a head: its place, the head and the items behind it
pub record Headed : Type 0 where
  pub place : ℕ
  pub head : Named
  pub items : List Sexp

abbrev pub headed_by : ℕ → List Sexp → Result Headed Fault
headed_by place [] = Err (place, cause.Shape)
headed_by place (h ∷ items) = word_at h >>= λ w. Ok (record { place = place; head = w; items = items })

abbrev pub head_at : Sexp → Result Headed Fault
head_at tree = list_at tree >>= λ l. headed_by l.0 l.1

-- no items are left
abbrev pub end_at : List Sexp → Result (Unit {0}) Fault
end_at [] = Ok tt
end_at (x ∷ xs) = Err (place_at x, cause.Shape)

-- the one item of a list, by the list's place
abbrev pub first_at : ℕ → List Sexp → Result (Sexp × List Sexp) Fault
first_at place [] = Err (place, cause.Shape)
first_at place (x ∷ xs) = Ok (x, xs)
