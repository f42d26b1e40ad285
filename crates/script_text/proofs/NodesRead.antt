-- Nodes that are spelled are read.
use Rattle.std.proofs.Common.{◌≡◌, ℕ, suc, ◌+◌, ◌<◌, ◌≤◌, Bool, true, false, cond, not, ◌&&◌, ◌||◌, ◌==◌, List, [], ◌∷◌, ◌++◌, Option, Some, None, Result, Ok, Err, length, nat_le, take, drop, codes, refl, sym, ap, subst, ◌∙◌, arith, append_assoc}
use Rattle.std.proofs.Math.Seq.{take-append_seam, drop-append_seam}
use Rattle.std.proofs.lemmas.Bool.Decides.{nat_tests}
use Rattle.std.proofs.lemmas.List.{append-nil}
use Rattle.std.specs.List.{list_all, position_or_len}
use Rattle.std.specs.Str.{bytes_eq}
use Rattle.bd_tree.specs.declared.node.Node.{Node, Step, Block}
use Rattle.script_text.specs.Lines.{in_parens, is_digit, is_number, is_name, number_of, is_empty_list}
use Rattle.script_text.specs.Names.{place_of}
use Rattle.script_text.specs.Nodes.{is_mark, before_mark, from_mark, before_less, from_less, Open, Nest, empty_block, no_nodes, is_flat, add_kid, opened, node_behind, node_at, closed, set_pairs, pairs_in, pair_at, read_in, read_word, nodes_until, ends_kids, kids_of, kids_until, is_done, only, root_of, root_at}
use Rattle.script_text.specs.SpellsNodes.{IsId, IsPair, ArePairs, step_word, block_words, SpellsNode, written_step, written_block, SpellsNodes, written_none, written_more}
use Rattle.script_text.proofs.WordsReadLemmas.{known, le_true}

pub both_left : (a b : Bool) → (a && b) ≡ true → a ≡ true
both_left true b e = refl
both_left false b e = cc

pub both_right : (a b : Bool) → (a && b) ≡ true → b ≡ true
both_right true b e = e
both_right false b e = cc

or_true : (a : Bool) → (a || true) ≡ true
or_true true = refl
or_true false = refl

-- words that begin with digits

digit_no_mark : (b : ℕ) → is_digit b ≡ true → is_mark b ≡ false
digit_no_mark b e = grind (arith, nat_tests)

digit_no_less : (b : ℕ) → is_digit b ≡ true → (b == 60) ≡ false
digit_no_less b e = grind (arith, nat_tests)

digit_no_with : (b : ℕ) → is_digit b ≡ true → (b == 119) ≡ false
digit_no_with b e = grind (arith, nat_tests)

digit_no_right : (b : ℕ) → is_digit b ≡ true → (b == 114) ≡ false
digit_no_right b e = grind (arith, nat_tests)

digit_no_bar : (b : ℕ) → is_digit b ≡ true → (b == 124) ≡ false
digit_no_bar b e = grind (arith, nat_tests)

digit_no_brace : (b : ℕ) → is_digit b ≡ true → (b == 125) ≡ false
digit_no_brace b e = grind (arith, nat_tests)

pub number_digits : (digits : List ℕ) → is_number digits ≡ true → list_all is_digit digits ≡ true
number_digits [] e = cc
number_digits (b ∷ bs) e = both_left (list_all is_digit (b ∷ bs)) _ e

-- a word whose first byte is a digit
abbrev Begins : List ℕ → Type 0
Begins w = (b : ℕ) × (bs : List ℕ) × (w ≡ b ∷ bs) × (is_digit b ≡ true)

begins : (digits rest : List ℕ) → is_number digits ≡ true → Begins (digits ++ rest)
begins [] rest e = cc
begins (b ∷ bs) rest e = (b, bs ++ rest, refl, both_left (is_digit b) (list_all is_digit bs) (number_digits (b ∷ bs) e))

no_with : (w : List ℕ) → Begins w → bytes_eq w (codes "with") ≡ false
no_with w h = rw (h.2, digit_no_with h.0 h.3) refl

pub no_right : (w : List ℕ) → is_number w ≡ true → bytes_eq w (codes "right") ≡ false
no_right [] e = cc
no_right (b ∷ bs) e = rw (digit_no_right b (both_left (is_digit b) (list_all is_digit bs) (number_digits (b ∷ bs) e))) refl

no_bar : (w : List ℕ) → Begins w → bytes_eq w (codes "|") ≡ false
no_bar w h = rw (h.2, digit_no_bar h.0 h.3) refl

no_brace : (w : List ℕ) → Begins w → bytes_eq w (codes "}") ≡ false
no_brace w h = rw (h.2, digit_no_brace h.0 h.3) refl

mark_behind : (mark : ℕ) (digits rest : List ℕ) → is_mark mark ≡ true → list_all is_digit digits ≡ true → position_or_len is_mark (digits ++ mark ∷ rest) ≡ length digits
mark_behind mark [] rest m e = rw m refl
mark_behind mark (b ∷ bs) rest m e = rw (digit_no_mark b (both_left (is_digit b) (list_all is_digit bs) e)) (omega (arith, mark_behind mark bs rest m (both_right (is_digit b) (list_all is_digit bs) e)))

less_behind : (digits rest : List ℕ) → list_all is_digit digits ≡ true → position_or_len (λ b. b == 60) (digits ++ 60 ∷ rest) ≡ length digits
less_behind [] rest e = refl
less_behind (b ∷ bs) rest e = rw (digit_no_less b (both_left (is_digit b) (list_all is_digit bs) e)) (omega (arith, less_behind bs rest (both_right (is_digit b) (list_all is_digit bs) e)))

before_is : (mark : ℕ) (digits rest : List ℕ) → is_mark mark ≡ true → is_number digits ≡ true → before_mark (digits ++ mark ∷ rest) ≡ digits
before_is mark digits rest m e = rw (mark_behind mark digits rest m (number_digits digits e)) (take-append_seam digits (mark ∷ rest))

from_is : (mark : ℕ) (digits rest : List ℕ) → is_mark mark ≡ true → is_number digits ≡ true → from_mark (digits ++ mark ∷ rest) ≡ mark ∷ rest
from_is mark digits rest m e = rw (mark_behind mark digits rest m (number_digits digits e)) (drop-append_seam digits (mark ∷ rest))

before_less_is : (digits rest : List ℕ) → is_number digits ≡ true → before_less (digits ++ 60 ∷ rest) ≡ digits
before_less_is digits rest e = rw (less_behind digits rest (number_digits digits e)) (take-append_seam digits (60 ∷ rest))

from_less_is : (digits rest : List ℕ) → is_number digits ≡ true → from_less (digits ++ 60 ∷ rest) ≡ 60 ∷ rest
from_less_is digits rest e = rw (less_behind digits rest (number_digits digits e)) (drop-append_seam digits (60 ∷ rest))

-- one word

step_at : (declared : List (List ℕ)) (place : ℕ) (digits name : List ℕ) (action : ℕ) (nest : Nest) → IsId digits → is_name name ≡ true → place_of name declared ≡ Some action
    → node_at declared place (step_word digits name) nest ≡ Ok (add_kid (Step (number_of digits) action) nest)
unfolding node_at
step_at declared place digits name action nest id n p =
    rw (before_is 58 digits (in_parens name) refl id.0, from_is 58 digits (in_parens name) refl id.0, id.0, le_true 4_294_967_295 _ id.1, known declared place name action n p) refl

step_read : (declared : List (List ℕ)) (place : ℕ) (digits name : List ℕ) (action : ℕ) (nest : Nest) → nest.inner.pairs ≡ None → IsId digits → is_name name ≡ true → place_of name declared ≡ Some action
    → read_word declared place (step_word digits name) nest ≡ Ok (add_kid (Step (number_of digits) action) nest)
step_read declared place digits name action nest e id n p =
    ap (read_in declared place (step_word digits name) nest) e
    ∙ rw (no_bar (step_word digits name) (begins digits (58 ∷ in_parens name) id.0), or_true (is_flat nest)) (step_at declared place digits name action nest id n p)

few : (n : ℕ) → n < 64 → nat_le 64 n ≡ false
few n h = grind (arith, nat_tests)

abbrev inside : ℕ → Nest → Nest
inside id nest = record { inner = empty_block id; outer = nest.inner ∷ nest.outer }

open_at : (declared : List (List ℕ)) (place : ℕ) (digits : List ℕ) (nest : Nest) → IsId digits → length nest.outer < 64
    → node_at declared place (digits ++ 123 ∷ []) nest ≡ Ok (inside (number_of digits) nest)
unfolding node_at
open_at declared place digits nest id lt =
    rw (before_is 123 digits [] refl id.0, from_is 123 digits [] refl id.0, id.0, le_true 4_294_967_295 _ id.1, few (length nest.outer) lt) refl

open_read : (declared : List (List ℕ)) (place : ℕ) (digits : List ℕ) (nest : Nest) → nest.inner.pairs ≡ None → IsId digits → length nest.outer < 64
    → read_word declared place (digits ++ 123 ∷ []) nest ≡ Ok (inside (number_of digits) nest)
open_read declared place digits nest e id lt =
    ap (read_in declared place (digits ++ 123 ∷ []) nest) e
    ∙ rw (no_bar (digits ++ 123 ∷ []) (begins digits (123 ∷ []) id.0), or_true (is_flat nest)) (open_at declared place digits nest id lt)

pub pair_is : (place : ℕ) (word : List ℕ) (pair : ℕ × ℕ) → IsPair word pair → pair_at place word ≡ Ok pair
unfolding pair_at
pair_is place word pair h =
    rw (h.written, before_less_is h.first h.second h.first_id.0, from_less_is h.first h.second h.first_id.0, h.first_id.0, le_true 4_294_967_295 _ h.first_id.1, h.second_id.0, le_true 4_294_967_295 _ h.second_id.1, h.whole) refl

pair_begins : (word : List ℕ) (pair : ℕ × ℕ) → IsPair word pair → Begins word
pair_begins word pair h = subst Begins (sym h.written) (begins h.first (60 ∷ h.second) h.first_id.0)

-- nodes, where the reading doesn't stop

abbrev Stops : Type 0
Stops = Nest → List ℕ → Bool

-- nothing stops it inside a block
abbrev IsCalm : Stops → Type 0
IsCalm stops = (nest : Nest) (w : List ℕ) → is_flat nest ≡ false → stops nest w ≡ false

-- the nest with more nodes
abbrev add_kids : List Node → Nest → Nest
add_kids kids nest = record { inner = record { id = nest.inner.id; kids = nest.inner.kids ++ kids; pairs = nest.inner.pairs }; outer = nest.outer }

pairs_read : (declared : List (List ℕ)) (place : ℕ) (stops : Stops) → IsCalm stops → (nest : Nest) → is_flat nest ≡ false → (done : List (ℕ × ℕ)) (words : List (List ℕ)) (pairs : List (ℕ × ℕ)) (rest : List (List ℕ)) → ArePairs words pairs
    → nodes_until declared place stops (set_pairs done nest) (words ++ rest) ≡ nodes_until declared place stops (set_pairs (done ++ pairs) nest) rest
pairs_read declared place stops calm nest deep done [] [] rest h = ap (λ (ps : List (ℕ × ℕ)). nodes_until declared place stops (set_pairs ps nest) rest) (sym (append-nil done))
pairs_read declared place stops calm nest deep done [] (p ∷ pairs) rest h = absurd h
pairs_read declared place stops calm nest deep done (w ∷ words) [] rest h = absurd h
pairs_read declared place stops calm nest deep done (w ∷ words) (p ∷ pairs) rest h =
    rw (calm (set_pairs done nest) w deep, no_brace w (pair_begins w p h.0), pair_is place w p h.0)
    (pairs_read declared place stops calm nest deep (done ++ p ∷ []) words pairs rest h.1 ∙ ap (λ (ps : List (ℕ × ℕ)). nodes_until declared place stops (set_pairs ps nest) rest) (append_assoc done (p ∷ []) pairs))

behind_kids : (kids pairs rest : List (List ℕ)) → (kids ++ (124 ∷ []) ∷ (pairs ++ (125 ∷ []) ∷ [])) ++ rest ≡ kids ++ (124 ∷ []) ∷ (pairs ++ (125 ∷ []) ∷ rest)
behind_kids kids pairs rest = append_assoc kids ((124 ∷ []) ∷ (pairs ++ (125 ∷ []) ∷ [])) rest ∙ ap (λ (ws : List (List ℕ)). kids ++ (124 ∷ []) ∷ ws) (append_assoc pairs ((125 ∷ []) ∷ []) rest)

no_more : (nest : Nest) → nest ≡ add_kids [] nest
no_more nest = ap (λ (kids : List Node). record { inner = record { id = nest.inner.id; kids = kids; pairs = nest.inner.pairs }; outer = nest.outer }) (sym (append-nil nest.inner.kids))

one_more : (node : Node) (kids : List Node) (nest : Nest) → add_kids kids (add_kid node nest) ≡ add_kids (node ∷ kids) nest
one_more node kids nest = ap (λ (all : List Node). record { inner = record { id = nest.inner.id; kids = all; pairs = nest.inner.pairs }; outer = nest.outer }) (append_assoc nest.inner.kids (node ∷ []) kids)

mutual
  node_read : (declared : List (List ℕ)) (place : ℕ) (stops : Stops) → IsCalm stops → {room : ℕ} {words : List (List ℕ)} {node : Node} → SpellsNode declared room words node
      → (nest : Nest) → nest.inner.pairs ≡ None → length nest.outer + room ≤ 64 → ((w : List ℕ) → Begins w → stops nest w ≡ false) → (rest : List (List ℕ))
      → nodes_until declared place stops nest (words ++ rest) ≡ nodes_until declared place stops (add_kid node nest) rest
  node_read declared place stops calm {room} {words} {node} (written_step digits name action id n p ws is) nest none fits goes rest =
      rw (ws, is, goes (step_word digits name) (begins digits (58 ∷ in_parens name) id.0), step_read declared place digits name action nest none id n p) refl
  node_read declared place stops calm {room} {words} {node} (written_block inner digits kids_words pairs_words kids pairs deeper id kids_spelled are ws is) nest none fits goes rest =
      let start : Nest = inside (number_of digits) nest in
      let full : Nest = add_kids kids start in
      let opening = open_read declared place digits nest none id (omega arith) in
      let a = nodes_read declared place stops calm kids_spelled start refl (omega arith) (λ ks w b. calm (add_kids ks start) w refl) ((124 ∷ []) ∷ (pairs_words ++ (125 ∷ []) ∷ rest)) in
      let b = pairs_read declared place stops calm full refl [] pairs_words pairs ((125 ∷ []) ∷ rest) are in
      rw (ws, is, goes (digits ++ 123 ∷ []) (begins digits (123 ∷ []) id.0), opening, behind_kids kids_words pairs_words rest)
      (a ∙ rw (calm full (124 ∷ []) refl) (b ∙ rw (calm (set_pairs pairs full) (125 ∷ []) refl) refl))

  nodes_read : (declared : List (List ℕ)) (place : ℕ) (stops : Stops) → IsCalm stops → {room : ℕ} {words : List (List ℕ)} {nodes : List Node} → SpellsNodes declared room words nodes
      → (nest : Nest) → nest.inner.pairs ≡ None → length nest.outer + room ≤ 64 → ((kids : List Node) (w : List ℕ) → Begins w → stops (add_kids kids nest) w ≡ false) → (rest : List (List ℕ))
      → nodes_until declared place stops nest (words ++ rest) ≡ nodes_until declared place stops (add_kids nodes nest) rest
  nodes_read declared place stops calm {room} {words} {nodes} (written_none ws is) nest none fits goes rest =
      rw (ws, is) (ap (λ (n : Nest). nodes_until declared place stops n rest) (no_more nest))
  nodes_read declared place stops calm {room} {words} {nodes} (written_more front back node more spelled others ws is) nest none fits goes rest =
      let here : (w : List ℕ) → Begins w → stops nest w ≡ false = λ w b. ap (λ (n : Nest). stops n w) (no_more nest) ∙ goes [] w b in
      let later : (kids : List Node) (w : List ℕ) → Begins w → stops (add_kids kids (add_kid node nest)) w ≡ false = λ kids w b. ap (λ (n : Nest). stops n w) (one_more node kids nest) ∙ goes (node ∷ kids) w b in
      let a = node_read declared place stops calm spelled nest none fits here (back ++ rest) in
      let b = nodes_read declared place stops calm others (add_kid node nest) none fits later rest in
      rw (ws, is, append_assoc front back rest) (a ∙ b ∙ ap (λ (n : Nest). nodes_until declared place stops n rest) (one_more node more nest))

-- the kids of a window, and the root of a tree

calm_kids : IsCalm ends_kids
calm_kids nest w deep = rw deep refl

calm_root : IsCalm is_done
calm_root nest w deep = rw deep refl

pub kids_complete : (declared : List (List ℕ)) (place : ℕ) (words : List (List ℕ)) (kids : List Node) (rest : List (List ℕ)) → SpellsNodes declared 64 words kids → kids_until declared place no_nodes (words ++ codes "with" ∷ rest) ≡ Ok (kids, rest)
kids_complete declared place words kids rest h =
    rw (nodes_read declared place ends_kids calm_kids h no_nodes refl (omega arith) (λ ks w b. no_with w b) (codes "with" ∷ rest)) refl

pub root_complete : (declared : List (List ℕ)) (place : ℕ) (words : List (List ℕ)) (root : Node) → SpellsNode declared 64 words root → root_at declared place no_nodes words ≡ Ok root
root_complete declared place words root h =
    let a = node_read declared place is_done calm_root h no_nodes refl (omega arith) (λ w b. refl) [] in
    rw (sym (append-nil words)) (rw a refl)
