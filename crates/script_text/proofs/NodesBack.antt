-- Nodes that are read are spelled.
use Rattle.std.proofs.Common.{◌≡◌, ℕ, suc, ◌+◌, ◌-◌, ◌<◌, ◌≤◌, Bool, true, false, cond, not, ◌&&◌, ◌||◌, ◌==◌, List, [], ◌∷◌, ◌++◌, Option, Some, None, Result, Ok, Err, length, nat_le, take, drop, codes, refl, sym, ap, subst, ◌∙◌, arith, append_assoc}
use Rattle.std.proofs.lemmas.Bool.Decides.{nat_tests}
use Rattle.std.proofs.lemmas.List.{append-nil, take-append-drop}
use Rattle.std.proofs.lemmas.Slice.Eq.{bytes_eq-Decides}
use Rattle.std.specs.List.{position_or_len}
use Rattle.std.specs.Str.{bytes_eq}
use Rattle.bd_base.specs.declared.text_err.Cause.TheVariants as cause
use Rattle.bd_tree.specs.declared.node.Node.{Node, Step, Block}
use Rattle.script_text.specs.Lines.{in_parens, is_number, is_name, number_of, is_empty_list}
use Rattle.script_text.specs.Names.{place_of}
use Rattle.script_text.specs.Reading.{Fault, ◌>>=◌, known_at, number_at}
use Rattle.script_text.specs.Nodes.{is_mark, before_mark, from_mark, before_less, from_less, second_at, Open, Nest, empty_block, no_nodes, is_flat, with_kid, add_kid, opened, node_behind, node_at, closed, set_pairs, pairs_in, pair_at, read_in, read_word, nodes_until, ends_kids, kids_of, kids_until, is_done, only, root_of, root_at, id_at}
use Rattle.script_text.specs.SpellsNodes.{IsId, IsPair, ArePairs, step_word, block_words, SpellsNode, written_step, written_block, SpellsNodes, written_none, written_more}
use Rattle.script_text.proofs.ReadLemmas.{bind_ok, ok_is, known_back}
use Rattle.script_text.proofs.PartLemmas.{cons2, number_back}

is_it : (b c : ℕ) → (b == c) ≡ true → b ≡ c
is_it b c e = grind (arith, nat_tests)

-- one more node, and one more pair

nodes_more : {declared : List (List ℕ)} {room : ℕ} {words : List (List ℕ)} {nodes : List Node} → SpellsNodes declared room words nodes → (last : List (List ℕ)) (node : Node) → SpellsNode declared room last node → SpellsNodes declared room (words ++ last) (nodes ++ node ∷ [])
nodes_more (written_none ws is) last node h =
    written_more last [] node [] h (written_none refl refl) (ap (λ (xs : List (List ℕ)). xs ++ last) ws ∙ sym (append-nil last)) (ap (λ (ns : List Node). ns ++ node ∷ []) is)
nodes_more (written_more front back first rest spelled others ws is) last node h =
    written_more front (back ++ last) first (rest ++ node ∷ []) spelled (nodes_more others last node h)
    (ap (λ (xs : List (List ℕ)). xs ++ last) ws ∙ append_assoc front back last) (ap (λ (ns : List Node). ns ++ node ∷ []) is)

pairs_more : (words : List (List ℕ)) (pairs : List (ℕ × ℕ)) (w : List ℕ) (p : ℕ × ℕ) → ArePairs words pairs → IsPair w p → ArePairs (words ++ w ∷ []) (pairs ++ p ∷ [])
pairs_more [] [] w p h k = (k, tt)
pairs_more [] (q ∷ pairs) w p h k = absurd h
pairs_more (v ∷ words) [] w p h k = absurd h
pairs_more (v ∷ words) (q ∷ pairs) w p h k = (h.0, pairs_more words pairs w p h.1 k)

-- what the words behind the first word of a block say, so far
abbrev IsInside : List (List ℕ) → ℕ → List (List ℕ) → List Node → Option (List (ℕ × ℕ)) → Type 0
IsInside declared room words kids None = SpellsNodes declared room words kids
IsInside declared room words kids (Some pairs) = (front : List (List ℕ)) × (back : List (List ℕ)) × SpellsNodes declared room front kids × ArePairs back pairs × (words ≡ front ++ (124 ∷ []) ∷ back)

-- how many blocks may still open
abbrev room_in : List Open → ℕ
room_in outer = 64 - length outer

-- what all words say, so far
abbrev IsRead : List (List ℕ) → List (List ℕ) → Open → List Open → Type 0
IsRead declared words inner [] = (inner.pairs ≡ None) × SpellsNodes declared 64 words inner.kids
IsRead declared words inner (o ∷ os) =
    (before : List (List ℕ)) × (own : List (List ℕ)) × (digits : List ℕ) × (words ≡ before ++ (digits ++ 123 ∷ []) ∷ own) × IsRead declared before o os × (o.pairs ≡ None) × (length os < 64) × IsId digits × (inner.id ≡ number_of digits) × IsInside declared (room_in (o ∷ os)) own inner.kids inner.pairs

abbrev IsNest : List (List ℕ) → List (List ℕ) → Nest → Type 0
IsNest declared words nest = IsRead declared words nest.inner nest.outer

-- behind the words of a nest without pairs, the words of a node give the nest with that node
kid_in : (declared words last : List (List ℕ)) (node : Node) (inner : Open) (outer : List Open) → inner.pairs ≡ None → IsRead declared words inner outer → SpellsNode declared (room_in outer) last node → IsRead declared (words ++ last) (with_kid node inner) outer
kid_in declared words last node inner [] none h k = (h.0, nodes_more h.1 last node k)
kid_in declared words last node inner (o ∷ os) none h k =
    let P : Option (List (ℕ × ℕ)) → Type 0 = λ ps. IsInside declared (room_in (o ∷ os)) h.1 inner.kids ps in
    let Q : Option (List (ℕ × ℕ)) → Type 0 = λ ps. IsInside declared (room_in (o ∷ os)) (h.1 ++ last) (inner.kids ++ node ∷ []) ps in
    (h.0, h.1 ++ last, h.2, ap (λ (xs : List (List ℕ)). xs ++ last) h.3 ∙ append_assoc h.0 ((h.2 ++ 123 ∷ []) ∷ h.1) last, h.4, h.5, h.6, h.7, h.8, subst Q (sym none) (nodes_more (subst P none h.9) last node k))

-- what one word gives
abbrev IsStill : List (List ℕ) → List (List ℕ) → Result Nest Fault → Type 0
IsStill declared words (Ok nest) = IsNest declared words nest
IsStill declared words (Err e) = Unit {0}

app_bytes : (a b xs ys : List ℕ) → a ≡ b → xs ≡ ys → a ++ xs ≡ b ++ ys
app_bytes a b xs ys e f = cc

empty_is : (bs : List ℕ) → is_empty_list bs ≡ true → bs ≡ []
empty_is [] e = refl
empty_is (b ∷ bs) e = cc

less_64 : (n : ℕ) → nat_le 64 n ≡ false → n < 64
less_64 n e = grind (arith, nat_tests)

drop_one : (n a : ℕ) (w : List ℕ) → drop (1 + n) (a ∷ w) ≡ drop n w
drop_one n a w = let e : 1 + n ≡ suc n = omega arith in rw e refl

-- the byte from which the first mark of a word on isn't looked for is a mark
mark_is : (w : List ℕ) (b : ℕ) (bs : List ℕ) → from_mark w ≡ b ∷ bs → is_mark b ≡ true
mark_is [] b bs e = cc
mark_is (a ∷ w) b bs e = by_test (is_mark a) refl (mark_is w b bs) e
  where
    by_test : (t : Bool) → is_mark a ≡ t → (from_mark w ≡ b ∷ bs → is_mark b ≡ true) → from_mark (a ∷ w) ≡ b ∷ bs → is_mark b ≡ true
    by_test true p ih h = let q : a ∷ w ≡ b ∷ bs = rw p at h in let r : a ≡ b = cc in ap is_mark (sym r) ∙ p
    by_test false p ih h = ih (sym (drop_one (position_or_len is_mark w) a w) ∙ (rw p at h))

other_mark : (b : ℕ) → is_mark b ≡ true → (b == 58) ≡ false → b ≡ 123
other_mark b e f = grind (arith, nat_tests)

opened_in : (declared words : List (List ℕ)) (place id : ℕ) (digits rest : List ℕ) (nest : Nest) → nest.inner.pairs ≡ None → IsNest declared words nest → IsId digits → id ≡ number_of digits → (w : List ℕ) → w ≡ digits ++ 123 ∷ rest → IsStill declared (words ++ w ∷ []) (opened place id rest nest)
opened_in declared words place id digits rest nest none h is value w word = by_test (place, cause.Misfit) (place, cause.Shape) (nat_le 64 (length nest.outer)) (is_empty_list rest) refl refl
  where
    by_test : (A B : Fault) (s t : Bool) → nat_le 64 (length nest.outer) ≡ s → is_empty_list rest ≡ t → IsStill declared (words ++ w ∷ []) (cond s (Err A) (cond t (Ok (record { inner = empty_block id; outer = nest.inner ∷ nest.outer })) (Err B)))
    by_test A B true t p q = tt
    by_test A B false true p q = (words, [], digits, ap (λ (v : List ℕ). words ++ v ∷ []) (word ∙ ap (λ (bs : List ℕ). digits ++ 123 ∷ bs) (empty_is rest q)), h, none, less_64 (length nest.outer) p, is, value, written_none refl refl)
    by_test A B false false p q = tt

behind_in : (declared words : List (List ℕ)) (place id : ℕ) (digits rest : List ℕ) (nest : Nest) → nest.inner.pairs ≡ None → IsNest declared words nest → IsId digits → id ≡ number_of digits → (w : List ℕ) → w ≡ digits ++ rest → ((b : ℕ) (bs : List ℕ) → rest ≡ b ∷ bs → is_mark b ≡ true) → IsStill declared (words ++ w ∷ []) (node_behind declared place id rest nest)
behind_in declared words place id digits [] nest none h is value w word marks = tt
behind_in declared words place id digits (b ∷ rest) nest none h is value w word marks = by_test (b == 58) refl
  where
    by_name : b ≡ 58 → (r : Result ℕ Fault) → known_at declared place rest ≡ r → IsStill declared (words ++ w ∷ []) (r >>= λ a. Ok (add_kid (Step id a) nest))
    by_name e (Ok a) p =
        let k = known_back declared place rest a p in
        let spelled : w ∷ [] ≡ step_word digits k.name ∷ [] = ap (λ (v : List ℕ). v ∷ []) (word ∙ app_bytes _ _ _ _ refl (ap (λ (c : ℕ). c ∷ rest) e ∙ ap (λ (bs : List ℕ). 58 ∷ bs) k.word)) in
        kid_in declared words (w ∷ []) (Step id a) nest.inner nest.outer none h (written_step digits k.name a is k.named k.place spelled (ap (λ (i : ℕ). Step i a) value))
    by_name e (Err f) p = tt

    by_test : (t : Bool) → (b == 58) ≡ t → IsStill declared (words ++ w ∷ []) (cond t (known_at declared place rest >>= λ a. Ok (add_kid (Step id a) nest)) (opened place id rest nest))
    by_test true p = by_name (is_it b 58 p) (known_at declared place rest) refl
    by_test false p =
        let brace : b ≡ 123 = other_mark b (marks b rest refl) p in
        opened_in declared words place id digits rest nest none h is value w (word ∙ ap (λ (c : ℕ). digits ++ c ∷ rest) brace)

node_in : (declared words : List (List ℕ)) (place : ℕ) (w : List ℕ) (nest : Nest) → nest.inner.pairs ≡ None → IsNest declared words nest → IsStill declared (words ++ w ∷ []) (node_at declared place w nest)
unfolding node_at
node_in declared words place w nest none h = by_id (id_at place (before_mark w)) refl
  where
    by_id : (r : Result ℕ Fault) → id_at place (before_mark w) ≡ r → IsStill declared (words ++ w ∷ []) (r >>= λ id. node_behind declared place id (from_mark w) nest)
    by_id (Ok id) e =
        let m = number_back 4_294_967_295 place (before_mark w) id e in
        behind_in declared words place id (before_mark w) (from_mark w) nest none h (m.0, m.2) (sym m.1) w (sym (take-append-drop (position_or_len is_mark w) w)) (mark_is w)
    by_id (Err f) e = tt

-- pairs

less_is : (w : List ℕ) (b : ℕ) (bs : List ℕ) → from_less w ≡ b ∷ bs → b ≡ 60
less_is [] b bs e = cc
less_is (a ∷ w) b bs e = by_test (a == 60) refl (less_is w b bs) e
  where
    by_test : (t : Bool) → (a == 60) ≡ t → (from_less w ≡ b ∷ bs → b ≡ 60) → from_less (a ∷ w) ≡ b ∷ bs → b ≡ 60
    by_test true p ih h = let q : a ∷ w ≡ b ∷ bs = rw p at h in let r : a ≡ b = cc in sym r ∙ is_it a 60 p
    by_test false p ih h = ih (sym (drop_one (position_or_len (λ b. b == 60) w) a w) ∙ (rw p at h))

second_back : (place : ℕ) (rest : List ℕ) (n : ℕ) → second_at place rest ≡ Ok n → (b : ℕ) × (digits : List ℕ) × (rest ≡ b ∷ digits) × IsId digits × (n ≡ number_of digits)
second_back place [] n e = cc
second_back place (b ∷ digits) n e = let m = number_back 4_294_967_295 place digits n e in (b, digits, refl, (m.0, m.2), sym m.1)

pub pair_back : (place : ℕ) (w : List ℕ) (p : ℕ × ℕ) → pair_at place w ≡ Ok p → IsPair w p
unfolding pair_at
pair_back place w p e =
    let a = bind_ok (number_at 4_294_967_295 place (before_less w)) _ p e in
    let b = bind_ok (second_at place (from_less w)) _ p a.2 in
    let m = number_back 4_294_967_295 place (before_less w) a.0 a.1 in
    let n = second_back place (from_less w) b.0 b.1 in
    let z : p ≡ (a.0, b.0) = ok_is _ _ _ refl b.2 in
    let less : n.0 ≡ 60 = less_is w n.0 n.1 n.2 in
    record {
      first = before_less w;
      second = n.1;
      first_id = (m.0, m.2);
      second_id = n.3;
      written = sym (take-append-drop (position_or_len (λ b. b == 60) w) w) ∙ app_bytes _ _ _ _ refl (n.2 ∙ ap (λ (c : ℕ). c ∷ n.1) less);
      whole = z ∙ (let q : (a.0, b.0) ≡ (number_of (before_less w), number_of n.1) = cc (m.1, n.4) in q);
    }

-- a nest whose innermost block has its pairs

paired_in : (declared words : List (List ℕ)) (w : List ℕ) (pairs : List (ℕ × ℕ)) (p : ℕ × ℕ) (inner : Open) (outer : List Open) → inner.pairs ≡ Some pairs → IsRead declared words inner outer → IsPair w p
    → IsNest declared (words ++ w ∷ []) (set_pairs (pairs ++ p ∷ []) (record { inner = inner; outer = outer }))
paired_in declared words w pairs p inner [] some h k = let none = sym h.0 ∙ some in cc
paired_in declared words w pairs p inner (o ∷ os) some h k =
    let P : Option (List (ℕ × ℕ)) → Type 0 = λ ps. IsInside declared (room_in (o ∷ os)) h.1 inner.kids ps in
    let i : P (Some pairs) = subst P some h.9 in (
      h.0,
      h.1 ++ w ∷ [],
      h.2,
      ap (λ (xs : List (List ℕ)). xs ++ w ∷ []) h.3 ∙ append_assoc h.0 ((h.2 ++ 123 ∷ []) ∷ h.1) (w ∷ []),
      h.4,
      h.5,
      h.6,
      h.7,
      h.8,
      (i.0, i.1 ++ w ∷ [], i.2, pairs_more i.1 pairs w p i.3 k, ap (λ (xs : List (List ℕ)). xs ++ w ∷ []) i.4 ∙ append_assoc i.0 ((124 ∷ []) ∷ i.1) (w ∷ [])),
    )

barred_in : (declared words : List (List ℕ)) (inner : Open) (outer : List Open) → inner.pairs ≡ None → is_flat (record { inner = inner; outer = outer }) ≡ false → IsRead declared words inner outer
    → IsNest declared (words ++ (124 ∷ []) ∷ []) (set_pairs [] (record { inner = inner; outer = outer }))
barred_in declared words inner [] none deep h = cc
barred_in declared words inner (o ∷ os) none deep h =
    let P : Option (List (ℕ × ℕ)) → Type 0 = λ ps. IsInside declared (room_in (o ∷ os)) h.1 inner.kids ps in (
      h.0,
      h.1 ++ (124 ∷ []) ∷ [],
      h.2,
      ap (λ (xs : List (List ℕ)). xs ++ (124 ∷ []) ∷ []) h.3 ∙ append_assoc h.0 ((h.2 ++ 123 ∷ []) ∷ h.1) ((124 ∷ []) ∷ []),
      h.4,
      h.5,
      h.6,
      h.7,
      h.8,
      (h.1, [], subst P none h.9, tt, refl),
    )

closed_in : (declared words : List (List ℕ)) (place : ℕ) (pairs : List (ℕ × ℕ)) (inner : Open) (outer : List Open) → inner.pairs ≡ Some pairs → IsRead declared words inner outer
    → IsStill declared (words ++ (125 ∷ []) ∷ []) (closed place pairs (record { inner = inner; outer = outer }))
closed_in declared words place pairs inner [] some h = tt
closed_in declared words place pairs inner (o ∷ os) some h =
    let P : Option (List (ℕ × ℕ)) → Type 0 = λ ps. IsInside declared (room_in (o ∷ os)) h.1 inner.kids ps in
    let i : P (Some pairs) = subst P some h.9 in
    let lt : length os < 64 = h.6 in
    let deeper : room_in os ≡ suc (room_in (o ∷ os)) = omega arith in
    let block = written_block (room_in (o ∷ os)) h.2 i.0 i.1 inner.kids pairs deeper h.7 i.2 i.3 refl (ap (λ (n : ℕ). Block n inner.kids pairs) h.8) in
    let all : words ++ (125 ∷ []) ∷ [] ≡ h.0 ++ block_words h.2 i.0 i.1 =
    ap (λ (xs : List (List ℕ)). xs ++ (125 ∷ []) ∷ []) (h.3 ∙ ap (λ (xs : List (List ℕ)). h.0 ++ (h.2 ++ 123 ∷ []) ∷ xs) i.4)
    ∙ append_assoc h.0 ((h.2 ++ 123 ∷ []) ∷ (i.0 ++ (124 ∷ []) ∷ i.1)) ((125 ∷ []) ∷ [])
    ∙ ap (λ (xs : List (List ℕ)). h.0 ++ (h.2 ++ 123 ∷ []) ∷ xs) (append_assoc i.0 ((124 ∷ []) ∷ i.1) ((125 ∷ []) ∷ [])) in
    let R : List (List ℕ) → Type 0 = λ ws. IsRead declared ws (with_kid (Block inner.id inner.kids pairs) o) os in
    subst R (sym all) (kid_in declared h.0 (block_words h.2 i.0 i.1) (Block inner.id inner.kids pairs) o os h.5 h.4 block)

-- one word

not_flat : (a b : Bool) → (a || not b) ≡ false → (a ≡ false) × (b ≡ true)
not_flat true b e = cc
not_flat false true e = (refl, refl)
not_flat false false e = cc

word_in : (declared words : List (List ℕ)) (place : ℕ) (w : List ℕ) (nest : Nest) → IsNest declared words nest → IsStill declared (words ++ w ∷ []) (read_word declared place w nest)
word_in declared words place w nest h = by_pairs nest.inner.pairs refl
  where
    by_bar : nest.inner.pairs ≡ None → (t : Bool) → (is_flat nest || not (bytes_eq w (codes "|"))) ≡ t → IsStill declared (words ++ w ∷ []) (cond t (node_at declared place w nest) (Ok (set_pairs [] nest)))
    by_bar none true p = node_in declared words place w nest none h
    by_bar none false p =
        let n = not_flat (is_flat nest) (bytes_eq w (codes "|")) p in
        let bar : w ≡ codes "|" = (bytes_eq-Decides w (codes "|")).0 n.1 in
        let R : List ℕ → Type 0 = λ v. IsNest declared (words ++ v ∷ []) (set_pairs [] nest) in
        subst R (sym bar) (barred_in declared words nest.inner nest.outer none n.0 h)

    by_pair : (pairs : List (ℕ × ℕ)) → nest.inner.pairs ≡ Some pairs → (r : Result (ℕ × ℕ) Fault) → pair_at place w ≡ r → IsStill declared (words ++ w ∷ []) (r >>= λ pair. Ok (set_pairs (pairs ++ pair ∷ []) nest))
    by_pair pairs some (Ok p) e = paired_in declared words w pairs p nest.inner nest.outer some h (pair_back place w p e)
    by_pair pairs some (Err f) e = tt

    by_close : (pairs : List (ℕ × ℕ)) → nest.inner.pairs ≡ Some pairs → (t : Bool) → bytes_eq w (codes "}") ≡ t → IsStill declared (words ++ w ∷ []) (cond t (closed place pairs nest) (pair_at place w >>= λ pair. Ok (set_pairs (pairs ++ pair ∷ []) nest)))
    by_close pairs some true p =
        let brace : w ≡ codes "}" = (bytes_eq-Decides w (codes "}")).0 p in
        let R : List ℕ → Type 0 = λ v. IsStill declared (words ++ v ∷ []) (closed place pairs nest) in
        subst R (sym brace) (closed_in declared words place pairs nest.inner nest.outer some h)
    by_close pairs some false p = by_pair pairs some (pair_at place w) refl

    by_pairs : (o : Option (List (ℕ × ℕ))) → nest.inner.pairs ≡ o → IsStill declared (words ++ w ∷ []) (read_in declared place w nest o)
    by_pairs None e = by_bar e (is_flat nest || not (bytes_eq w (codes "|"))) refl
    by_pairs (Some pairs) e = by_close pairs e (bytes_eq w (codes "}")) refl

-- all words

abbrev Stops : Type 0
Stops = Nest → List ℕ → Bool

-- the words that were read, and where the reading stopped
pub record UntilBack (declared words : List (List ℕ)) (stops : Stops) (ws : List (List ℕ)) (x : Nest × List (List ℕ)) : Type 0 where
  pub front : List (List ℕ)
  pub split : ws ≡ front ++ x.1
  pub read : IsNest declared (words ++ front) x.0
  pub stopped : (w : List ℕ) (more : List (List ℕ)) → x.1 ≡ w ∷ more → stops x.0 w ≡ true

until_back : (declared words : List (List ℕ)) (place : ℕ) (stops : Stops) (nest : Nest) (ws : List (List ℕ)) (x : Nest × List (List ℕ)) → IsNest declared words nest → nodes_until declared place stops nest ws ≡ Ok x → UntilBack declared words stops ws x
until_back declared words place stops nest [] x h e =
    let z : x ≡ (nest, []) = ok_is _ _ _ refl e in
    let P : Nest × List (List ℕ) → Type 0 = UntilBack declared words stops [] in
    let R : List (List ℕ) → Type 0 = λ ws. IsNest declared ws nest in
    subst P (sym z) (record { front = []; split = refl; read = subst R (sym (append-nil words)) h; stopped = λ w more k. cc })
until_back declared words place stops nest (w ∷ ws) x h e = by_stop (stops nest w) refl (λ more k. until_back declared (words ++ w ∷ []) place stops more ws x k) e
  where
    by_stop : (t : Bool) → stops nest w ≡ t → ((more : Nest) → IsNest declared (words ++ w ∷ []) more → nodes_until declared place stops more ws ≡ Ok x → UntilBack declared (words ++ w ∷ []) stops ws x)
        → cond t (Ok (nest, w ∷ ws)) (read_word declared place w nest >>= λ more. nodes_until declared place stops more ws) ≡ Ok x → UntilBack declared words stops (w ∷ ws) x
    by_stop true p ih k =
        let z : x ≡ (nest, w ∷ ws) = ok_is _ _ _ refl k in
        let P : Nest × List (List ℕ) → Type 0 = UntilBack declared words stops (w ∷ ws) in
        let R : List (List ℕ) → Type 0 = λ ws. IsNest declared ws nest in
        subst P (sym z) (record { front = []; split = refl; read = subst R (sym (append-nil words)) h; stopped = λ v more q. (let same : w ≡ v = cc in ap (stops nest) (sym same) ∙ p) })
    by_stop false p ih k =
        let b = bind_ok (read_word declared place w nest) _ x k in
        let S : Result Nest Fault → Type 0 = IsStill declared (words ++ w ∷ []) in
        let one : IsNest declared (words ++ w ∷ []) b.0 = subst S b.1 (word_in declared words place w nest h) in
        let u = ih b.0 one b.2 in
        let R : List (List ℕ) → Type 0 = λ ws. IsNest declared ws x.0 in
        record { front = w ∷ u.front; split = ap (λ (xs : List (List ℕ)). w ∷ xs) u.split; read = subst R (append_assoc words (w ∷ []) u.front) u.read; stopped = u.stopped }

no_words : (declared : List (List ℕ)) → IsNest declared [] no_nodes
no_words declared = (refl, written_none refl refl)

flat_read : (declared words : List (List ℕ)) (inner : Open) (outer : List Open) → is_flat (record { inner = inner; outer = outer }) ≡ true → IsRead declared words inner outer → SpellsNodes declared 64 words inner.kids
flat_read declared words inner [] flat h = h.1
flat_read declared words inner (o ∷ os) flat h = cc

both : (a b : Bool) → (a && b) ≡ true → (a ≡ true) × (b ≡ true)
both true b e = (refl, e)
both false b e = cc

pub record KidsBack (declared ws : List (List ℕ)) (x : List Node × List (List ℕ)) : Type 0 where
  pub front : List (List ℕ)
  pub spelled : SpellsNodes declared 64 front x.0
  pub words : ws ≡ front ++ codes "with" ∷ x.1

pub kids_back : (declared : List (List ℕ)) (place : ℕ) (ws : List (List ℕ)) (x : List Node × List (List ℕ)) → kids_until declared place no_nodes ws ≡ Ok x → KidsBack declared ws x
kids_back declared place ws x e =
    let b = bind_ok (nodes_until declared place ends_kids no_nodes ws) _ x e in
    let u = until_back declared [] place ends_kids no_nodes ws b.0 (no_words declared) b.1 in
    by_rest b.0.0 b.0.1 u b.2
  where
    by_rest : (nest : Nest) (rest : List (List ℕ)) → UntilBack declared [] ends_kids ws (nest, rest) → kids_of place (nest, rest) ≡ Ok x → KidsBack declared ws x
    by_rest nest [] u k = cc
    by_rest nest (w ∷ more) u k =
        let z : x ≡ (nest.inner.kids, more) = ok_is _ _ _ refl k in
        let s = both (is_flat nest) (bytes_eq w (codes "with")) (u.stopped w more refl) in
        let key : w ≡ codes "with" = (bytes_eq-Decides w (codes "with")).0 s.1 in
        let P : List Node × List (List ℕ) → Type 0 = KidsBack declared ws in
        subst P (sym z) (record {
          front = u.front;
          spelled = flat_read declared u.front nest.inner nest.outer s.0 u.read;
          words = u.split ∙ ap (λ (v : List ℕ). u.front ++ v ∷ more) key;
        })

only_back : (declared words : List (List ℕ)) (place : ℕ) (kids : List Node) (root : Node) → only place kids ≡ Ok root → kids ≡ root ∷ []
only_back declared words place [] root e = cc
only_back declared words place (k ∷ []) root e = let h : k ≡ root = cc in ap (λ (n : Node). n ∷ []) h
only_back declared words place (k ∷ l ∷ kids) root e = cc

-- the words of one node
alone : (declared : List (List ℕ)) (room : ℕ) {words : List (List ℕ)} {nodes : List Node} → SpellsNodes declared room words nodes → (root : Node) → nodes ≡ root ∷ [] → SpellsNode declared room words root
alone declared room (written_none ws is) root e = let none = sym is ∙ e in cc
alone declared room {words} (written_more front back node rest spelled others ws is) root e =
    let same = sym is ∙ e in
    let first : node ≡ root = cc in
    let none : rest ≡ [] = cc in
    let end : back ≡ [] = no_rest others none in
    let P : List (List ℕ) → Type 0 = λ v. SpellsNode declared room v root in
    let Q : Node → Type 0 = SpellsNode declared room front in
    subst P (sym (ws ∙ ap (λ (v : List (List ℕ)). front ++ v) end ∙ append-nil front)) (subst Q first spelled)
  where
    no_rest : {words : List (List ℕ)} {nodes : List Node} → SpellsNodes declared room words nodes → nodes ≡ [] → words ≡ []
    no_rest (written_none ws is) e = ws
    no_rest (written_more front back node rest spelled others ws is) e = let some = sym is ∙ e in cc

pub root_back : (declared : List (List ℕ)) (place : ℕ) (ws : List (List ℕ)) (root : Node) → root_at declared place no_nodes ws ≡ Ok root → SpellsNode declared 64 ws root
root_back declared place ws root e =
    let b = bind_ok (nodes_until declared place is_done no_nodes ws) _ root e in
    let u = until_back declared [] place is_done no_nodes ws b.0 (no_words declared) b.1 in
    by_rest b.0.0 b.0.1 u b.2
  where
    by_flat : (nest : Nest) → UntilBack declared [] is_done ws (nest, []) → (A : Fault) (t : Bool) → is_flat nest ≡ t → cond t (only place nest.inner.kids) (Err A) ≡ Ok root → SpellsNode declared 64 ws root
    by_flat nest u A true p k =
        let P : List (List ℕ) → Type 0 = λ v. SpellsNode declared 64 v root in
        subst P (sym (u.split ∙ append-nil u.front)) (alone declared 64 (flat_read declared u.front nest.inner nest.outer p u.read) root (only_back declared ws place nest.inner.kids root k))
    by_flat nest u A false p k = cc

    by_rest : (nest : Nest) (rest : List (List ℕ)) → UntilBack declared [] is_done ws (nest, rest) → root_of place (nest, rest) ≡ Ok root → SpellsNode declared 64 ws root
    by_rest nest [] u k = by_flat nest u (place, cause.Shape) (is_flat nest) refl k
    by_rest nest (w ∷ more) u k = cc
