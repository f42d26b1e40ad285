-- A line has no more words than its text has bytes, so what a replacement lists is short enough to be lent.
use Rattle.std.proofs.Common.{◌≡◌, ℕ, suc, ◌<◌, ◌≤◌, ◌^◌, Bool, true, false, cond, not, ◌&&◌, ◌==◌, List, [], ◌∷◌, ◌++◌, Option, Some, map, length, codes, sym, ap, subst, arith}
use Rattle.std.specs.List.{slice_split, onto_first, All}
use Rattle.std.proofs.lemmas.List.{length-append, length-map}
use Rattle.std.proofs.lemmas.List.Elements.{All-nil, All-cons}
use Rattle.plan_core.specs.declared.offer.Offer.{Offer}
use Rattle.plan_core.specs.Replies.{IsLent}
use Rattle.script_text.specs.declared.script.Script.{Script}
use Rattle.script_text.specs.Lines.{is_empty_list, without_cr, ended, lines, inside_after, pieces, filled, words, worded, in_parens}
use Rattle.script_text.specs.Reading.{after_key}
use Rattle.script_text.proofs.PartLemmas.{key_back}
use Rattle.script_text.specs.Spells.{Replacement, Source, fact_line, action_line, start_lines, stop_lines, replace_line, spelling, names_of, Offered, replacement, tightening, rebuild, offer_line, ArePlaces, IsReplacement, AreIds, IsOffer, AreOffers, SpellsScript}
use Rattle.script_text.specs.SpellsNodes.{ArePairs}

-- each of the lists has at most n items
abbrev AreShort : {X : Type 0} → ℕ → List (List X) → Type 0
AreShort n [] = Unit {0}
AreShort n (xs ∷ rest) = (length xs ≤ n) × AreShort n rest

short_more : {X : Type 0} (n : ℕ) (lists : List (List X)) → AreShort n lists → AreShort (suc n) lists
short_more n [] s = tt
short_more n (xs ∷ rest) s = (omega (arith, s.0), short_more n rest s.1)

short_back : {X : Type 0} (n : ℕ) (front back : List (List X)) → AreShort n (front ++ back) → AreShort n back
short_back n [] back s = s
short_back n (xs ∷ front) back s = short_back n front back s.1

short_front : {X : Type 0} (n : ℕ) (front back : List (List X)) → AreShort n (front ++ back) → AreShort n front
short_front n [] back s = tt
short_front n (xs ∷ front) back s = (s.0, short_front n front back s.1)

-- the lines of a text

short_first : (n b : ℕ) (parts : List (List ℕ)) → AreShort n parts → AreShort (suc n) (onto_first b parts)
short_first n b [] s = (omega arith, tt)
short_first n b (part ∷ parts) s = (omega (arith, s.0), short_more n parts s.1)

parts_short : (t : ℕ → Bool) (text : List ℕ) → AreShort (length text) (slice_split t text)
parts_short t [] = (omega arith, tt)
parts_short t (b ∷ text) = by_test (t b) (parts_short t text)
  where
    by_test : (cut : Bool) → AreShort (length text) (slice_split t text) → AreShort (suc (length text)) (cond cut ([] ∷ slice_split t text) (onto_first b (slice_split t text)))
    by_test true s = (omega arith, short_more (length text) (slice_split t text) s)
    by_test false s = short_first (length text) b (slice_split t text) s

length-without_cr : (line : List ℕ) → length (without_cr line) ≤ length line
length-without_cr [] = omega arith
length-without_cr (b ∷ line) = by_test (b == 13 && is_empty_list line) (length-without_cr line)
  where
    by_test : (cut : Bool) → length (without_cr line) ≤ length line → length (cond cut [] (b ∷ without_cr line)) ≤ suc (length line)
    by_test true h = omega arith
    by_test false h = omega arith

ended_short : (n : ℕ) (parts : List (List ℕ)) → AreShort n parts → AreShort n (ended parts)
ended_short n [] s = tt
ended_short n (part ∷ []) s = by_test (is_empty_list part)
  where
    by_test : (none : Bool) → AreShort n (cond none [] (part ∷ []))
    by_test true = tt
    by_test false = s
ended_short n (part ∷ next ∷ parts) s = (omega (arith, s.0, length-without_cr part), ended_short n (next ∷ parts) s.1)

lines_short : (text : List ℕ) → AreShort (length text) (lines text)
lines_short text = ended_short (length text) (slice_split (λ b. b == 10) text) (parts_short (λ b. b == 10) text)

-- the words of a line

filled_first : (b : ℕ) (ps : List (List ℕ)) → length (filled (onto_first b ps)) ≤ suc (length (filled ps))
filled_first b [] = omega arith
filled_first b ([] ∷ ps) = omega arith
filled_first b ((c ∷ p) ∷ ps) = omega arith

words_few : (inside : Bool) (line : List ℕ) → length (filled (pieces inside line)) ≤ length line
words_few inside [] = omega arith
words_few inside (b ∷ line) = by_test (b == 32 && not inside) (words_few false line) (words_few (inside_after inside b) line)
  where
    by_test : (cut : Bool) → length (filled (pieces false line)) ≤ length line → length (filled (pieces (inside_after inside b) line)) ≤ length line →
        length (filled (cond cut ([] ∷ pieces false line) (onto_first b (pieces (inside_after inside b) line)))) ≤ suc (length line)
    by_test true h k = omega arith
    by_test false h k = omega (arith, filled_first b (pieces (inside_after inside b) line))

all_words_few : (n : ℕ) (ls : List (List ℕ)) → AreShort n ls → AreShort n (map words ls)
all_words_few n [] s = tt
all_words_few n (line ∷ ls) s = (omega (arith, s.0, words_few false line), all_words_few n ls s.1)

worded_short : (text : List ℕ) → AreShort (length text) (worded text)
worded_short text = all_words_few (length text) (lines text) (lines_short text)

-- the offers

offers_short : (n : ℕ) (s : Source) → AreShort n (spelling s) → AreShort n (map offer_line s.offers)
offers_short n s short =
    let actions = short_back n (map fact_line s.facts) _ short.1 in
    let init = short_back n (map action_line s.actions) _ actions in
    let stop = short_back n (start_lines s.start) _ init.1.1.1 in
    let rest = short_back n (stop_lines s.stop) _ stop in
    short_front n (map offer_line s.offers) ((codes "end" ∷ []) ∷ []) rest

length-places : (declared names : List (List ℕ)) (places : List ℕ) → ArePlaces declared names places → length places ≡ length names
length-places declared [] [] h = omega arith
length-places declared [] (i ∷ places) h = absurd h
length-places declared (n ∷ names) [] h = absurd h
length-places declared (n ∷ names) (i ∷ places) h = omega (arith, length-places declared names places h.2)

length-ids : (words : List (List ℕ)) (ids : List ℕ) → AreIds words ids → length ids ≡ length words
length-ids [] [] h = omega arith
length-ids [] (i ∷ ids) h = absurd h
length-ids (w ∷ words) [] h = absurd h
length-ids (w ∷ words) (i ∷ ids) h = omega (arith, length-ids words ids h.2)

length-pairs : (words : List (List ℕ)) (pairs : List (ℕ × ℕ)) → ArePairs words pairs → length pairs ≡ length words
length-pairs [] [] h = omega arith
length-pairs [] (p ∷ pairs) h = absurd h
length-pairs (w ∷ words) [] h = absurd h
length-pairs (w ∷ words) (p ∷ pairs) h = omega (arith, length-pairs words pairs h.1)

names_few : (r : Replacement) → length r.names ≤ length (replace_line r)
names_few r = omega (arith, length-append r.kids (codes "with" ∷ map in_parens r.names), length-map r.names in_parens)

replacement_lent : (declared : List (List ℕ)) (r : Replacement) (o : Offer) → IsReplacement declared r o → length (replace_line r) < 2 ^ 32 → IsLent o
replacement_lent declared r o h short =
    let few : length h.actions < 2 ^ 32 = omega (arith, names_few r, length-places declared r.names h.actions h.list) in
    subst IsLent (sym h.whole) few

offer_lent : (declared : List (List ℕ)) (w : Offered) (o : Offer) → IsOffer declared w o → length (offer_line w) < 2 ^ 32 → IsLent o
offer_lent declared (replacement r) o h short = replacement_lent declared r o h short
offer_lent declared (tightening block left right) o h short =
    let all = length-append left (codes "right" ∷ right) in
    let one : length h.left_ids < 2 ^ 32 = omega (arith, all, length-ids left h.left_ids h.are_left) in
    let two : length h.right_ids < 2 ^ 32 = omega (arith, all, length-ids right h.right_ids h.are_right) in
    subst IsLent (sym h.whole) (one, two)
offer_lent declared (rebuild pairs) o h short =
    let few : length h.pairs < 2 ^ 32 = omega (arith, length-pairs pairs h.pairs h.are) in
    subst IsLent (sym h.whole) few

offers_lent : (n : ℕ) (declared : List (List ℕ)) (ws : List Offered) (os : List Offer) → n < 2 ^ 32 → AreShort n (map offer_line ws) → AreOffers declared ws os → All IsLent os
offers_lent n declared [] [] lt s h = All-nil IsLent
offers_lent n declared [] (o ∷ os) lt s h = absurd h
offers_lent n declared (w ∷ ws) [] lt s h = absurd h
offers_lent n declared (w ∷ ws) (o ∷ os) lt s h =
    let short : length (offer_line w) < 2 ^ 32 = omega (arith, s.0) in
    All-cons IsLent o os (offer_lent declared w o h.0 short) (offers_lent n declared ws os lt s.1 h.1)

pub all_lent : (text : List ℕ) (s : Script) → length text < 2 ^ 32 → SpellsScript text s → All IsLent s.offers
all_lent text s lt h =
    let P : List (List (List ℕ)) → Type 0 = AreShort (length text) in
    let short = offers_short (length text) h.source (subst P h.spelled (worded_short text)) in
    offers_lent (length text) (names_of h.source.actions) h.source.offers s.offers lt short h.offers

-- the words of the start tree, which stand behind a key
root_short : (n : ℕ) (ws : List (List ℕ)) (more : List (List (List ℕ))) → AreShort n (start_lines (Some ws) ++ more) → length ws < n
root_short n ws more s = omega (arith, s.0)

pub start_short : (text : List ℕ) (s : Source) (ws : List (List ℕ)) → worded text ≡ spelling s → s.start ≡ Some ws → length ws < length text
start_short text s ws e some =
    let P : List (List (List ℕ)) → Type 0 = AreShort (length text) in
    let short = subst P e (worded_short text) in
    let actions = short_back (length text) (map fact_line s.facts) _ short.1 in
    let init = short_back (length text) (map action_line s.actions) _ actions in
    let Q : Option (List (List ℕ)) → Type 0 = λ o. AreShort (length text) (start_lines o ++ (stop_lines s.stop ++ (map offer_line s.offers ++ (codes "end" ∷ []) ∷ []))) in
    root_short (length text) ws _ (subst Q some init.1.1.1)

-- the words behind the key of a text's first line
pub key_short : (text key : List ℕ) (ws rest : List (List ℕ)) (more : List (List (List ℕ))) → worded text ≡ ws ∷ more → Some rest ≡ after_key key ws → length rest ≤ length text
key_short text key ws rest more e k =
    let P : List (List (List ℕ)) → Type 0 = AreShort (length text) in
    let short : length ws ≤ length text = (subst P e (worded_short text)).0 in
    let is = ap (λ (xs : List (List ℕ)). length xs) (key_back key ws rest (sym k)) in
    omega arith
