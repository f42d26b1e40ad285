-- Facts in words with numbers.
use Rattle.std.proofs.Common.{◌≡◌, ℕ, zero, suc, ◌+◌, ◌-◌, ◌*◌, ◌/◌, ◌%◌, ◌^◌, ◌<◌, ◌≤◌, Bool, true, false, cond, not, ◌&&◌, ◌||◌, eqb, List, [], ◌∷◌, ◌++◌, length, get_or, set, take, drop, refl, sym, ap, ◌∙◌, subst, inl, inr, arith, w64, max, add-one, drop-cons, length-take-le, length-append}
use Rattle.std.specs.Prelude.{bit_and, bit_or, count_ones}
use Rattle.std.specs.Int.{bit_at, bit_not}
use Rattle.std.specs.List.{insert, remove, list_any, list_all}
use Rattle.std.proofs.lemmas.Bool.{cases_eq, cases_lt, eq-eqb, ne_eqb}
use Rattle.bd_base.specs.Bits.{bits_of, row_of}
use Rattle.bd_base.specs.Cells.{cells_of, word_in, AreCells, HasCell, LacksCell}
use Rattle.bd_base.specs.Facts.{IsBelowAll, IsRising, has, plus, minus}
use Rattle.bd_base.specs.declared.cells.Cell.{Cell}
use Rattle.std.proofs.lemmas.Grind.{take_at_read}
use Rattle.bd_base.proofs.BitLemmas.{has-append, row-append}
use Rattle.bd_base.proofs.WordLemmas.{append-nil, row_zero, bits_zero, word_ones}
use Rattle.bd_base.proofs.SetLemmas.{below-word, rising-word, plus_by, minus_by, plus-append, minus-append, any-append, all_both, on, on_is, on_zero, on_or, on_without, has_word}

-- ---- numbers

pub cells_wider : (low more high : ℕ) (cells : List Cell) → low ≤ more → AreCells more high cells → AreCells low high cells
cells_wider low more high [] le fits = tt
cells_wider low more high (c ∷ cells) le fits = let at : more ≤ c.number = fits.0 in (omega arith, fits.1, fits.2)

pub cells_higher : (low high more : ℕ) (cells : List Cell) → high ≤ more → AreCells low high cells → AreCells low more cells
cells_higher low high more [] le fits = tt
cells_higher low high more (c ∷ cells) le fits = let at : c.number < high = fits.1 in (fits.0, omega arith, cells_higher (c.number + 1) high more cells le fits.2)

pub cells_push : (low high : ℕ) (cells : List Cell) (c : Cell) → AreCells low c.number cells → low ≤ c.number → c.number < high → AreCells low high (cells ++ c ∷ [])
cells_push low high [] c fits le lt = (le, lt, tt)
cells_push low high (x ∷ cells) c fits le lt = let at : x.number < c.number = fits.1 in (fits.0, omega arith, cells_push (x.number + 1) high cells c fits.2 (omega arith) lt)

cells_low : (low high : ℕ) (cells : List Cell) (i : ℕ) (d : Cell) → AreCells low high cells → i < length cells → low ≤ (get_or cells i d).number
cells_low low high [] i d fits lt = absurd (omega arith)
cells_low low high (c ∷ cells) zero d fits lt = fits.0
cells_low low high (c ∷ cells) (suc i) d fits lt = let at : low ≤ c.number = fits.0 in omega (arith, cells_low (c.number + 1) high cells i d fits.2 (omega arith))

pub cells_high : (low high : ℕ) (cells : List Cell) (i : ℕ) (d : Cell) → AreCells low high cells → i < length cells → (get_or cells i d).number < high
cells_high low high [] i d fits lt = absurd (omega arith)
cells_high low high (c ∷ cells) zero d fits lt = fits.1
cells_high low high (c ∷ cells) (suc i) d fits lt = cells_high (c.number + 1) high cells i d fits.2 (omega arith)

pub cells_far : (low high : ℕ) (cells : List Cell) (i j : ℕ) (d : Cell) → AreCells low high cells → i ≤ j → j < length cells → (get_or cells i d).number ≤ (get_or cells j d).number
cells_far low high [] i j d fits le lt = absurd (omega arith)
cells_far low high (c ∷ cells) zero zero d fits le lt = omega arith
cells_far low high (c ∷ cells) zero (suc j) d fits le lt = omega (arith, cells_low (c.number + 1) high cells j d fits.2 (omega arith))
cells_far low high (c ∷ cells) (suc i) zero d fits le lt = absurd (omega arith)
cells_far low high (c ∷ cells) (suc i) (suc j) d fits le lt = cells_far (c.number + 1) high cells i j d fits.2 (omega arith) (omega arith)

-- ---- words by number

word_below : (low high : ℕ) (cells : List Cell) (n : ℕ) → AreCells low high cells → n < low → word_in cells n ≡ 0
word_below low high [] n fits lt = refl
word_below low high (c ∷ cells) n fits lt =
    let at : low ≤ c.number = fits.0 in
    rw (ne_eqb c.number n (omega arith)) (word_below (c.number + 1) high cells n fits.2 (omega arith))

pub word_at : (low high : ℕ) (cells : List Cell) (i n : ℕ) (d : Cell) → AreCells low high cells → i < length cells → (get_or cells i d).number ≡ n → word_in cells n ≡ (get_or cells i d).word
word_at low high [] i n d fits lt e = absurd (omega arith)
word_at low high (c ∷ cells) zero n d fits lt e = rw (eq-eqb c.number n e) refl
word_at low high (c ∷ cells) (suc i) n d fits lt e =
    let far = cells_low (c.number + 1) high cells i d fits.2 (omega arith) in
    rw (ne_eqb c.number n (omega arith)) (word_at (c.number + 1) high cells i n d fits.2 (omega arith) e)

pub word_out : (cells : List Cell) (n : ℕ) (d : Cell) → ((k : ℕ) → k < length cells → (get_or cells k d).number ≡ n → ⊥) → word_in cells n ≡ 0
word_out [] n d out = refl
word_out (c ∷ cells) n d out = rw (ne_eqb c.number n (out zero (omega arith))) (word_out cells n d (λ k lt. out (suc k) (omega arith)))

-- ---- the facts

below-cells : (low high x : ℕ) (cells : List Cell) → AreCells low high cells → x < 64 * low → IsBelowAll x (cells_of cells)
below-cells low high x [] fits lt = tt
below-cells low high x (c ∷ cells) fits lt =
    let at : low ≤ c.number = fits.0 in
    below-word x (64 * c.number) c.word (cells_of cells) (omega arith) (below-cells (c.number + 1) high x cells fits.2 (omega arith))

pub rising-cells : (low high : ℕ) (cells : List Cell) → AreCells low high cells → IsRising (cells_of cells)
rising-cells low high [] fits = tt
rising-cells low high (c ∷ cells) fits =
    rising-word (64 * c.number) c.word (cells_of cells) (rising-cells (c.number + 1) high cells fits.2)
    (λ x lt. below-cells (c.number + 1) high x cells fits.2 (omega arith))

pub has_cells : (low high : ℕ) (cells : List Cell) (q : ℕ) → AreCells low high cells → has (cells_of cells) q ≡ on (word_in cells (q / 64)) (q % 64)
has_cells low high [] q fits = sym (on_zero (q % 64))
has_cells low high (c ∷ cells) q fits = has-append (bits_of (64 * c.number) c.word) (cells_of cells) q ∙ rw (has_word c.number c.word q, has_cells (c.number + 1) high cells q fits.2) (elim (cases_eq c.number (q / 64)) [
  | inl e ↦
      let none : word_in cells (q / 64) ≡ 0 = word_below (c.number + 1) high cells (q / 64) fits.2 (omega arith) in
      rw (eq-eqb c.number (q / 64) e, none, on_zero (q % 64)) (or_false (on c.word (q % 64)))
  | inr ne ↦ rw (ne_eqb c.number (q / 64) ne) refl
])
  where
    or_false : (a : Bool) → (a || false) ≡ a
    or_false true = refl
    or_false false = refl

-- ---- changes of one word

module _ (cells made : List Cell) (m w v : ℕ) (was : AreCells 0 (2 ^ 26) cells) (is : AreCells 0 (2 ^ 26) made) (words : (n : ℕ) → word_in made n ≡ cond (eqb m n) v (word_in cells n)) where
  here : (q : ℕ) → m ≡ q / 64 → word_in made (q / 64) ≡ v
  here q e = words (q / 64) ∙ rw (eq-eqb m (q / 64) e) refl

  other : (q : ℕ) → (m ≡ q / 64 → ⊥) → word_in made (q / 64) ≡ word_in cells (q / 64)
  other q ne = words (q / 64) ∙ rw (ne_eqb m (q / 64) ne) refl

  pub put_by : ((i : ℕ) → i < 64 → on v i ≡ (on w i || on (word_in cells m) i)) → cells_of made ≡ plus (cells_of cells) (bits_of (64 * m) w)
  put_by bits = plus_by (cells_of cells) (cells_of made) (bits_of (64 * m) w) (rising-cells 0 (2 ^ 26) cells was) (rising-cells 0 (2 ^ 26) made is) (λ q.
      has_cells 0 (2 ^ 26) made q is ∙ rw (has_word m w q, has_cells 0 (2 ^ 26) cells q was) (elim (cases_eq m (q / 64)) [
        | inl e ↦ rw (here q e, eq-eqb m (q / 64) e) (bits (q % 64) (omega arith) ∙ ap (λ z. on w (q % 64) || on (word_in cells z) (q % 64)) e)
        | inr ne ↦ rw (other q ne, ne_eqb m (q / 64) ne) refl
      ]))

  pub clear_by : ((i : ℕ) → i < 64 → on v i ≡ (not (on w i) && on (word_in cells m) i)) → cells_of made ≡ minus (cells_of cells) (bits_of (64 * m) w)
  clear_by bits = minus_by (cells_of cells) (cells_of made) (bits_of (64 * m) w) (rising-cells 0 (2 ^ 26) cells was) (rising-cells 0 (2 ^ 26) made is) (λ q.
      has_cells 0 (2 ^ 26) made q is ∙ rw (has_word m w q, has_cells 0 (2 ^ 26) cells q was) (elim (cases_eq m (q / 64)) [
        | inl e ↦ rw (here q e, eq-eqb m (q / 64) e) (bits (q % 64) (omega arith) ∙ ap (λ z. not (on w (q % 64)) && on (word_in cells z) (q % 64)) e)
        | inr ne ↦ rw (other q ne, ne_eqb m (q / 64) ne) refl
      ]))

-- a cell with another word
pub AreCells-set : (low high : ℕ) (cells : List Cell) (i m v : ℕ) (d : Cell) → AreCells low high cells → i < length cells → (get_or cells i d).number ≡ m → AreCells low high (set cells i (record { number = m; word = v }))
AreCells-set low high [] i m v d fits lt e = absurd (omega arith)
AreCells-set low high (c ∷ cells) zero m v d fits lt e = subst (λ z. (low ≤ z) × (z < high) × AreCells (z + 1) high cells) e fits
AreCells-set low high (c ∷ cells) (suc i) m v d fits lt e = (fits.0, fits.1, AreCells-set (c.number + 1) high cells i m v d fits.2 (omega arith) e)

pub word-set : (low high : ℕ) (cells : List Cell) (i m v : ℕ) (d : Cell) (n : ℕ) → AreCells low high cells → i < length cells → (get_or cells i d).number ≡ m
    → word_in (set cells i (record { number = m; word = v })) n ≡ cond (eqb m n) v (word_in cells n)
word-set low high [] i m v d n fits lt e = absurd (omega arith)
word-set low high (c ∷ cells) zero m v d n fits lt e = elim (cases_eq m n) [
  | inl f ↦ rw (eq-eqb m n f) refl
  | inr ne ↦ rw (ne_eqb m n ne, ne_eqb c.number n (λ f. ne (sym e ∙ f))) refl
]
word-set low high (c ∷ cells) (suc i) m v d n fits lt e = elim (cases_eq c.number n) [
  | inl f ↦
      let far = cells_low (c.number + 1) high cells i d fits.2 (omega arith) in
      rw (eq-eqb c.number n f, ne_eqb m n (omega arith)) refl
  | inr ne ↦ rw (ne_eqb c.number n ne) (word-set (c.number + 1) high cells i m v d n fits.2 (omega arith) e)
]

-- one cell less
pub AreCells-remove : (low high : ℕ) (cells : List Cell) (i : ℕ) → AreCells low high cells → i < length cells → AreCells low high (remove cells i)
AreCells-remove low high [] i fits lt = absurd (omega arith)
AreCells-remove low high (c ∷ cells) zero fits lt = let at : low ≤ c.number = fits.0 in cells_wider low (c.number + 1) high cells (omega arith) fits.2
AreCells-remove low high (c ∷ cells) (suc i) fits lt = (fits.0, fits.1, AreCells-remove (c.number + 1) high cells i fits.2 (omega arith))

pub word-remove : (low high : ℕ) (cells : List Cell) (i m : ℕ) (d : Cell) (n : ℕ) → AreCells low high cells → i < length cells → (get_or cells i d).number ≡ m
    → word_in (remove cells i) n ≡ cond (eqb m n) 0 (word_in cells n)
word-remove low high [] i m d n fits lt e = absurd (omega arith)
word-remove low high (c ∷ cells) zero m d n fits lt e = elim (cases_eq m n) [
  | inl f ↦ rw (eq-eqb m n f) (word_below (c.number + 1) high cells n fits.2 (omega arith))
  | inr ne ↦ rw (ne_eqb m n ne, ne_eqb c.number n (λ f. ne (sym e ∙ f))) refl
]
word-remove low high (c ∷ cells) (suc i) m d n fits lt e = elim (cases_eq c.number n) [
  | inl f ↦
      let far = cells_low (c.number + 1) high cells i d fits.2 (omega arith) in
      rw (eq-eqb c.number n f, ne_eqb m n (omega arith)) refl
  | inr ne ↦ rw (ne_eqb c.number n ne) (word-remove (c.number + 1) high cells i m d n fits.2 (omega arith) e)
]

-- one cell more
pub AreCells-insert : (low high : ℕ) (cells : List Cell) (i : ℕ) (c d : Cell) → AreCells low high cells → low ≤ c.number → c.number < high → LacksCell c.number cells i → AreCells low high (insert cells i c)
AreCells-insert low high [] zero c d fits le lt out = (le, lt, tt)
AreCells-insert low high [] (suc i) c d fits le lt out = absurd (let z = out.0 in omega arith)
AreCells-insert low high (x ∷ cells) zero c d fits le lt out = (le, lt, ((let z = out.2 zero d (omega arith) (omega arith) in omega arith), fits.1, fits.2))
AreCells-insert low high (x ∷ cells) (suc i) c d fits le lt out = (
  fits.0,
  fits.1,
  AreCells-insert (x.number + 1) high cells i c d fits.2 (let z = out.1 zero d (omega arith) in omega arith) lt
      ((let z = out.0 in omega arith), (λ k e l. out.1 (suc k) e (omega arith)), (λ k e l m. out.2 (suc k) e (omega arith) (omega arith))),
)

pub word-insert : (cells : List Cell) (i : ℕ) (c d : Cell) (n : ℕ) → LacksCell c.number cells i → word_in (insert cells i c) n ≡ cond (eqb c.number n) c.word (word_in cells n)
word-insert [] zero c d n out = refl
word-insert [] (suc i) c d n out = absurd (let z = out.0 in omega arith)
word-insert (x ∷ cells) zero c d n out = refl
word-insert (x ∷ cells) (suc i) c d n out =
    let less = out.1 zero d (omega arith) in
    let more = word-insert cells i c d n ((let z = out.0 in omega arith), (λ k e l. out.1 (suc k) e (omega arith)), (λ k e l m. out.2 (suc k) e (omega arith) (omega arith))) in
    elim (cases_eq x.number n) [
      | inl e ↦ rw (eq-eqb x.number n e, ne_eqb c.number n (omega arith)) refl
      | inr ne ↦ rw (ne_eqb x.number n ne) more
    ]

pub word_lacks : (cells : List Cell) (i n : ℕ) (d : Cell) → LacksCell n cells i → word_in cells n ≡ 0
word_lacks cells i n d out = word_out cells n d (λ k lt e. elim (cases_lt k i) [
  | inl l ↦ let z = out.1 k d l in omega arith
  | inr g ↦ let z = out.2 k d g lt in omega arith
])

-- ---- to and from words

pub cells_of-push : (cells : List Cell) (c : Cell) → cells_of (cells ++ c ∷ []) ≡ cells_of cells ++ bits_of (64 * c.number) c.word
cells_of-push [] c = none (bits_of (64 * c.number) c.word)
  where
    none : (xs : List ℕ) → xs ++ [] ≡ xs
    none [] = refl
    none (x ∷ xs) = ap (λ z. x ∷ z) (none xs)
cells_of-push (x ∷ cells) c = ap (λ z. bits_of (64 * x.number) x.word ++ z) (cells_of-push cells c) ∙ sym (Rattle.std.proofs.Common.append_assoc (bits_of (64 * x.number) x.word) (cells_of cells) (bits_of (64 * c.number) c.word))

-- where a cell is missing
pub lacks_end : (cells : List Cell) (place n : ℕ) → place ≡ length cells → ((k : ℕ) (d : Cell) → k < place → (get_or cells k d).number < n) → LacksCell n cells place
lacks_end cells place n end below = (omega arith, below, λ k d ge lt. absurd (omega arith))

-- the default of a read within the list doesn't matter
number_same : (cells : List Cell) (k : ℕ) (d e : Cell) → k < length cells → (get_or cells k d).number ≡ (get_or cells k e).number
number_same [] k d e lt = absurd (omega arith)
number_same (c ∷ cells) zero d e lt = refl
number_same (c ∷ cells) (suc k) d e lt = number_same cells k d e (omega arith)

pub all_below : (cells : List Cell) (middle n : ℕ) (e : Cell) → AreCells 0 (2 ^ 26) cells → middle < length cells → (get_or cells middle e).number < n
    → (k : ℕ) (d : Cell) → k < middle + 1 → (get_or cells k d).number < n
all_below cells middle n e fits within less k d lt =
    let same = number_same cells middle d e within in
    let far = cells_far 0 (2 ^ 26) cells k middle d fits (omega arith) within in
    omega arith

pub all_above : (cells : List Cell) (middle n : ℕ) (e : Cell) → AreCells 0 (2 ^ 26) cells → n ≤ (get_or cells middle e).number
    → (k : ℕ) (d : Cell) → middle ≤ k → k < length cells → n ≤ (get_or cells k d).number
all_above cells middle n e fits more k d le lt =
    let same = number_same cells middle d e (omega arith) in
    let far = cells_far 0 (2 ^ 26) cells middle k d fits le lt in
    omega arith

pub lacks_here : (cells : List Cell) (place n : ℕ) (e : Cell) → AreCells 0 (2 ^ 26) cells → place ≤ length cells → (place ≡ length cells → ⊥)
    → ((k : ℕ) (d : Cell) → k < place → (get_or cells k d).number < n) → ((k : ℕ) (d : Cell) → place ≤ k → k < length cells → n ≤ (get_or cells k d).number)
    → ((get_or cells place e).number ≡ n → ⊥) → LacksCell n cells place
lacks_here cells place n e fits le some below above ne =
    let lt : place < length cells = omega arith in
    let here : n < (get_or cells place e).number = let z = above place e (omega arith) lt in omega arith in
    (le, below, λ k d ge l. let z = all_above cells place (n + 1) e fits (omega arith) k d ge l in omega arith)

-- what the code makes of one word
module _ (cells : List Cell) (place n w : ℕ) (cell : Cell) (was : AreCells 0 (2 ^ 26) cells) where
  old : HasCell n cells place → cell ≡ get_or cells place cell → cell.word ≡ word_in cells n
  old found is = ap (λ (z : Cell). z.word) is ∙ sym (word_at 0 (2 ^ 26) cells place n cell was found.0 (found.1 cell))

  pub put_in : HasCell n cells place → cell ≡ get_or cells place cell → cells_of (set cells place (record { number = n; word = bit_or cell.word w })) ≡ plus (cells_of cells) (bits_of (64 * n) w)
  put_in found is =
      put_by cells _ n w (bit_or cell.word w) was (AreCells-set 0 (2 ^ 26) cells place n _ cell was found.0 (found.1 cell)) (λ m. word-set 0 (2 ^ 26) cells place n _ cell m was found.0 (found.1 cell))
      (λ i low. on_or cell.word w i ∙ ap (λ z. on w i || on z i) (old found is))

  module _ (small : w < 2 ^ 64) (found : HasCell n cells place) (is : cell ≡ get_or cells place cell) where
    gone : (i : ℕ) → i < 64 → on (bit_and cell.word (bit_not w64 w)) i ≡ (not (on w i) && on (word_in cells n) i)
    gone i low = on_without cell.word w i small low ∙ ap (λ z. not (on w i) && on z i) (old found is)

    pub clear_in : cells_of (set cells place (record { number = n; word = bit_and cell.word (bit_not w64 w) })) ≡ minus (cells_of cells) (bits_of (64 * n) w)
    clear_in =
        clear_by cells _ n w (bit_and cell.word (bit_not w64 w)) was (AreCells-set 0 (2 ^ 26) cells place n _ cell was found.0 (found.1 cell)) (λ m. word-set 0 (2 ^ 26) cells place n _ cell m was found.0 (found.1 cell)) gone

    pub clear_all : bit_and cell.word (bit_not w64 w) ≡ 0 → cells_of (remove cells place) ≡ minus (cells_of cells) (bits_of (64 * n) w)
    clear_all none =
        clear_by cells _ n w 0 was (AreCells-remove 0 (2 ^ 26) cells place was found.0) (λ m. word-remove 0 (2 ^ 26) cells place n cell m was found.0 (found.1 cell))
        (λ i low. ap (λ z. on z i) (sym none) ∙ gone i low)

pub put_new : (cells : List Cell) (place n w : ℕ) → AreCells 0 (2 ^ 26) cells → n < 2 ^ 26 → LacksCell n cells place
    → cells_of (insert cells place (record { number = n; word = w })) ≡ plus (cells_of cells) (bits_of (64 * n) w)
put_new cells place n w was low out =
    let c : Cell = record { number = n; word = w } in
    put_by cells _ n w w was (AreCells-insert 0 (2 ^ 26) cells place c c was (omega arith) low out) (λ m. word-insert cells place c c m out)
    (λ i l. sym (ap (λ z. on w i || on z i) (word_lacks cells place n c out) ∙ rw (on_zero i) (or_none (on w i))))
  where
    or_none : (a : Bool) → (a || false) ≡ a
    or_none true = refl
    or_none false = refl

-- a word that isn't there takes nothing out
pub clear_out : (cells : List Cell) (place n w : ℕ) → AreCells 0 (2 ^ 26) cells → LacksCell n cells place → cells_of cells ≡ minus (cells_of cells) (bits_of (64 * n) w)
clear_out cells place n w was out =
    clear_by cells cells n w 0 was was
    (λ m. elim (cases_eq n m) [
      | inl e ↦ rw (eq-eqb n m e) (ap (word_in cells) (sym e) ∙ none)
      | inr ne ↦ rw (ne_eqb n m ne) refl
    ])
    (λ i l. on_zero i ∙ sym (ap (λ z. not (on w i) && on z i) none ∙ rw (on_zero i) (and_none (not (on w i)))))
  where
    none : word_in cells n ≡ 0
    none = word_lacks cells place n (record { number = n; word = w }) out

    and_none : (a : Bool) → (a && false) ≡ false
    and_none true = refl
    and_none false = refl

-- one more word as a cell, or none where it is 0
module _ (cells : List Cell) (words : List ℕ) (n : ℕ) (lt : n < length words) (made : cells_of cells ≡ row_of 0 (take n words)) (fits : AreCells 0 n cells) where
  next : take (n + 1) words ≡ take n words ++ get_or words n 0 ∷ []
  next = (take_at_read words n 0 lt).1

  row_next : (w : ℕ) → w ≡ get_or words n 0 → row_of 0 (take (n + 1) words) ≡ row_of 0 (take n words) ++ bits_of (64 * n) w
  row_next w is =
      let at : 0 + 64 * length (take n words) ≡ 64 * n = let l = length-take-le n words (omega arith) in omega arith in
      ap (row_of 0) next ∙ row-append (take n words) (get_or words n 0 ∷ []) 0 ∙ rw (at, ← is) (ap (λ z. row_of 0 (take n words) ++ z) (append-nil (bits_of (64 * n) w)))

  pub cell_made : (w : ℕ) → w ≡ get_or words n 0 → cells_of (cells ++ record { number = n; word = w } ∷ []) ≡ row_of 0 (take (n + 1) words)
  cell_made w is = cells_of-push cells (record { number = n; word = w }) ∙ ap (λ z. z ++ bits_of (64 * n) w) made ∙ sym (row_next w is)

  pub cell_fits : (w : ℕ) → AreCells 0 (n + 1) (cells ++ record { number = n; word = w } ∷ [])
  cell_fits w = cells_push 0 (n + 1) cells (record { number = n; word = w }) fits (omega arith) (omega arith)

  pub none_made : get_or words n 0 ≡ 0 → cells_of cells ≡ row_of 0 (take (n + 1) words)
  none_made none = made ∙ sym (ap (row_of 0) next ∙ ap (λ z. row_of 0 (take n words ++ z ∷ [])) none ∙ row_zero (take n words) 0)

-- one more cell as a word
module _ (words wide : List ℕ) (cells : List Cell) (i : ℕ) (d : Cell) (lt : i < length cells) (made : row_of 0 words ≡ cells_of (take i cells)) (ahead : AreCells (length words) (2 ^ 26) (drop i cells))
    (same : row_of 0 wide ≡ row_of 0 words) (long : length wide ≡ max (length words) (get_or cells i d).number) where
  split : drop i cells ≡ get_or cells i d ∷ drop (i + 1) cells
  split = rw add-one (drop-cons cells i d lt)

  here_fits : AreCells (length words) (2 ^ 26) (get_or cells i d ∷ drop (i + 1) cells)
  here_fits = subst (λ (z : List Cell). AreCells (length words) (2 ^ 26) z) split ahead

  pub wide_long : length wide ≡ (get_or cells i d).number
  wide_long = let le = here_fits.0 in omega (arith, long)

  pub wide_low : (get_or cells i d).number < 2 ^ 26
  wide_low = here_fits.1

  pub word_made : row_of 0 (wide ++ (get_or cells i d).word ∷ []) ≡ cells_of (take (i + 1) cells)
  word_made =
      let at : 0 + 64 * length wide ≡ 64 * (get_or cells i d).number = let z = wide_long in omega arith in
      row-append wide ((get_or cells i d).word ∷ []) 0
      ∙ rw at (ap (λ z. row_of 0 wide ++ z) (append-nil (bits_of (64 * (get_or cells i d).number) (get_or cells i d).word)) ∙ ap (λ z. z ++ bits_of (64 * (get_or cells i d).number) (get_or cells i d).word) (same ∙ made))
      ∙ sym (ap cells_of (take_at_read cells i d lt).1 ∙ cells_of-push (take i cells) (get_or cells i d))

  pub word_ahead : (n : ℕ) → n ≡ length wide + 1 → AreCells n (2 ^ 26) (drop (i + 1) cells)
  word_ahead n is = subst (λ z. AreCells z (2 ^ 26) (drop (i + 1) cells)) (let z = wide_long in let f : (get_or cells i d).number + 1 ≡ n = omega arith in f) here_fits.2

pub count_cell : (cells : List Cell) (c : Cell) (n : ℕ) → c.word < 2 ^ 64 → n ≡ length (cells_of cells) → n + count_ones c.word ≡ length (cells_of (cells ++ c ∷ []))
count_cell cells c n small is =
    let both = ap (λ (z : List ℕ). length z) (cells_of-push cells c) ∙ length-append (cells_of cells) (bits_of (64 * c.number) c.word) in
    omega (arith, both, word_ones (64 * c.number) c.word small)

-- a cell without a fact is passed
pub next_cell : (base w : ℕ) (first : Cell) (cells rest : List Cell) → w ≡ 0 → cells ≡ first ∷ rest → bits_of (64 * first.number) first.word ++ cells_of rest ≡ bits_of base w ++ cells_of cells
next_cell base w first cells rest off split = rw (off, split, bits_zero base) refl

pub no_cells : (cells : List Cell) → length cells ≡ 0 → cells ≡ []
no_cells [] e = refl
no_cells (c ∷ cells) e = absurd (omega arith)

pub cells_rest : (first : Cell) (cells rest : List Cell) → AreCells 0 (2 ^ 26) cells → cells ≡ first ∷ rest → (first.number < 2 ^ 26) × AreCells 0 (2 ^ 26) rest
cells_rest first cells rest fits split =
    let all : AreCells 0 (2 ^ 26) (first ∷ rest) = subst (λ (z : List Cell). AreCells 0 (2 ^ 26) z) split fits in
    (all.1, cells_wider 0 (first.number + 1) (2 ^ 26) rest (omega arith) all.2)

pub cells_few : (low high : ℕ) (cells : List Cell) → AreCells low high cells → length cells ≤ high - low
cells_few low high [] fits = omega arith
cells_few low high (c ∷ cells) fits = omega (arith, fits.0, fits.1, cells_few (c.number + 1) high cells fits.2)

-- one cell less to put in, take out or look at
module _ (cells : List Cell) (i : ℕ) (d : Cell) (lt : i < length cells) where
  cell_split : cells_of (drop i cells) ≡ bits_of (64 * (get_or cells i d).number) (get_or cells i d).word ++ cells_of (drop (i + 1) cells)
  cell_split = let split : drop i cells ≡ get_or cells i d ∷ drop (i + 1) cells = rw add-one (drop-cons cells i d lt) in ap cells_of split

  pub plus_cell : (s t : List ℕ) → t ≡ plus s (bits_of (64 * (get_or cells i d).number) (get_or cells i d).word) → plus t (cells_of (drop (i + 1) cells)) ≡ plus s (cells_of (drop i cells))
  plus_cell s t is = ap (λ (z : List ℕ). plus z (cells_of (drop (i + 1) cells))) is ∙ sym (plus-append s (bits_of (64 * (get_or cells i d).number) (get_or cells i d).word) (cells_of (drop (i + 1) cells))) ∙ ap (plus s) (sym cell_split)

  pub minus_cell : (s t : List ℕ) → t ≡ minus s (bits_of (64 * (get_or cells i d).number) (get_or cells i d).word) → minus t (cells_of (drop (i + 1) cells)) ≡ minus s (cells_of (drop i cells))
  minus_cell s t is = ap (λ (z : List ℕ). minus z (cells_of (drop (i + 1) cells))) is ∙ sym (minus-append s (bits_of (64 * (get_or cells i d).number) (get_or cells i d).word) (cells_of (drop (i + 1) cells))) ∙ ap (minus s) (sym cell_split)

  pub any_cell : (p : ℕ → Bool) → list_any p (cells_of (drop i cells)) ≡ (list_any p (bits_of (64 * (get_or cells i d).number) (get_or cells i d).word) || list_any p (cells_of (drop (i + 1) cells)))
  any_cell p = ap (list_any p) cell_split ∙ any-append p (bits_of (64 * (get_or cells i d).number) (get_or cells i d).word) (cells_of (drop (i + 1) cells))

pub all_cell : (cells : List Cell) (i : ℕ) (d : Cell) → i < length cells → (p : ℕ → Bool) → list_all p (cells_of (drop i cells)) ≡ (list_all p (bits_of (64 * (get_or cells i d).number) (get_or cells i d).word) && list_all p (cells_of (drop (i + 1) cells)))
all_cell cells i d lt p = ap (list_all p) (cell_split cells i d lt) ∙ all_both p (bits_of (64 * (get_or cells i d).number) (get_or cells i d).word) (cells_of (drop (i + 1) cells))

pub cells_within : (low high n : ℕ) (cells : List Cell) (d : Cell) → AreCells low high cells → 0 < length cells → (get_or cells (length cells - 1) d).number < n → AreCells low n cells
cells_within low high n [] d fits some last = tt
cells_within low high n (c ∷ []) d fits some last = (fits.0, last, tt)
cells_within low high n (c ∷ x ∷ xs) d fits some last =
    let e : suc (suc (length xs)) - 1 ≡ suc (length xs) = omega arith in
    let f : suc (length xs) - 1 ≡ length xs = omega arith in
    let top : (get_or (x ∷ xs) (length xs) d).number < n = subst (λ z. (get_or (c ∷ x ∷ xs) z d).number < n) e last in
    let far = cells_far low high (c ∷ x ∷ xs) 0 (suc (length xs)) d fits (omega arith) (omega arith) in
    (fits.0, omega arith, cells_within (c.number + 1) high n (x ∷ xs) d fits.2 (omega arith) (subst (λ z. (get_or (x ∷ xs) z d).number < n) (sym f) top))

-- the word of a number, as the facts that it has
pub cell_facts : (cells : List Cell) (n b : ℕ) → AreCells 0 (2 ^ 26) cells → b < 64 → has (cells_of cells) (64 * n + b) ≡ eqb (bit_at (word_in cells n) b) 1
cell_facts cells n b fits low =
    let word : (64 * n + b) / 64 ≡ n = omega arith in
    let bit : (64 * n + b) % 64 ≡ b = omega arith in
    has_cells 0 (2 ^ 26) cells (64 * n + b) fits ∙ on_is (word_in cells ((64 * n + b) / 64)) ((64 * n + b) % 64) ∙ rw (word, bit) refl
