-- The generated texts are far shorter than 16 MiB.
use Rattle.std.proofs.Common.{◌≡◌, ℕ, zero, suc, ◌+◌, ◌-◌, ◌*◌, ◌<◌, ◌≤◌, ◌^◌, List, ◌++◌, length, codes, decimal, arith, lit≤}
use Rattle.std.proofs.lemmas.Fmt.{length-decimal-le}
use Rattle.std.proofs.lemmas.List.{length-append}
use Rattle.bd_gen.specs.Errands.{errand_lines, hub_roads, length_back, length_of, length_out, parcel_name, parcel_there, place_line, place_name, plan_of, problem_of, road_line, texts_to, titled, wanted}

-- two texts behind each other
both : (a b : ℕ) (xs ys : List ℕ) → length xs ≤ a → length ys ≤ b → length (xs ++ ys) ≤ a + b
both a b xs ys h k = omega (arith, length-append xs ys, h, k)

few_digits : (n : ℕ) → n ≤ 601 → length (decimal n) ≤ 4
few_digits n h = length-decimal-le 4 n (omega arith) (omega arith) (omega arith)

short_titled : (title : List ℕ) (n : ℕ) → length title ≤ 40 → n ≤ 601 → length (titled title n) ≤ 44
short_titled title n h k = both 40 4 title (decimal n) h (few_digits n k)

-- a text of at most 1,000 bytes for each
short_texts : (f : ℕ → List ℕ) (n : ℕ) → ((i : ℕ) → i ≤ n → length (f i) ≤ 1_000) → length (texts_to f n) ≤ n * 1_000
short_texts f zero h = omega arith
short_texts f (suc n) h = omega (arith, length-append (texts_to f n) (f (suc n)), short_texts f n (λ i le. h i (omega arith)), h (suc n) (omega arith))

short_roads : (i : ℕ) → i ≤ 601 → length (hub_roads i) ≤ 128
short_roads i h =
    both 88 40 (titled (codes "(road l0 l") i ++ titled (codes ") (road l") i) (codes " l0)")
    (both 44 44 (titled (codes "(road l0 l") i) (titled (codes ") (road l") i) (short_titled (codes "(road l0 l") i (lit≤ tt) h) (short_titled (codes ") (road l") i (lit≤ tt) h)) (lit≤ tt)

way : (i : ℕ) → length_of i ≤ 601
way i = omega (arith)

short_out : (i : ℕ) → i ≤ 601 → length (length_out i) ≤ 128
short_out i h =
    both 88 40 (titled (codes " (= (len l0 l") i ++ titled (codes ") ") (length_of i)) (codes ")")
    (both 44 44 (titled (codes " (= (len l0 l") i) (titled (codes ") ") (length_of i)) (short_titled (codes " (= (len l0 l") i (lit≤ tt) h) (short_titled (codes ") ") (length_of i) (lit≤ tt) (way i))) (lit≤ tt)

short_back : (i : ℕ) → i ≤ 601 → length (length_back i) ≤ 128
short_back i h =
    both 88 40 (titled (codes " (= (len l") i ++ titled (codes " l0) ") (length_of i)) (codes ")")
    (both 44 44 (titled (codes " (= (len l") i) (titled (codes " l0) ") (length_of i)) (short_titled (codes " (= (len l") i (lit≤ tt) h) (short_titled (codes " l0) ") (length_of i) (lit≤ tt) (way i))) (lit≤ tt)

short_parcel : (i : ℕ) → i ≤ 601 → length (parcel_there i) ≤ 128
short_parcel i h =
    both 88 40 (titled (codes " (lies p") i ++ titled (codes " l") i) (codes ")\n")
    (both 44 44 (titled (codes " (lies p") i) (titled (codes " l") i) (short_titled (codes " (lies p") i (lit≤ tt) h) (short_titled (codes " l") i (lit≤ tt) h)) (lit≤ tt)

short_place : (i : ℕ) → i ≤ 601 → length (place_line i) ≤ 1_000
short_place i h =
    let all : length (place_line i) ≤ 512 = both 384 128 (hub_roads i ++ length_out i ++ length_back i) (parcel_there i)
    (both 256 128 (hub_roads i ++ length_out i) (length_back i) (both 128 128 (hub_roads i) (length_out i) (short_roads i h) (short_out i h)) (short_back i h)) (short_parcel i h) in
    omega (arith, all)

short_road : (i : ℕ) → i ≤ 600 → length (road_line i) ≤ 1_000
short_road i h =
    let next : i + 1 ≤ 601 = omega arith in
    let here : i ≤ 601 = omega arith in
    let a = short_titled (codes "(road l") i (lit≤ tt) here in
    let b = short_titled (codes " l") (i + 1) (lit≤ tt) next in
    let c = short_titled (codes ") (= (len l") i (lit≤ tt) here in
    let all : length (road_line i) ≤ 216 =
    both 176 40 (titled (codes "(road l") i ++ titled (codes " l") (i + 1) ++ titled (codes ") (= (len l") i ++ titled (codes " l") (i + 1)) (codes ") 1)\n")
    (both 132 44 (titled (codes "(road l") i ++ titled (codes " l") (i + 1) ++ titled (codes ") (= (len l") i) (titled (codes " l") (i + 1))
    (both 88 44 (titled (codes "(road l") i ++ titled (codes " l") (i + 1)) (titled (codes ") (= (len l") i) (both 44 44 (titled (codes "(road l") i) (titled (codes " l") (i + 1)) a b) c) b) (lit≤ tt) in
    omega (arith, all)

short_wanted : (i : ℕ) → i ≤ 601 → length (wanted i) ≤ 1_000
short_wanted i h = omega (arith, both 44 40 (titled (codes " (have p") i) (codes ")") (short_titled (codes " (have p") i (lit≤ tt) h) (lit≤ tt))

short_errand : (i : ℕ) → i ≤ 601 → length (errand_lines i) ≤ 1_000
short_errand i h =
    let all : length (errand_lines i) ≤ 216 =
    both 176 40 (titled (codes "(drive l0 l") i ++ titled (codes ")\n(get p") i ++ titled (codes " l") i ++ titled (codes ")\n(drive l") i) (codes " l0)\n")
    (both 132 44 (titled (codes "(drive l0 l") i ++ titled (codes ")\n(get p") i ++ titled (codes " l") i) (titled (codes ")\n(drive l") i)
    (both 88 44 (titled (codes "(drive l0 l") i ++ titled (codes ")\n(get p") i) (titled (codes " l") i)
    (both 44 44 (titled (codes "(drive l0 l") i) (titled (codes ")\n(get p") i) (short_titled (codes "(drive l0 l") i (lit≤ tt) h) (short_titled (codes ")\n(get p") i (lit≤ tt) h))
    (short_titled (codes " l") i (lit≤ tt) h)) (short_titled (codes ")\n(drive l") i (lit≤ tt) h)) (lit≤ tt) in
    omega (arith, all)

pub short_plan : (n : ℕ) → n ≤ 600 → length (plan_of n) ≤ 16_777_216
short_plan n h = omega (arith, short_texts errand_lines n (λ i le. short_errand i (omega arith)))

-- the parts of a problem's text
abbrev start_part : List ℕ
start_part = codes "(define (problem errands)\n(:domain errands)\n(:objects l0"

abbrev place_part : List ℕ
place_part = codes " - place"

abbrev init_part : List ℕ
init_part = codes " - parcel)\n(:init (at l0) (= (total-cost) 0)\n"

abbrev goal_part : List ℕ
goal_part = codes ")\n(:goal (and"

abbrev end_part : List ℕ
end_part = codes " (at l0)))\n(:metric minimize (total-cost)))\n"

module _ (n : ℕ) (few : n ≤ 600) where
  abbrev each : ℕ
  each = n * 1_000

  names : length (start_part ++ texts_to place_name n) ≤ 100 + each
  names = both 100 each start_part (texts_to place_name n) (lit≤ tt) (short_texts place_name n (λ i le. omega (arith, short_titled (codes " l") i (lit≤ tt) (omega arith))))

  parcels : length (start_part ++ texts_to place_name n ++ place_part ++ texts_to parcel_name n) ≤ 200 + each + each
  parcels = omega (
    arith,
    both (200 + each) each (start_part ++ texts_to place_name n ++ place_part) (texts_to parcel_name n)
        (omega (arith, both (100 + each) 100 (start_part ++ texts_to place_name n) place_part names (lit≤ tt)))
        (short_texts parcel_name n (λ i le. omega (arith, short_titled (codes " p") i (lit≤ tt) (omega arith)))),
  )

  places : length (start_part ++ texts_to place_name n ++ place_part ++ texts_to parcel_name n ++ init_part ++ texts_to place_line n) ≤ 300 + each + each + each
  places = omega (
    arith,
    both (300 + each + each) each (start_part ++ texts_to place_name n ++ place_part ++ texts_to parcel_name n ++ init_part) (texts_to place_line n)
        (omega (arith, both (200 + each + each) 100 (start_part ++ texts_to place_name n ++ place_part ++ texts_to parcel_name n) init_part parcels (lit≤ tt)))
        (short_texts place_line n (λ i le. short_place i (omega arith))),
  )

  abbrev to_roads : List ℕ
  to_roads = start_part ++ texts_to place_name n ++ place_part ++ texts_to parcel_name n ++ init_part ++ texts_to place_line n ++ texts_to road_line (n - 1)

  roads : length to_roads ≤ 300 + each + each + each + (n - 1) * 1_000
  roads = both (300 + each + each + each) ((n - 1) * 1_000) (start_part ++ texts_to place_name n ++ place_part ++ texts_to parcel_name n ++ init_part ++ texts_to place_line n) (texts_to road_line (n - 1))
      places (short_texts road_line (n - 1) (λ i le. short_road i (omega arith)))

  goals : length (to_roads ++ goal_part ++ texts_to wanted n) ≤ 400 + each + each + each + (n - 1) * 1_000 + each
  goals = omega (
    arith,
    both (400 + each + each + each + (n - 1) * 1_000) each (to_roads ++ goal_part) (texts_to wanted n)
        (omega (arith, both (300 + each + each + each + (n - 1) * 1_000) 100 to_roads goal_part roads (lit≤ tt)))
        (short_texts wanted n (λ i le. short_wanted i (omega arith))),
  )

  pub short_problem : length (problem_of n) ≤ 16_777_216
  short_problem = omega (arith, both (400 + each + each + each + (n - 1) * 1_000 + each) 100 (to_roads ++ goal_part ++ texts_to wanted n) end_part goals (lit≤ tt))
