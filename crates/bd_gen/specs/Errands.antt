-- The texts of N errands. From the place l0 one goes to each of the places l1 to lN and back, and from each to the next one; the
-- parcel pI lies at lI, and all are wanted at the end, at l0. The plan fetches them one by one.
use Rattle.std.specs.Prelude.{ℕ, zero, suc, ◌+◌, ◌-◌, ◌%◌, List, [], ◌++◌, codes, decimal}

-- a number behind its title
abbrev pub titled : List ℕ → ℕ → List ℕ
titled title n = title ++ decimal n

-- the texts of 1 to n
abbrev pub texts_to : (ℕ → List ℕ) → ℕ → List ℕ
texts_to f zero = []
texts_to f (suc n) = texts_to f n ++ f (suc n)

-- the way from the hub to a place, and back
abbrev pub length_of : ℕ → ℕ
length_of i = 2 + i % 2

abbrev pub place_name : ℕ → List ℕ
place_name i = titled (codes " l") i

abbrev pub parcel_name : ℕ → List ℕ
parcel_name i = titled (codes " p") i

-- the roads between the hub and a place, their lengths, and the parcel there
abbrev pub hub_roads : ℕ → List ℕ
hub_roads i = titled (codes "(road l0 l") i ++ titled (codes ") (road l") i ++ codes " l0)"

abbrev pub length_out : ℕ → List ℕ
length_out i = titled (codes " (= (len l0 l") i ++ titled (codes ") ") (length_of i) ++ codes ")"

abbrev pub length_back : ℕ → List ℕ
length_back i = titled (codes " (= (len l") i ++ titled (codes " l0) ") (length_of i) ++ codes ")"

abbrev pub parcel_there : ℕ → List ℕ
parcel_there i = titled (codes " (lies p") i ++ titled (codes " l") i ++ codes ")\n"

abbrev pub place_line : ℕ → List ℕ
place_line i = hub_roads i ++ length_out i ++ length_back i ++ parcel_there i

-- the road from a place to the next one, with its length
abbrev pub road_line : ℕ → List ℕ
road_line i =
    titled (codes "(road l") i ++ titled (codes " l") (i + 1)
    ++ titled (codes ") (= (len l") i ++ titled (codes " l") (i + 1) ++ codes ") 1)\n"

abbrev pub wanted : ℕ → List ℕ
wanted i = titled (codes " (have p") i ++ codes ")"

-- out, the parcel, and back
abbrev pub errand_lines : ℕ → List ℕ
errand_lines i =
    titled (codes "(drive l0 l") i ++ titled (codes ")\n(get p") i ++ titled (codes " l") i
    ++ titled (codes ")\n(drive l") i ++ codes " l0)\n"

-- the problem of n errands
abbrev pub problem_of : ℕ → List ℕ
problem_of n =
    codes "(define (problem errands)\n(:domain errands)\n(:objects l0" ++ texts_to place_name n ++ codes " - place"
    ++ texts_to parcel_name n ++ codes " - parcel)\n(:init (at l0) (= (total-cost) 0)\n"
    ++ texts_to place_line n ++ texts_to road_line (n - 1) ++ codes ")\n(:goal (and"
    ++ texts_to wanted n ++ codes " (at l0)))\n(:metric minimize (total-cost)))\n"

-- the plan of n errands
abbrev pub plan_of : ℕ → List ℕ
plan_of n = texts_to errand_lines n
