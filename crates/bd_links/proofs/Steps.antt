-- One more item of a list in a loop.
use Rattle.std.proofs.Common.{◌≡◌, ℕ, Bool, true, zero, suc, ◌+◌, ◌<◌, List, [], ◌∷◌, ◌++◌, length, get_or, take, drop, map, refl, sym, ap, ◌∙◌, add-one, drop-cons, arith}
use Rattle.std.specs.List.{list_all}
use Rattle.std.proofs.lemmas.Bool.{and_parts}
use Rattle.bd_task.specs.TaskView.{TaskView}
use Rattle.bd_task.specs.Valid.{cost_of}

pub drop-at : {X : Type 0} (xs : List X) (i : ℕ) (x : X) → i < length xs → x ≡ get_or xs i x → drop i xs ≡ x ∷ drop (i + 1) xs
drop-at xs i x lt is = drop-cons xs i x lt ∙ ap (λ z. z ∷ drop (suc i) xs) (sym is) ∙ rw add-one refl

pub cost_of-append : (task : TaskView) (xs ys : List ℕ) → cost_of task (xs ++ ys) ≡ cost_of task xs + cost_of task ys
cost_of-append task [] ys = omega arith
cost_of-append task (x ∷ xs) ys =
    let rest = cost_of-append task xs ys in
    omega (arith, rest)

map-take-next : {X Y : Type 0} (f : X → Y) (xs : List X) (i : ℕ) (x : X) → i < length xs → x ≡ get_or xs i x → map f (take i xs) ++ f x ∷ [] ≡ map f (take (i + 1) xs)
map-take-next f [] i x lt is = absurd (omega arith)
map-take-next f (y ∷ xs) zero x lt is = ap (λ z. f z ∷ []) is
map-take-next f (y ∷ xs) (suc i) x lt is = rw add-one (ap (λ z. f y ∷ z) (map-take-next f xs i x (omega arith) is ∙ rw add-one refl))

pub made_next : {X Y : Type 0} (f : X → Y) (xs : List X) (i : ℕ) (x : X) (made more : List Y) (y : Y) → i < length xs → x ≡ get_or xs i x → made ≡ map f (take i xs) → y ≡ f x → more ≡ made ++ y ∷ [] → more ≡ map f (take (i + 1) xs)
made_next f xs i x made more y lt is so_far one e = e ∙ ap (λ z. z ++ y ∷ []) so_far ∙ ap (λ z. map f (take i xs) ++ z ∷ []) one ∙ map-take-next f xs i x lt is

pub all-drop-next : {X : Type 0} (t : X → Bool) (xs : List X) (i : ℕ) (x : X) → i < length xs → x ≡ get_or xs i x → list_all (λ b. b) (map t (drop i xs)) ≡ true → list_all (λ b. b) (map t (drop (i + 1) xs)) ≡ true
all-drop-next t xs i x lt is h = (and_parts (t x) (list_all (λ b. b) (map t (drop (i + 1) xs))) (sym (ap (λ z. list_all (λ b. b) (map t z)) (drop-at xs i x lt is)) ∙ h)).1
