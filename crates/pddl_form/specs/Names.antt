-- Names in the order in which they were declared.
use Rattle.std.specs.Prelude.{ℕ, Bool, cond, List, [], ◌∷◌, ◌++◌, Option, position}
use Rattle.std.specs.Str.{bytes_eq}
use Rattle.std.specs.List.{list_any}

-- the place of a name among those declared, from 0
abbrev pub place_of : List ℕ → List (List ℕ) → Option ℕ
place_of name names = position (λ n. bytes_eq name n) names

abbrev pub is_declared : List ℕ → List (List ℕ) → Bool
is_declared name names = list_any (λ n. bytes_eq name n) names

-- the names behind those of a list, each once; those of a domain that was read are distinct
abbrev pub names_from : List (List ℕ) → List (List ℕ) → List (List ℕ)
names_from done [] = done
names_from done (n ∷ names) = names_from (cond (is_declared n done) done (done ++ n ∷ [])) names
