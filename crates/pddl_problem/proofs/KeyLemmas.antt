-- Keys in a list, looked up by what they hold.
use Rattle.std.proofs.Common.{◌≡◌, ℕ, List, map, position}
use Rattle.std.specs.List.{list_any}
use Rattle.std.specs.Str.{bytes_eq}
use Rattle.pddl_form.proofs.NameLemmas.{list_any-map, position-map}

pub declared-by : {A : Type 0} (f : A → List ℕ) (key : List ℕ) (ks : List A) → list_any (λ n. bytes_eq key n) (map f ks) ≡ list_any (λ k. bytes_eq key (f k)) ks
declared-by f key ks = list_any-map (λ n. bytes_eq key n) f ks

pub place-by : {A : Type 0} (f : A → List ℕ) (key : List ℕ) (ks : List A) → position (λ n. bytes_eq key n) (map f ks) ≡ position (λ k. bytes_eq key (f k)) ks
place-by f key ks = position-map (λ n. bytes_eq key n) f ks
