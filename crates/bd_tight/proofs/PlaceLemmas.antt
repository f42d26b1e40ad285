-- Places in lists, and positions of some of the kids.
use Rattle.std.proofs.Common.{◌≡◌, ℕ, zero, suc, ◌+◌, ◌<◌, ◌≤◌, Bool, true, false, cond, List, [], ◌∷◌, map, filter, Some, slice_get, refl, sym, ap, ◌∙◌, ◌⊎◌, inl, inr, subst, arith}
use Rattle.std.specs.List.{enumerate_from}
use Rattle.std.proofs.lemmas.Bool.{both_ways, eq-eqb, or_left, or_right}
use Rattle.bd_tree.specs.declared.node.Node.{Node}
use Rattle.bd_links.proofs.Members.{In, here, there}
use Rattle.bd_shape.specs.Placed.{AreApart, is_kid, stands_in}
use Rattle.bd_shape.specs.declared.place.Place.{Place}
use Rattle.bd_shape.specs.declared.place.Place.TheVariants.{Outside, Group}
use Rattle.bd_tight.proofs.KidLemmas.{in_numbered}

-- places in lists
pub in_place : {X : Type 0} (xs : List X) (x : X) → In x xs → (q : ℕ) × (slice_get xs q ≡ Some x)
in_place [] x i = elim i [ ]
in_place (y ∷ xs) x here = (zero, refl)
in_place (y ∷ xs) x (there i) = let r = in_place xs x i in (suc r.0, r.1)

pub place_in : {X : Type 0} (xs : List X) (q : ℕ) (x : X) → slice_get xs q ≡ Some x → In x xs
place_in [] q x e = absurd (cc)
place_in (y ∷ xs) zero x e = let same : y ≡ x = cc in subst (λ z. In z (y ∷ xs)) same here
place_in (y ∷ xs) (suc q) x e = there (place_in xs q x e)

pub place_map : {X : Type 0} {Y : Type 0} (f : X → Y) (xs : List X) (q : ℕ) (x : X) → slice_get xs q ≡ Some x → slice_get (map f xs) q ≡ Some (f x)
place_map f [] q x e = absurd (cc)
place_map f (y ∷ xs) zero x e = let same : y ≡ x = cc in ap (λ z. Some (f z)) same
place_map f (y ∷ xs) (suc q) x e = place_map f xs q x e

pub map_place : {X : Type 0} {Y : Type 0} (f : X → Y) (xs : List X) (q : ℕ) (y : Y) → slice_get (map f xs) q ≡ Some y → (x : X) × (slice_get xs q ≡ Some x) × (y ≡ f x)
map_place f [] q y e = absurd (cc)
map_place f (x ∷ xs) zero y e = let same : f x ≡ y = cc in (x, refl, sym same)
map_place f (x ∷ xs) (suc q) y e = map_place f xs q y e

pub filter_in : {X : Type 0} (t : X → Bool) (x : X) (xs : List X) → In x (filter t xs) → In x xs × (t x ≡ true)
filter_in t x [] i = elim i [ ]
filter_in t x (y ∷ xs) i = one (t y) refl i (filter_in t x xs)
  where
    first_or : In x (y ∷ filter t xs) → (x ≡ y) ⊎ In x (filter t xs)
    first_or j = Rattle.bd_links.proofs.Members.in_without [] (filter t xs) y x j

    one : (b : Bool) → t y ≡ b → In x (cond b (y ∷ filter t xs) (filter t xs)) → (In x (filter t xs) → In x xs × (t x ≡ true)) → In x (y ∷ xs) × (t x ≡ true)
    one true e j rest = elim (first_or j) [
      | inl same ↦ (subst (λ z. In z (y ∷ xs)) (sym same) here, ap t same ∙ e)
      | inr later ↦ let r = rest later in (there r.0, r.1)
    ]
    one false e j rest = let r = rest j in (there r.0, r.1)

-- positions of some of the kids are each there once
positions_above : (t : ℕ × Node → Bool) (m : ℕ) (kids : List Node) (k : ℕ × Node) → In k (filter t (enumerate_from m kids)) → m ≤ k.0
positions_above t m kids k i =
    let r = in_numbered m kids k (filter_in t k (enumerate_from m kids) i).0 in
    omega (arith, r.1)

pub once_from : (t : ℕ × Node → Bool) (m : ℕ) (kids : List Node) (q r : ℕ) (k l : ℕ × Node) → slice_get (filter t (enumerate_from m kids)) q ≡ Some k → slice_get (filter t (enumerate_from m kids)) r ≡ Some l → k.0 ≡ l.0 → q ≡ r
once_from t m [] q r k l e f s = absurd (cc)
once_from t m (n ∷ kids) q r k l e f s = one (t (m, n)) q r e f (λ q r e f. once_from t (m + 1) kids q r k l e f s)
  where
    rest : List (ℕ × Node)
    rest = filter t (enumerate_from (m + 1) kids)

    later : (q : ℕ) (k : ℕ × Node) → slice_get (filter t (enumerate_from (m + 1) kids)) q ≡ Some k → m < k.0
    later q k e = let z = positions_above t (m + 1) kids k (place_in (filter t (enumerate_from (m + 1) kids)) q k e) in omega (arith, z)

    one : (b : Bool) (q r : ℕ) → slice_get (cond b ((m, n) ∷ filter t (enumerate_from (m + 1) kids)) (filter t (enumerate_from (m + 1) kids))) q ≡ Some k → slice_get (cond b ((m, n) ∷ filter t (enumerate_from (m + 1) kids)) (filter t (enumerate_from (m + 1) kids))) r ≡ Some l →
        ((q r : ℕ) → slice_get (filter t (enumerate_from (m + 1) kids)) q ≡ Some k → slice_get (filter t (enumerate_from (m + 1) kids)) r ≡ Some l → q ≡ r) → q ≡ r
    one true zero zero e f go = refl
    one true zero (suc r) e f go =
        let same : (m, n) ≡ k = cc in
        let at : m ≡ k.0 = ap (λ (z : ℕ × Node). z.0) same in
        let up = later r l f in
        absurd (omega (arith, at, up, s))
    one true (suc q) zero e f go =
        let same : (m, n) ≡ l = cc in
        let at : m ≡ l.0 = ap (λ (z : ℕ × Node). z.0) same in
        let up = later q k e in
        absurd (omega (arith, at, up, s))
    one true (suc q) (suc r) e f go = ap suc (go q r e f)
    one false q r e f go = go q r e f

pub stands_at_all : (places : List Place) (d r : ℕ) → slice_get places r ≡ Some (Outside d) → stands_in d places ≡ true
stands_at_all [] d r e = absurd (cc)
stands_at_all (p ∷ places) d zero e = let same : p ≡ Outside d = cc in or_left _ _ (ap (is_kid d) same ∙ eq-eqb d d refl)
stands_at_all (p ∷ places) d (suc r) e = or_right (is_kid d p) _ (stands_at_all places d r e)

pub apart_once : (bound : ℕ) (places : List Place) → AreApart bound places → (d q r : ℕ) → slice_get places q ≡ Some (Outside d) → slice_get places r ≡ Some (Outside d) → q ≡ r
apart_once bound [] a d q r e f = absurd (cc)
apart_once bound (p ∷ places) a d zero zero e f = refl
apart_once bound (p ∷ places) a d zero (suc r) e f = let same : p ≡ Outside d = cc in absurd (clash same r f (subst (λ z. AreApart bound (z ∷ places)) same a))
  where
    clash : p ≡ Outside d → (r : ℕ) → slice_get places r ≡ Some (Outside d) → AreApart bound (Outside d ∷ places) → ⊥
    clash same r f b = both_ways _ b.1 (stands_at_all places d r f)
apart_once bound (p ∷ places) a d (suc q) zero e f = let same : p ≡ Outside d = cc in absurd (clash same q e (subst (λ z. AreApart bound (z ∷ places)) same a))
  where
    clash : p ≡ Outside d → (r : ℕ) → slice_get places r ≡ Some (Outside d) → AreApart bound (Outside d ∷ places) → ⊥
    clash same r f b = both_ways _ b.1 (stands_at_all places d r f)
apart_once bound (Group ∷ places) a d (suc q) (suc r) e f = ap suc (apart_once bound places a d q r e f)
apart_once bound (Outside c ∷ places) a d (suc q) (suc r) e f = ap suc (apart_once bound places a.2 d q r e f)
