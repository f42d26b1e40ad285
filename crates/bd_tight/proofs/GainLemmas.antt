-- What the body meets on its way: pairs with nothing between, and sides that can be grouped.
use Rattle.std.proofs.Common.{◌≡◌, ℕ, Bool, true, false, ◌&&◌, ◌||◌, ◌==◌, eqb, cond, List, [], ◌∷◌, filter, length, map, All, Some, slice_get, get_or, refl, sym, ap, ◌∙◌, subst, ◌<◌, inl, inr, zero, suc, arith}
use Rattle.std.specs.List.{list_any}
use Rattle.std.proofs.lemmas.Bool.{both_ways, eq-eqb, or_left, or_right, or_cases}
use Rattle.std.proofs.lemmas.List.Elements.{All-from_get_or}
use Rattle.bd_base.specs.Facts.{has}
use Rattle.bd_base.specs.Pairs.{after_of, is_before}
use Rattle.bd_task.specs.declared.ground.Action.{Action}
use Rattle.bd_tree.specs.declared.node.Node.{Node}
use Rattle.bd_tree.specs.Misfit.{leads_to}
use Rattle.bd_tree.specs.Tree.{id_of}
use Rattle.bd_links.specs.Child.{Child}
use Rattle.bd_links.specs.Sound.{child_of}
use Rattle.bd_shape.specs.Grouped.{CanGroup}
use Rattle.bd_shape.specs.Hull.{hull_of}
use Rattle.bd_tight.specs.Candidates.{concerns}
use Rattle.bd_tight.specs.Gains.{HasId, StandsIn, ids_related, sides_by}
use Rattle.bd_tight.proofs.GainLaw.{child_id}
use Rattle.bd_tight.proofs.HullLemmas.{alone_groups, hull_groups}

-- a row of the order tells whether something is between
leads_by : (all : List (ℕ × ℕ)) (i j : ℕ) (order : List (ℕ × ℕ)) → list_any (λ k. is_before all k j) (after_of order i) ≡ list_any (λ q. q.0 == i && is_before all q.1 j) order
leads_by all i j [] = refl
leads_by all i j (q ∷ order) = one (q.0 == i) (leads_by all i j order)
  where
    one : (c : Bool) → list_any (λ k. is_before all k j) (after_of order i) ≡ list_any (λ q. q.0 == i && is_before all q.1 j) order →
        list_any (λ k. is_before all k j) (map (λ p. p.1) (cond c (q ∷ filter (λ p. p.0 == i) order) (filter (λ p. p.0 == i) order))) ≡ ((c && is_before all q.1 j) || list_any (λ q. q.0 == i && is_before all q.1 j) order)
    one true rest = ap (λ z. is_before all q.1 j || z) rest
    one false rest = rest

pub leads_is : (order : List (ℕ × ℕ)) (i j : ℕ) → list_any (λ k. is_before order k j) (after_of order i) ≡ leads_to order (i, j)
leads_is order i j = leads_by order i j order

-- a kid at a place has the id of one
pub id_at : (kids : List Child) (q : ℕ) (c : Child) → slice_get kids q ≡ Some c → HasId kids c.id
id_at [] q c e = absurd (cc)
id_at (k ∷ ks) zero c e = let same : k ≡ c = cc in or_left _ _ (eq-eqb k.id c.id (ap (λ (z : Child). z.id) same))
id_at (k ∷ ks) (suc q) c e = or_right _ _ (id_at ks q c e)

-- so has each related kid
related_id : (facts : List ℕ) (kids : List Child) (q : ℕ) → has (ids_related facts kids) q ≡ true → HasId kids q
related_id facts [] q h = absurd (both_ways false refl h)
related_id facts (k ∷ ks) q h = one (concerns facts k.effects) h (related_id facts ks q)
  where
    one : (b : Bool) → has (map (λ (c : Child). c.id) (cond b (k ∷ filter (λ (c : Child). concerns facts c.effects) ks) (filter (λ (c : Child). concerns facts c.effects) ks))) q ≡ true → (has (ids_related facts ks) q ≡ true → HasId ks q) → HasId (k ∷ ks) q
    one true e rest = elim (or_cases (eqb k.id q) (has (ids_related facts ks) q) e) [ inl same ↦ or_left _ _ same | inr later ↦ or_right _ _ (rest later) ]
    one false e rest = or_right _ _ (rest e)

ids_are : (actions : List Action) (kids : List Node) → map (λ (c : Child). c.id) (map (child_of actions) kids) ≡ map id_of kids
ids_are actions [] = refl
ids_are actions (k ∷ ks) = ap (λ z. z ∷ map (λ (c : Child). c.id) (map (child_of actions) ks)) (child_id actions k) ∙ ap (λ z. id_of k ∷ z) (ids_are actions ks)

all_map : {X : Type 0} {Y : Type 0} (P : Y → Type 0) (f : X → Y) (xs : List X) → ((i : ℕ) (x : X) → slice_get xs i ≡ Some x → P (f x)) → (i : ℕ) (d : Y) → i < length (map f xs) → P (get_or (map f xs) i d)
all_map P f [] h i d lt = absurd (omega arith)
all_map P f (x ∷ xs) h zero d lt = h zero x refl
all_map P f (x ∷ xs) h (suc i) d lt = all_map P f xs (λ i x e. h (suc i) x e) i d (omega arith)

has_place : (xs : List ℕ) (i x : ℕ) → slice_get xs i ≡ Some x → has xs x ≡ true
has_place [] i x e = absurd (cc)
has_place (y ∷ xs) zero x e = let same : y ≡ x = cc in or_left _ _ (eq-eqb y x same)
has_place (y ∷ xs) (suc i) x e = or_right _ _ (has_place xs i x e)

-- each side that is tried can be grouped
module _ (actions : List Action) (root : Node) (own : ℕ) (block : Node) (known : List Child) (stands : StandsIn actions root own block known) where
  own_id : (q : ℕ) → HasId known q → has (map id_of stands.kids) q ≡ true
  own_id q h = ap (λ z. has z q) (sym (ap (map (λ (c : Child). c.id)) stands.known_are ∙ ids_are actions stands.kids)) ∙ h

  pub sides_group : (id : ℕ) (facts : List ℕ) → HasId known id → All (CanGroup root own) (sides_by block id (ids_related facts known))
  sides_group id facts h = All-from_get_or (CanGroup root own) (sides_by block id (ids_related facts known)) [] at
    where
      at : (i : ℕ) → i < length (sides_by block id (ids_related facts known)) → CanGroup root own (get_or (sides_by block id (ids_related facts known)) i [])
      at zero lt = alone_groups root own stands.kids stands.order stands.well stands.found id (own_id id h)
      at (suc i) lt = all_map (CanGroup root own) (hull_of block id) (ids_related facts known)
          (λ i x e. subst (λ (n : Node). CanGroup root own (hull_of n id x)) (sym stands.is)
          (hull_groups root own stands.kids stands.order stands.well stands.found id x (own_id id h) (own_id x (related_id facts known x (has_place (ids_related facts known) i x e)))))
          i [] (omega arith)
