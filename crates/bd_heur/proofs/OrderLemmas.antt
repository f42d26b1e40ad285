-- Values in order, where none is above each number.
use Rattle.std.proofs.Common.{◌≡◌, ℕ, ◌+◌, ◌-◌, ◌^◌, ◌<◌, ◌≤◌, Bool, true, false, cond, eqb, List, [], ◌∷◌, Option, Some, None, refl, ap, ◌∙◌, subst, inl, inr, ◌⊎◌, arith}
use Rattle.std.proofs.lemmas.Bool.{both_ways, or_cases, or_left, or_right, eq-eqb, eqb-true, cases_lt}
use Rattle.bd_base.specs.Facts.{has}
use Rattle.bd_task.specs.declared.ground.Action.{Action}
use Rattle.bd_heur.specs.declared.join.Join.{Join}
use Rattle.bd_heur.specs.declared.join.Join.TheVariants.{Greatest, Sum}
use Rattle.bd_heur.specs.Relaxed.{lesser, joined, value_of_all, after_cost, value_by, least_by, IsWithin}

pub within_refl : (c : ℕ) (a : Option ℕ) → IsWithin c a a
within_refl c None = tt
within_refl c (Some a) = omega arith

pub within_trans : (c d : ℕ) (x y z : Option ℕ) → IsWithin c x y → IsWithin d y z → IsWithin (c + d) x z
within_trans c d x y None h k = tt
within_trans c d x None (Some z) h k = absurd k
within_trans c d None (Some y) (Some z) h k = absurd h
within_trans c d (Some x) (Some y) (Some z) h k = omega arith

pub within_le : (c : ℕ) (x y z : Option ℕ) → IsWithin 0 x y → IsWithin c y z → IsWithin c x z
within_le c x y None h k = tt
within_le c x None (Some z) h k = absurd k
within_le c None (Some y) (Some z) h k = absurd h
within_le c (Some x) (Some y) (Some z) h k = omega arith

pub within_more : (c : ℕ) (x y : Option ℕ) → IsWithin 0 x y → IsWithin c x y
within_more c x None h = tt
within_more c None (Some y) h = absurd h
within_more c (Some x) (Some y) h = omega arith

-- a is less than b
abbrev pub IsLess : Option ℕ → Option ℕ → Type 0
IsLess None b = ⊥
IsLess (Some a) None = Unit {0}
IsLess (Some a) (Some b) = a < b

pub in_order : (a b : Option ℕ) → IsWithin 0 b a ⊎ IsLess a b
in_order None b = inl tt
in_order (Some a) None = inr tt
in_order (Some a) (Some b) = elim (cases_lt a b) [ inl lt ↦ inr lt | inr le ↦ inl (omega arith) ]

pub less_not : (a b : Option ℕ) → IsLess a b → IsWithin 0 b a → ⊥
less_not None b h k = h
less_not (Some a) None h k = k
less_not (Some a) (Some b) h k = omega arith

-- the smaller of two values
pub lesser_left : (a b : Option ℕ) → IsWithin 0 (lesser a b) a
lesser_left None b = tt
lesser_left (Some a) None = omega arith
lesser_left (Some a) (Some b) = omega arith

pub lesser_right : (a b : Option ℕ) → IsWithin 0 (lesser a b) b
lesser_right a None = tt
lesser_right None (Some b) = omega arith
lesser_right (Some a) (Some b) = omega arith

pub lesser_cases : (a b : Option ℕ) → (lesser a b ≡ a) ⊎ (lesser a b ≡ b)
lesser_cases None b = inr refl
lesser_cases (Some a) None = inl refl
lesser_cases (Some a) (Some b) = elim (cases_lt a b) [ inl lt ↦ inl (ap Some (omega arith)) | inr le ↦ inr (ap Some (omega arith)) ]

-- values that are joined
pub joined_within : (c : ℕ) (a b d e : Option ℕ) → IsWithin c a d → IsWithin c b e → IsWithin c (joined Greatest a b) (joined Greatest d e)
joined_within c a b None e h k = tt
joined_within c a b (Some d) None h k = tt
joined_within c None b (Some d) (Some e) h k = absurd h
joined_within c (Some a) None (Some d) (Some e) h k = absurd k
joined_within c (Some a) (Some b) (Some d) (Some e) h k = omega arith

pub all_within : (c : ℕ) (v w : ℕ → Option ℕ) (a b : Option ℕ) (ps : List ℕ) → IsWithin c a b → ((q : ℕ) → has ps q ≡ true → IsWithin c (v q) (w q)) →
    IsWithin c (value_of_all Greatest v a ps) (value_of_all Greatest w b ps)
all_within c v w a b [] h each = h
all_within c v w a b (p ∷ ps) h each =
    all_within c v w (joined Greatest a (v p)) (joined Greatest b (w p)) ps
    (joined_within c a (v p) b (w p) h (each p (or_left _ _ (eq-eqb p p refl))))
    (λ q i. each q (or_right _ _ i))

pub joined_le : (join : Join) (a b d e : Option ℕ) → IsWithin 0 a d → IsWithin 0 b e → IsWithin 0 (joined join a b) (joined join d e)
joined_le join a b None e h k = tt
joined_le join a b (Some d) None h k = tt
joined_le join None b (Some d) (Some e) h k = absurd h
joined_le join (Some a) None (Some d) (Some e) h k = absurd k
joined_le Greatest (Some a) (Some b) (Some d) (Some e) h k = omega arith
joined_le Sum (Some a) (Some b) (Some d) (Some e) h k = omega arith

pub all_le : (join : Join) (v w : ℕ → Option ℕ) (a b : Option ℕ) (ps : List ℕ) → IsWithin 0 a b → ((q : ℕ) → has ps q ≡ true → IsWithin 0 (v q) (w q)) →
    IsWithin 0 (value_of_all join v a ps) (value_of_all join w b ps)
all_le join v w a b [] h each = h
all_le join v w a b (p ∷ ps) h each =
    all_le join v w (joined join a (v p)) (joined join b (w p)) ps (joined_le join a (v p) b (w p) h (each p (or_left _ _ (eq-eqb p p refl)))) (λ q i. each q (or_right _ _ i))

-- values that fit
abbrev pub IsSmall : Option ℕ → Type 0
IsSmall None = Unit {0}
IsSmall (Some a) = a ≤ 2 ^ 64 - 1

-- each value is at most the join
joined_above_left : (join : Join) (a b : Option ℕ) → IsSmall a → IsWithin 0 a (joined join a b)
joined_above_left join None b small = tt
joined_above_left join (Some a) None small = tt
joined_above_left Greatest (Some a) (Some b) small = omega arith
joined_above_left Sum (Some a) (Some b) small = omega arith

joined_above_right : (join : Join) (a b : Option ℕ) → IsSmall b → IsWithin 0 b (joined join a b)
joined_above_right join None b small = tt
joined_above_right join (Some a) None small = tt
joined_above_right Greatest (Some a) (Some b) small = omega arith
joined_above_right Sum (Some a) (Some b) small = omega arith

joined_small : (join : Join) (a b : Option ℕ) → IsSmall a → IsSmall b → IsSmall (joined join a b)
joined_small join None b h k = tt
joined_small join (Some a) None h k = tt
joined_small Greatest (Some a) (Some b) h k = omega arith
joined_small Sum (Some a) (Some b) h k = omega arith

all_above : (join : Join) (v : ℕ → Option ℕ) → ((q : ℕ) → IsSmall (v q)) → (a : Option ℕ) (ps : List ℕ) → IsSmall a → IsWithin 0 a (value_of_all join v a ps)
all_above join v each a [] small = within_refl 0 a
all_above join v each a (p ∷ ps) small =
    within_le 0 a (joined join a (v p)) _ (joined_above_left join a (v p) small) (all_above join v each (joined join a (v p)) ps (joined_small join a (v p) small (each p)))

pub all_above_each : (join : Join) (v : ℕ → Option ℕ) → ((q : ℕ) → IsSmall (v q)) → (a : Option ℕ) (ps : List ℕ) (q : ℕ) → IsSmall a → has ps q ≡ true → IsWithin 0 (v q) (value_of_all join v a ps)
all_above_each join v each a [] q small i = absurd (both_ways false refl i)
all_above_each join v each a (p ∷ ps) q small i = elim (or_cases (eqb p q) (has ps q) i) [
  | inl same ↦ subst (λ z. IsWithin 0 (v z) (value_of_all join v (joined join a (v p)) ps)) (eqb-true p q same)
      (within_le 0 (v p) (joined join a (v p)) _ (joined_above_right join a (v p) (each p)) (all_above join v each (joined join a (v p)) ps (joined_small join a (v p) small (each p))))
  | inr later ↦ all_above_each join v each (joined join a (v p)) ps q (joined_small join a (v p) small (each p)) later
]

pub all_small : (join : Join) (v : ℕ → Option ℕ) → ((q : ℕ) → IsSmall (v q)) → (a : Option ℕ) (ps : List ℕ) → IsSmall a → IsSmall (value_of_all join v a ps)
all_small join v each a [] h = h
all_small join v each a (p ∷ ps) h = all_small join v each (joined join a (v p)) ps (joined_small join a (v p) h (each p))

pub cost_within : (c cost : ℕ) (a b : Option ℕ) → IsWithin c a b → IsWithin c (after_cost cost a) (after_cost cost b)
cost_within c cost a None h = tt
cost_within c cost None (Some b) h = absurd h
cost_within c cost (Some a) (Some b) h = omega arith

pub cost_above : (cost : ℕ) (a : Option ℕ) → IsSmall a → IsWithin 0 a (after_cost cost a)
cost_above cost None small = tt
cost_above cost (Some a) small = omega arith

cost_small : (cost : ℕ) (a : Option ℕ) → IsSmall (after_cost cost a)
cost_small cost None = tt
cost_small cost (Some a) = omega arith

pub action_le : (join : Join) (v w : ℕ → Option ℕ) (a : Action) → ((q : ℕ) → has a.pre q ≡ true → IsWithin 0 (v q) (w q)) → IsWithin 0 (value_by join v a) (value_by join w a)
action_le join v w a each = cost_within 0 a.cost _ _ (all_le join v w (Some 0) (Some 0) a.pre (within_refl 0 (Some 0)) each)

-- an action of a list
pub data In : Action → List Action → Type 0 where
  here : {a : Action} {rest : List Action} → In a (a ∷ rest)
  there : {a b : Action} {rest : List Action} → In a rest → In a (b ∷ rest)

-- the least value is the one at the start or that of an action that adds the fact
abbrev pub IsBy : Join → (ℕ → Option ℕ) → ℕ → List Action → Option ℕ → Type 0
IsBy join v p actions value = (a : Action) × In a actions × (has a.add p ≡ true) × (value ≡ value_by join v a)

pub least_cases : (join : Join) (v : ℕ → Option ℕ) (p : ℕ) (least : Option ℕ) (actions : List Action) →
    (least_by join v p least actions ≡ least) ⊎ IsBy join v p actions (least_by join v p least actions)
least_cases join v p least [] = inl refl
least_cases join v p least (a ∷ rest) = by_test (λ z. least_cases join v p z rest) (has a.add p) refl
  where
    later : (value : Option ℕ) → IsBy join v p rest value → IsBy join v p (a ∷ rest) value
    later value by = (by.0, there by.1, by.2, by.3)

    by_test : ((z : Option ℕ) → (least_by join v p z rest ≡ z) ⊎ IsBy join v p rest (least_by join v p z rest)) → (b : Bool) → has a.add p ≡ b →
        (least_by join v p (cond b (lesser least (value_by join v a)) least) rest ≡ least)
        ⊎ IsBy join v p (a ∷ rest) (least_by join v p (cond b (lesser least (value_by join v a)) least) rest)
    by_test each false e = elim (each least) [ inl same ↦ inl same | inr by ↦ inr (later _ by) ]
    by_test each true e = elim (each (lesser least (value_by join v a))) [
      | inl same ↦ elim (lesser_cases least (value_by join v a)) [ inl left ↦ inl (same ∙ left) | inr right ↦ inr (a, here, e, same ∙ right) ]
      | inr by ↦ inr (later _ by)
    ]

pub least_start : (join : Join) (v : ℕ → Option ℕ) (p : ℕ) (least : Option ℕ) (actions : List Action) → IsWithin 0 (least_by join v p least actions) least
least_start join v p least [] = within_refl 0 least
least_start join v p least (a ∷ rest) = by_test (λ z. least_start join v p z rest) (has a.add p)
  where
    by_test : ((z : Option ℕ) → IsWithin 0 (least_by join v p z rest) z) → (b : Bool) → IsWithin 0 (least_by join v p (cond b (lesser least (value_by join v a)) least) rest) least
    by_test each false = each least
    by_test each true = within_le 0 _ (lesser least (value_by join v a)) least (each (lesser least (value_by join v a))) (lesser_left least (value_by join v a))

pub least_each : (join : Join) (v : ℕ → Option ℕ) (p : ℕ) (least : Option ℕ) (actions : List Action) (a : Action) → In a actions → has a.add p ≡ true →
    IsWithin 0 (least_by join v p least actions) (value_by join v a)
least_each join v p least [] a i e = elim i [ ]
least_each join v p least (b ∷ rest) a here e =
    rw e (within_le 0 _ (lesser least (value_by join v a)) _ (least_start join v p (lesser least (value_by join v a)) rest) (lesser_right least (value_by join v a)))
least_each join v p least (b ∷ rest) a (there i) e = least_each join v p (cond (has b.add p) (lesser least (value_by join v b)) least) rest a i e

lesser_small : (a b : Option ℕ) → IsSmall a → IsSmall b → IsSmall (lesser a b)
lesser_small None b h k = k
lesser_small (Some a) None h k = h
lesser_small (Some a) (Some b) h k = omega arith

pub least_small : (join : Join) (v : ℕ → Option ℕ) (p : ℕ) (least : Option ℕ) (actions : List Action) → IsSmall least → IsSmall (least_by join v p least actions)
least_small join v p least [] h = h
least_small join v p least (a ∷ rest) h = by_test (λ z. least_small join v p z rest) (has a.add p)
  where
    by_test : ((z : Option ℕ) → IsSmall z → IsSmall (least_by join v p z rest)) → (b : Bool) → IsSmall (least_by join v p (cond b (lesser least (value_by join v a)) least) rest)
    by_test each false = each least h
    by_test each true = each (lesser least (value_by join v a)) (lesser_small least _ h (cost_small a.cost _))

pub same_values : (a b : Option ℕ) → IsWithin 0 a b → IsWithin 0 b a → a ≡ b
same_values None None h k = refl
same_values None (Some b) h k = absurd h
same_values (Some a) None h k = absurd k
same_values (Some a) (Some b) h k = ap Some (omega arith)
