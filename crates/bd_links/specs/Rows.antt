-- The links of a block's kids by the positions of those that give a fact and of those that delete it.
use Rattle.std.specs.Prelude.{◌≡◌, ℕ, Bool, cond, ◌&&◌, ◌||◌, ◌==◌, nat_eq, List, [], ◌∷◌, ◌++◌, Vec}
use Rattle.std.specs.List.{list_any, list_all}
use Rattle.std.specs.Option.{option_map_or}
use Rattle.std.specs.HashMap.{HashMap, get}
use Rattle.std.specs.declared.alloc.Global.{Global}
use Rattle.std.specs.declared.hash.FoldHasher.{FoldHasher}
use Rattle.std.specs.declared.hash.BuildHasherDefault.{BuildHasherDefault}
use Rattle.bd_base.specs.Facts.{has}
use Rattle.bd_base.specs.Pairs.{is_before}
use Rattle.bd_links.specs.declared.parts.Effects.{Effects}
use Rattle.bd_links.specs.declared.parts.Touches.{Touches}
use Rattle.bd_links.specs.Effects.{Kid, Order}

abbrev pub Places : Type 0
Places = HashMap ℕ (Vec ℕ Global) (BuildHasherDefault FoldHasher)

-- the positions that a map has for a fact
abbrev pub places_of : Places → ℕ → List ℕ
places_of m p = option_map_or (λ (v : Vec ℕ Global). v.items) (get nat_eq m p) []

-- the positions of the kids that have a fact in one of their sets, the last first
abbrev pub holders : (Effects → List ℕ) → List Kid → ℕ → List ℕ
holders f [] p = []
holders f (k ∷ kids) p = holders f kids p ++ cond (has (f k.1.effects) p) (k.0 ∷ []) []

-- the maps have the kids that give each fact and those that delete it
pub record Tells (t : Touches) (kids : List Kid) : Type 0 where
  pub gives : (p : ℕ) → places_of t.gives p ≡ holders (λ e. e.add) kids p
  pub deletes : (p : ℕ) → places_of t.deletes p ≡ holders (λ e. e.del) kids p

-- deleter d is kid j or after it
abbrev pub is_later : Order → ℕ → ℕ → Bool
is_later order j d = d == j || is_before order j d

-- deleter d is kid i or j, or is before i or after j
abbrev pub is_aside : Order → ℕ → ℕ → ℕ → Bool
is_aside order i j d = d == i || d == j || is_before order d i || is_before order j d

-- giver i links kid j past the deleters
abbrev pub links_past : Order → List ℕ → ℕ → ℕ → Bool
links_past order deleters j i = is_before order i j && list_all (is_aside order i j) deleters

-- one of the givers links kid j past the deleters
abbrev pub any_links : Order → List ℕ → List ℕ → ℕ → Bool
any_links order givers deleters j = list_any (links_past order deleters j) givers

-- giver i comes after each other deleter
abbrev pub gives_past : Order → List ℕ → ℕ → Bool
gives_past order deleters i = list_all (λ d. d == i || is_before order d i) deleters

abbrev pub any_gives : Order → List ℕ → List ℕ → Bool
any_gives order givers deleters = list_any (gives_past order deleters) givers

-- the same of one fact, by the maps
abbrev pub linked_by : Order → Touches → ℕ → ℕ → Bool
linked_by order t j p = any_links order (places_of t.gives p) (places_of t.deletes p) j

abbrev pub safe_by : Order → Touches → ℕ → ℕ → Bool
safe_by order t j p = linked_by order t j p || list_all (is_later order j) (places_of t.deletes p)

abbrev pub given_by : Order → Touches → ℕ → Bool
given_by order t p = any_gives order (places_of t.gives p) (places_of t.deletes p)
