-- Inner: serves this crate's own proofs alone.
-- The direct pairs of a list of steps, fact by fact: the first giver since the last deleter links what needs the fact,
-- the deleters before that giver come before it, and later deleters come after what needs the fact.
use Rattle.std.specs.List.{list_any}
use Rattle.std.specs.Prelude.{ℕ, ◌+◌, Bool, false, cond, not, ◌&&◌, ◌||◌, ◌==◌, nat_lt, max, min, List, [], ◌∷◌, ◌++◌, map, Option, Some, None, get_or, slice_get}
use Rattle.bd_base.specs.Facts.{has}
use Rattle.bd_task.specs.declared.ground.Action.{Action}
use Rattle.bd_links.specs.Child.{Child}
use Rattle.bd_links.specs.declared.parts.Touches.{Touches}
use Rattle.bd_links.specs.Effects.{step_effects}
use Rattle.bd_links.specs.Rows.{places_of}
use Rattle.bd_deorder.specs.Served.{Before}

abbrev pub later_of : Option ℕ → ℕ → Option ℕ
later_of None d = Some d
later_of (Some l) d = Some (max l d)

-- the last of the deleters that stands before j, or the one found so far
abbrev pub last_before : Option ℕ → List ℕ → ℕ → Option ℕ
last_before last [] j = last
last_before last (d ∷ deleters) j = last_before (cond (nat_lt d j) (later_of last d) last) deleters j

abbrev pub earlier_of : Option ℕ → ℕ → Option ℕ
earlier_of None g = Some g
earlier_of (Some l) g = Some (min l g)

-- the first of the givers that doesn't stand before `from`, and stands before j, or the one found so far
abbrev pub first_between : Option ℕ → List ℕ → ℕ → ℕ → Option ℕ
first_between first [] from j = first
first_between first (g ∷ givers) from j = first_between (cond (not (nat_lt g from) && nat_lt g j) (earlier_of first g) first) givers from j

abbrev pub link_since : Bool → List ℕ → ℕ → Option ℕ → Option ℕ
link_since start givers j None = cond start None (first_between None givers 0 j)
link_since start givers j (Some d) = first_between None givers d j

-- the giver that links j: none where the fact is true at the start and nothing deletes it before
abbrev pub link_of : Bool → List ℕ → List ℕ → ℕ → Option ℕ
link_of start givers deleters j = link_since start givers j (last_before None deleters j)

-- the pair (a, b) is that of j and a later deleter
abbrev pub is_later_pair : List ℕ → ℕ → Before
is_later_pair deleters j a b = list_any (λ d. nat_lt j d && (j == a && d == b)) deleters

-- it is that of an earlier deleter and g
abbrev pub is_earlier_pair : List ℕ → ℕ → Before
is_earlier_pair deleters g a b = list_any (λ d. nat_lt d g && (d == a && g == b)) deleters

abbrev pub is_end_pair : Option ℕ → List ℕ → Before
is_end_pair None deleters a b = false
is_end_pair (Some g) deleters a b = is_earlier_pair deleters g a b

abbrev pub is_link_pair : Option ℕ → List ℕ → ℕ → Before
is_link_pair None deleters j a b = false
is_link_pair (Some g) deleters j a b = (g == a && j == b) || is_earlier_pair deleters g a b

-- it is put since j needs a fact
abbrev pub is_need_pair : Bool → List ℕ → List ℕ → ℕ → Before
is_need_pair start givers deleters j a b = is_later_pair deleters j a b || is_link_pair (link_of start givers deleters j) deleters j a b

-- it is put since a fact is to be true at the end of n steps
abbrev pub is_goal_pair : Bool → List ℕ → List ℕ → ℕ → Before
is_goal_pair start givers deleters n a b = is_end_pair (link_of start givers deleters n) deleters a b

abbrev pub is_step_pair : List ℕ → Touches → List ℕ → ℕ → Before
is_step_pair init t need j a b = list_any (λ p. is_need_pair (has init p) (places_of t.gives p) (places_of t.deletes p) j a b) need

abbrev pub is_final_pair : List ℕ → Touches → List ℕ → ℕ → Before
is_final_pair init t goal n a b = list_any (λ p. is_goal_pair (has init p) (places_of t.gives p) (places_of t.deletes p) n a b) goal

-- the pair (a, b) is direct
abbrev pub is_direct : List ℕ → List ℕ → Touches → ℕ → List (ℕ × Child) → Before
is_direct init goal t n kids a b = list_any (λ k. is_step_pair init t k.1.effects.need k.0 a b) kids || is_final_pair init t goal n a b

-- rows of positions: row i has what i is before
abbrev pub has_pair : List (List ℕ) → Before
has_pair rows a b = has (get_or rows a []) b

-- the pairs of the rows from row i on
abbrev pub stacked : ℕ → List (List ℕ) → List (ℕ × ℕ)
stacked i [] = []
stacked i (row ∷ rows) = map (λ j. (i, j)) row ++ stacked (i + 1) rows

-- the steps of the list with their effects, with ids from the number on
abbrev pub children_of : List Action → ℕ → List ℕ → List Child
children_of actions id [] = []
children_of actions id (a ∷ list) = record { id = id; effects = step_effects (slice_get actions a) } ∷ children_of actions (id + 1) list
