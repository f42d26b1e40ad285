-- Inner: serves this crate's own proofs alone.
-- When a relation on positions keeps one fact in order: where a position needs it, and at the end.
use Rattle.std.specs.List.{list_any, list_all}
use Rattle.std.specs.Prelude.{ℕ, Bool, false, ◌&&◌, ◌||◌, ◌==◌, List}

-- whether one position is before another
abbrev pub Before : Type 0
Before = ℕ → ℕ → Bool

-- deleter d is i or j, or is before i or after j
abbrev pub is_aside : Before → ℕ → ℕ → ℕ → Bool
is_aside before i j d = d == i || d == j || before d i || before j d

-- giver i is before j, and each deleter is aside
abbrev pub links : Before → List ℕ → ℕ → ℕ → Bool
links before deleters j i = before i j && list_all (is_aside before i j) deleters

-- deleter d is j or after it
abbrev pub is_later : Before → ℕ → ℕ → Bool
is_later before j d = d == j || before j d

-- position j has the fact whatever order the positions run in: a giver links it, or it is true at the start and each
-- deleter is later
abbrev pub is_served : Before → Bool → List ℕ → List ℕ → ℕ → Bool
is_served before start givers deleters j = list_any (links before deleters j) givers || (start && list_all (is_later before j) deleters)

-- giver i is after each other deleter
abbrev pub gives_last : Before → List ℕ → ℕ → Bool
gives_last before deleters i = list_all (λ d. d == i || before d i) deleters

-- the fact is true at the end: a giver comes last, or it is true at the start and nothing deletes it
abbrev pub is_kept : Before → Bool → List ℕ → List ℕ → Bool
is_kept before start givers deleters = list_any (gives_last before deleters) givers || (start && list_all (λ d. false) deleters)
