-- Closed entries, with the facts of each one's state as a key.
use Rattle.std.specs.Prelude.{◌≡◌, ℕ, Bool, true, nat_eq, ◌↔◌, List, Vec}
use Rattle.std.specs.List.{list_any}
use Rattle.std.specs.Cmp.Lexicographic.{pointwise}
use Rattle.std.specs.declared.alloc.Global.{Global}
use Rattle.bd_states.specs.Entries.{HasState}
use Rattle.bd_states.specs.declared.entry.Entry.{Entry}

-- whether the facts are one of the keys
abbrev pub has_key : List ℕ → List (Vec ℕ Global) → Bool
has_key facts keys = list_any (λ (k : Vec ℕ Global). pointwise nat_eq facts k.items) keys

-- the keys are the states of the entries
abbrev pub AreKeys : List (Vec ℕ Global) → List Entry → Type 0
AreKeys keys entries = (facts : List ℕ) → (has_key facts keys ≡ true) ↔ HasState facts entries
