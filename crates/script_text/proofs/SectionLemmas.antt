-- One more line of a section.
use Rattle.std.proofs.Common.{◌≡◌, ℕ, ◌+◌, List, [], ◌∷◌, ◌++◌, Some, Ok, codes, refl}
use Rattle.bd_task.specs.declared.ground.Action.{Action}
use Rattle.script_text.specs.Reading.{after_key, fact_at, facts_at, action_at, actions_at}

pub facts_step : (names : List (List ℕ)) (number : ℕ) (l : List (List ℕ)) (ls : List (List (List ℕ))) (ws more : List (List ℕ)) → after_key (codes "fact") l ≡ Some ws → fact_at names number ws ≡ Ok more → facts_at names number (l ∷ ls) ≡ facts_at more (number + 1) ls
facts_step names number l ls ws more e f = rw (e, f) refl

pub actions_step : (facts names : List (List ℕ)) (actions : List Action) (number : ℕ) (l : List (List ℕ)) (ls : List (List (List ℕ))) (ws : List (List ℕ)) (a : Action) (more : List (List ℕ)) → after_key (codes "action") l ≡ Some ws → action_at facts names number ws ≡ Ok (a, more) → actions_at facts names actions number (l ∷ ls) ≡ actions_at facts more (actions ++ a ∷ []) (number + 1) ls
actions_step facts names actions number l ls ws a more e f = rw (e, f) refl
