-- The action that a call names.
use Rattle.std.specs.Prelude.{ℕ, List, ◌∷◌, ◌++◌, Option}
use Rattle.std.specs.Str.{bytes_eq}
use Rattle.std.specs.List.{flat_map}
use Rattle.bd_task.specs.declared.ground.Action.{Action}
use Rattle.pddl_types.specs.declared.calls.Call.{Call}
use Rattle.plan_calls.specs.Places.{place_by}

abbrev pub words_text : List (List ℕ) → List ℕ
words_text words = flat_map (λ w. 32 ∷ w) words

-- a call's name and arguments, with a space before each argument, as actions are named
abbrev pub call_text : Call → List ℕ
call_text call = call.name ++ words_text call.args

abbrev pub action_named : List Action → List ℕ → Option ℕ
action_named actions name = place_by (λ a. bytes_eq a.name name) actions

-- the first action with the call's name and arguments
abbrev pub found : List Action → Call → Option ℕ
found actions call = action_named actions (call_text call)
