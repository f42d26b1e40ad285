-- The lines behind the sections of facts and actions: the start tree, the stop, the offers and the end; and the whole text.
use Rattle.std.specs.Prelude.{◌≡◌, ℕ, ◌+◌, not, nat_eq, cond, List, [], ◌∷◌, ◌++◌, Option, Some, None, Result, Ok, Err, codes}
use Rattle.std.specs.Option.{is_none}
use Rattle.std.specs.Cmp.Lexicographic.{pointwise}
use Rattle.std.specs.Str.{bytes_eq}
use Rattle.bd_base.specs.declared.text_err.Cause.TheVariants as cause
use Rattle.bd_merge.specs.declared.window.Lean.{Lean}
use Rattle.bd_merge.specs.declared.window.Lean.TheVariants as leans
use Rattle.bd_tree.specs.declared.node.Node.{Node}
use Rattle.bd_tree.specs.Misfit.{first_misfit}
use Rattle.bd_tree.specs.Tree.{listed_of}
use Rattle.plan_core.specs.declared.offer.Offer.{Offer}
use Rattle.plan_core.specs.declared.offer.Offer.TheVariants.{Replace, Tighten, Rebuild}
use Rattle.script_text.specs.declared.script.Script.{Script}
use Rattle.script_text.specs.Reading.{Fault, Left, ◌>>=◌, on_key, after_key, word_at, key_at, end_at, list_at, line_at, no_more, head_at, facts_at, actions_at, set_line, plan_line, stop_line}
use Rattle.script_text.specs.Rest.{Rest, script_with}
use Rattle.script_text.specs.Nodes.{id_at, pair_at, no_nodes, kids_until, root_at}

-- the root, where it is well formed and has at most 64 levels
abbrev pub well_formed_at : ℕ → Node → Result Node Fault
well_formed_at place root = cond (is_none (first_misfit root)) (Ok root) (Err (place, cause.Misfit))

-- the words behind `start`: the tree's listed linearisation is the plan
unfoldable pub start_at : List (List ℕ) → List ℕ → ℕ → List (List ℕ) → Result Node Fault
start_at names plan place words = do
  root ← root_at names place no_nodes words
  tree ← well_formed_at place root
  cond (not (pointwise nat_eq (listed_of tree) plan)) (Err (place, cause.Misfit)) (Ok tree)

-- the start tree with the number of its line, where there is one
abbrev pub start_line : List (List ℕ) → List ℕ → Left → Result ((Option Node × ℕ) × Left) Fault
start_line names plan left = elim (left.1) [
  | [] ↦ Ok ((None, 0), left)
  | l ∷ ls ↦ on_key (after_key (codes "start") l) (Ok ((None, 0), left)) (λ ws. start_at names plan left.0 ws >>= λ root. Ok ((Some root, left.0), (left.0 + 1, ls)))
]

abbrev pub lean_at : ℕ → List ℕ → Result Lean Fault
lean_at place word = cond (bytes_eq word (codes "early")) (Ok leans.Early) (cond (bytes_eq word (codes "late")) (Ok leans.Late) (Err (place, cause.Shape)))

-- the words behind `replace`
unfoldable pub replace_at : List (List ℕ) → ℕ → List (List ℕ) → Result Offer Fault
replace_at names place words = do
  first ← word_at place words
  block ← id_at place first.0
  second ← word_at place first.1
  side ← lean_at place second.0
  kids ← kids_until names place no_nodes second.1
  actions ← list_at names place [] kids.1
  Ok (Replace (record { block = block; kids = kids.0; lean = side }) actions)

-- the ids up to the key, behind those of a list, and what follows the key
abbrev pub ids_until : ℕ → List ℕ → List ℕ → List (List ℕ) → Result (List ℕ × List (List ℕ)) Fault
ids_until place key ids [] = Err (place, cause.Shape)
ids_until place key ids (w ∷ ws) = cond (bytes_eq w key) (Ok (ids, ws)) (id_at place w >>= λ id. ids_until place key (ids ++ id ∷ []) ws)

-- the ids that follow, behind those of a list
abbrev pub ids_at : ℕ → List ℕ → List (List ℕ) → Result (List ℕ) Fault
ids_at place ids [] = Ok ids
ids_at place ids (w ∷ ws) = id_at place w >>= λ id. ids_at place (ids ++ id ∷ []) ws

-- the words behind `tighten`
unfoldable pub tighten_at : ℕ → List (List ℕ) → Result Offer Fault
tighten_at place words = do
  first ← word_at place words
  block ← id_at place first.0
  sides ← key_at place (codes "left") first.1
  left ← ids_until place (codes "right") [] sides
  right ← ids_at place [] left.1
  Ok (Tighten block left.0 right)

-- the pairs that follow, behind those of a list
abbrev pub pairs_at : ℕ → List (ℕ × ℕ) → List (List ℕ) → Result (List (ℕ × ℕ)) Fault
pairs_at place pairs [] = Ok pairs
pairs_at place pairs (w ∷ ws) = pair_at place w >>= λ pair. pairs_at place (pairs ++ pair ∷ []) ws

-- the words behind `rebuild`
abbrev pub rebuild_at : ℕ → List (List ℕ) → Result Offer Fault
rebuild_at place words = pairs_at place [] words >>= λ pairs. Ok (Rebuild pairs)

abbrev pub found : Offer → Result (Option Offer) Fault
found offer = Ok (Some offer)

-- the offer that a line is, if it is one
abbrev pub offer_at : List (List ℕ) → ℕ → List (List ℕ) → Result (Option Offer) Fault
offer_at names place line =
    on_key (after_key (codes "replace") line) (on_key (after_key (codes "tighten") line) (on_key (after_key (codes "rebuild") line) (Ok None) (λ ws. rebuild_at place ws >>= found)) (λ ws. tighten_at place ws >>= found)) (λ ws. replace_at names place ws >>= found)

-- what is read on, by whether there is an offer
abbrev pub on_offer : {A : Type 0} → Option Offer → A → (Offer → A) → A
on_offer None stop go = stop
on_offer (Some offer) stop go = go offer

-- the lines of offers, up to one that begins otherwise, behind those of a list
abbrev pub offers_at : List (List ℕ) → List Offer → ℕ → List (List (List ℕ)) → Result (List Offer × Left) Fault
offers_at names offers number [] = Ok (offers, (number, []))
offers_at names offers number (l ∷ ls) = offer_at names number l >>= λ o. on_offer o (Ok (offers, (number, l ∷ ls))) (λ offer. offers_at names (offers ++ offer ∷ []) (number + 1) ls)

-- the last line, and nothing behind it
unfoldable pub tail_at : Left → Result (Unit {0}) Fault
tail_at left = do
  line ← line_at (codes "end") left
  none ← end_at left.0 line.0
  no_more line.1

-- the lines behind the plan, by the names of the actions
unfoldable pub rest_at : List (List ℕ) → List ℕ → Left → Result Rest Fault
rest_at names plan left = do
  start ← start_line names plan left
  stop ← stop_line start.1
  offers ← offers_at names [] stop.1.0 stop.1.1
  end ← tail_at offers.1
  Ok (record { start = start.0.0; start_line = start.0.1; stop = stop.0; offers = offers.0 })

-- the whole text
unfoldable pub script_at : List (List (List ℕ)) → Result Script Fault
script_at text = do
  head ← head_at text
  facts ← facts_at [] head.0 head.1
  actions ← actions_at facts.0 [] [] facts.1.0 facts.1.1
  init ← set_line (codes "init") facts.0 actions.1
  goal ← set_line (codes "goal") facts.0 init.1
  plan ← plan_line actions.0.1 goal.1
  rest ← rest_at actions.0.1 plan.0 plan.1
  Ok (script_with (record { facts = facts.0; actions = actions.0.0; init = init.0; goal = goal.0 }) plan.0 rest)
