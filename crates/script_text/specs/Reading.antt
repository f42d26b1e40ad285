-- Reading from left to right, with the first fault that is met.
use Rattle.std.specs.Prelude.{◌≡◌, ℕ, ◌+◌, ◌==◌, Bool, cond, nat_le, List, [], ◌∷◌, ◌++◌, Option, Some, None, Result, Ok, Err, codes}
use Rattle.std.specs.Str.{bytes_eq}
use Rattle.bd_base.specs.Facts.{plus, minus}
use Rattle.bd_base.specs.declared.text_err.Cause.{Cause}
use Rattle.bd_base.specs.declared.text_err.Cause.TheVariants as cause
use Rattle.bd_base.specs.declared.text_err.TextErr.{TextErr}
use Rattle.bd_base.specs.declared.text_err.TextErr.TheVariants as errors
use Rattle.bd_task.specs.declared.ground.Action.{Action}
use Rattle.script_text.specs.Lines.{is_number, number_of, is_name_byte, is_empty_list}
use Rattle.script_text.specs.Names.{place_of, is_declared}

-- the line, and what is wrong in it
abbrev pub Fault : Type 0
Fault = ℕ × Cause

infixl 10 ◌>>=◌
abbrev pub ◌>>=◌ : {A B : Type 0} → Result A Fault → (A → Result B Fault) → Result B Fault
(Ok x) >>= f = f x
(Err e) >>= f = Err e

-- the line is not of its form
abbrev pub shape : ℕ → TextErr
shape place = errors.At place cause.Shape

-- what the line says can't be a part of a tree
abbrev pub misfit : ℕ → TextErr
misfit place = errors.At place cause.Misfit

-- What a function returned, seen by view, is what reading gives, unless memory ran out.
abbrev pub Fails : {Y : Type 0} → TextErr → Result Y Fault → Type 0
Fails errors.NoMemory read = Unit {0}
Fails (errors.Over limit count) read = ⊥
Fails (errors.At place c) read = read ≡ Err (place, c)

abbrev pub Gives : {X Y : Type 0} → (X → Y) → Result X TextErr → Result Y Fault → Type 0
Gives view (Ok x) read = read ≡ Ok (view x)
Gives view (Err e) read = Fails e read

abbrev pub put_first : ℕ → Option (List ℕ) → Option (List ℕ)
put_first b None = None
put_first b (Some bs) = Some (b ∷ bs)

-- what stands before the one `)` at the end, where all of it may stand in a name
abbrev pub closed : List ℕ → Option (List ℕ)
closed [] = None
closed (b ∷ bs) = cond (b == 41) (cond (is_empty_list bs) (Some []) None) (cond (is_name_byte b) (put_first b (closed bs)) None)

abbrev pub unless_empty : Option (List ℕ) → Option (List ℕ)
unless_empty None = None
unless_empty (Some []) = None
unless_empty (Some (b ∷ bs)) = Some (b ∷ bs)

-- the name in a word's parentheses
abbrev pub name_in : List ℕ → Option (List ℕ)
name_in [] = None
name_in (b ∷ bs) = cond (b == 40) (unless_empty (closed bs)) None

abbrev pub needed : {A : Type 0} → Fault → Option A → Result A Fault
needed fault None = Err fault
needed fault (Some x) = Ok x

abbrev pub name_at : ℕ → List ℕ → Result (List ℕ) Fault
name_at place word = needed (place, cause.Shape) (name_in word)

-- the place of the name that a word is
abbrev pub known_at : List (List ℕ) → ℕ → List ℕ → Result ℕ Fault
known_at names place word = name_at place word >>= λ name. needed (place, cause.Unknown word) (place_of name names)

-- the number that a word is, up to the greatest
abbrev pub number_at : ℕ → ℕ → List ℕ → Result ℕ Fault
number_at most place word = cond (is_number word) (cond (nat_le (number_of word) most) (Ok (number_of word)) (Err (place, cause.BadNumber word))) (Err (place, cause.Shape))

-- the words behind the first, where that is the key
abbrev pub after_key : List ℕ → List (List ℕ) → Option (List (List ℕ))
after_key key [] = None
after_key key (w ∷ ws) = cond (bytes_eq w key) (Some ws) None

abbrev pub first_word : List (List ℕ) → Option (List ℕ × List (List ℕ))
first_word [] = None
first_word (w ∷ ws) = Some (w, ws)

-- the places of the names that follow, behind those of a list
abbrev pub list_at : List (List ℕ) → ℕ → List ℕ → List (List ℕ) → Result (List ℕ) Fault
list_at names place list [] = Ok list
list_at names place list (w ∷ ws) = known_at names place w >>= λ i. list_at names place (list ++ i ∷ []) ws

-- the places of the names up to the key, behind those of a list, and what follows the key
abbrev pub list_until : List (List ℕ) → ℕ → List ℕ → List ℕ → List (List ℕ) → Result (List ℕ × List (List ℕ)) Fault
list_until names place key list [] = Err (place, cause.Shape)
list_until names place key list (w ∷ ws) = cond (bytes_eq w key) (Ok (list, ws)) (known_at names place w >>= λ i. list_until names place key (list ++ i ∷ []) ws)

-- the set of the facts that are named
abbrev pub set_at : List (List ℕ) → ℕ → List (List ℕ) → Result (List ℕ) Fault
set_at names place words = list_at names place [] words >>= λ places. Ok (plus [] places)

-- the set of the facts that are named up to the key, and what follows the key
abbrev pub set_until : List (List ℕ) → ℕ → List ℕ → List (List ℕ) → Result (List ℕ × List (List ℕ)) Fault
set_until names place key words = list_until names place key [] words >>= λ p. Ok (plus [] p.0, p.1)

abbrev pub end_at : ℕ → List (List ℕ) → Result (Unit {0}) Fault
end_at place [] = Ok tt
end_at place (w ∷ ws) = Err (place, cause.Shape)

-- the name that a line declares, which no name before it is, and all names with it
abbrev pub declared_at : List (List ℕ) → ℕ → List ℕ → Result (List ℕ × List (List ℕ)) Fault
declared_at names place word = name_at place word >>= λ name. cond (is_declared name names) (Err (place, cause.Clash word)) (Ok (name, names ++ name ∷ []))

abbrev pub word_at : ℕ → List (List ℕ) → Result (List ℕ × List (List ℕ)) Fault
word_at place words = needed (place, cause.Shape) (first_word words)

abbrev pub key_at : ℕ → List ℕ → List (List ℕ) → Result (List (List ℕ)) Fault
key_at place key words = needed (place, cause.Shape) (after_key key words)

-- the words behind `fact`, and the names after it
unfoldable pub fact_at : List (List ℕ) → ℕ → List (List ℕ) → Result (List (List ℕ)) Fault
fact_at names place words = do
  first ← word_at place words
  name ← declared_at names place first.0
  end ← end_at place first.1
  Ok name.1

-- the words behind `action`, and the names of actions after it
unfoldable pub action_at : List (List ℕ) → List (List ℕ) → ℕ → List (List ℕ) → Result (Action × List (List ℕ)) Fault
action_at facts names place words = do
  first ← word_at place words
  name ← declared_at names place first.0
  second ← word_at place first.1
  cost ← number_at 1_000_000_000 place second.0
  rest ← key_at place (codes "pre") second.1
  pre ← set_until facts place (codes "add") rest
  add ← set_until facts place (codes "del") pre.1
  del ← set_at facts place add.1
  Ok (record { name = name.0; cost = cost; pre = pre.0; add = add.0; del = minus del add.0 }, name.1)

-- What is left of a text: the number of the next line, and the lines.
abbrev pub Left : Type 0
Left = ℕ × List (List (List ℕ))

-- what a line is read to, by whether it has the key
abbrev pub on_key : {A : Type 0} → Option (List (List ℕ)) → A → (List (List ℕ) → A) → A
on_key None stop go = stop
on_key (Some ws) stop go = go ws

-- the lines of facts, up to one that begins otherwise
abbrev pub facts_at : List (List ℕ) → ℕ → List (List (List ℕ)) → Result (List (List ℕ) × Left) Fault
facts_at names number [] = Ok (names, (number, []))
facts_at names number (l ∷ ls) = on_key (after_key (codes "fact") l) (Ok (names, (number, l ∷ ls))) (λ ws. fact_at names number ws >>= λ more. facts_at more (number + 1) ls)

abbrev pub actions_at : List (List ℕ) → List (List ℕ) → List Action → ℕ → List (List (List ℕ)) → Result ((List Action × List (List ℕ)) × Left) Fault
actions_at facts names actions number [] = Ok ((actions, names), (number, []))
actions_at facts names actions number (l ∷ ls) = on_key (after_key (codes "action") l) (Ok ((actions, names), (number, l ∷ ls))) (λ ws. action_at facts names number ws >>= λ more. actions_at facts more.1 (actions ++ more.0 ∷ []) (number + 1) ls)

-- the words behind the key of a line
abbrev pub line_at : List ℕ → Left → Result (List (List ℕ) × Left) Fault
line_at key left = elim (left.1) [ [] ↦ Err (left.0, cause.Shape) | l ∷ ls ↦ key_at left.0 key l >>= λ ws. Ok (ws, (left.0 + 1, ls)) ]

-- no lines are left
abbrev pub no_more : Left → Result (Unit {0}) Fault
no_more left = elim (left.1) [ [] ↦ Ok tt | l ∷ ls ↦ Err (left.0, cause.Shape) ]

-- the line that must be the first
abbrev pub head_at : List (List (List ℕ)) → Result Left Fault
head_at text = do
  head ← line_at (codes "bdpo-script") (1, text)
  version ← key_at 1 (codes "1") head.0
  none ← end_at 1 version
  Ok head.1

-- a line that is the key and a set
abbrev pub set_line : List ℕ → List (List ℕ) → Left → Result (List ℕ × Left) Fault
set_line key facts left = do
  line ← line_at key left
  set ← set_at facts left.0 line.0
  Ok (set, line.1)

abbrev pub plan_line : List (List ℕ) → Left → Result (List ℕ × Left) Fault
plan_line names left = do
  line ← line_at (codes "plan") left
  list ← list_at names left.0 [] line.0
  Ok (list, line.1)

-- the number that a word is, from 1 to 1,000,000
abbrev pub stop_number : ℕ → List ℕ → Result ℕ Fault
stop_number place word = number_at 1_000_000 place word >>= λ n. cond (n == 0) (Err (place, cause.BadNumber word)) (Ok n)

-- the words behind `stop`
abbrev pub stop_at : ℕ → List (List ℕ) → Result ℕ Fault
stop_at place words = do
  first ← word_at place words
  stop ← stop_number place first.0
  none ← end_at place first.1
  Ok stop

-- the number of the line of the stop, where there is one, and else the greatest
abbrev pub stop_line : Left → Result (ℕ × Left) Fault
stop_line left = elim (left.1) [ [] ↦ Ok (1_000_000, left) | l ∷ ls ↦ on_key (after_key (codes "stop") l) (Ok (1_000_000, left)) (λ ws. stop_at left.0 ws >>= λ stop. Ok (stop, (left.0 + 1, ls))) ]
