-- How nodes are read, word by word: a step is one word, and a block is its id with a `{`, its kids, `|`, its pairs, and `}`.
use Rattle.std.specs.Prelude.{ℕ, ◌+◌, ◌==◌, ◌||◌, ◌&&◌, Bool, true, false, not, cond, nat_le, List, [], ◌∷◌, ◌++◌, Option, Some, None, Result, Ok, Err, length, take, drop, codes}
use Rattle.std.specs.List.{position_or_len}
use Rattle.std.specs.Str.{bytes_eq}
use Rattle.bd_base.specs.declared.text_err.Cause.TheVariants as cause
use Rattle.bd_tree.specs.declared.node.Node.{Node, Step, Block}
use Rattle.script_text.specs.Lines.{is_empty_list}
use Rattle.script_text.specs.Reading.{Fault, ◌>>=◌, known_at, number_at}

-- whether the byte ends an id in the word of a node: `:` or `{`
abbrev pub is_mark : ℕ → Bool
is_mark b = b == 58 || b == 123

-- the bytes before the first mark of a word, and those from it on
abbrev pub before_mark : List ℕ → List ℕ
before_mark word = take (position_or_len is_mark word) word

abbrev pub from_mark : List ℕ → List ℕ
from_mark word = drop (position_or_len is_mark word) word

-- the id of a node
abbrev pub id_at : ℕ → List ℕ → Result ℕ Fault
id_at place word = number_at 4_294_967_295 place word

-- the bytes before the first `<` of a word, and those from it on
abbrev pub before_less : List ℕ → List ℕ
before_less word = take (position_or_len (λ b. b == 60) word) word

abbrev pub from_less : List ℕ → List ℕ
from_less word = drop (position_or_len (λ b. b == 60) word) word

-- the position behind the `<`
abbrev pub second_at : ℕ → List ℕ → Result ℕ Fault
second_at place [] = Err (place, cause.Shape)
second_at place (b ∷ bs) = number_at 4_294_967_295 place bs

-- the pair that a word is
unfoldable pub pair_at : ℕ → List ℕ → Result (ℕ × ℕ) Fault
pair_at place word = do
  first ← number_at 4_294_967_295 place (before_less word)
  second ← second_at place (from_less word)
  Ok (first, second)

-- a block that is open: its id, its kids so far, and its pairs so far once `|` was read
pub record Open : Type 0 where
  pub id : ℕ
  pub kids : List Node
  pub pairs : Option (List (ℕ × ℕ))

-- the innermost block that is open, and those around it from the nearest on; with none around it, it stands for the line itself
pub record Nest : Type 0 where
  pub inner : Open
  pub outer : List Open

abbrev pub empty_block : ℕ → Open
empty_block id = record { id = id; kids = []; pairs = None }

-- before the first node of a line
abbrev pub no_nodes : Nest
no_nodes = record { inner = empty_block 0; outer = [] }

-- whether no block is open
abbrev pub is_flat : Nest → Bool
is_flat nest = elim (nest.outer) [ [] ↦ true | o ∷ os ↦ false ]

abbrev pub with_kid : Node → Open → Open
with_kid node block = record { id = block.id; kids = block.kids ++ node ∷ []; pairs = block.pairs }

abbrev pub with_pairs : List (ℕ × ℕ) → Open → Open
with_pairs pairs block = record { id = block.id; kids = block.kids; pairs = Some pairs }

-- the nest with one more node
abbrev pub add_kid : Node → Nest → Nest
add_kid node nest = record { inner = with_kid node nest.inner; outer = nest.outer }

-- a block opens: at most 64 are open at once, and nothing follows the `{` in its word
abbrev pub opened : ℕ → ℕ → List ℕ → Nest → Result Nest Fault
opened place id rest nest = cond (nat_le 64 (length nest.outer)) (Err (place, cause.Misfit)) (cond (is_empty_list rest) (Ok (record { inner = empty_block id; outer = nest.inner ∷ nest.outer })) (Err (place, cause.Shape)))

-- what the bytes from the mark on say of the node with the id
abbrev pub node_behind : List (List ℕ) → ℕ → ℕ → List ℕ → Nest → Result Nest Fault
node_behind names place id [] nest = Err (place, cause.Shape)
node_behind names place id (b ∷ rest) nest =
    cond (b == 58) (known_at names place rest >>= λ action. Ok (add_kid (Step id action) nest)) (opened place id rest nest)

-- the word of a step, or of a block that opens
unfoldable pub node_at : List (List ℕ) → ℕ → List ℕ → Nest → Result Nest Fault
node_at names place word nest = id_at place (before_mark word) >>= λ id. node_behind names place id (from_mark word) nest

-- the innermost block ends
abbrev pub closed : ℕ → List (ℕ × ℕ) → Nest → Result Nest Fault
closed place pairs nest = elim (nest.outer) [
  | [] ↦ Err (place, cause.Shape)
  | o ∷ os ↦ Ok (add_kid (Block nest.inner.id nest.inner.kids pairs) (record { inner = o; outer = os }))
]

-- the nest whose innermost block has these pairs behind its `|`
abbrev pub set_pairs : List (ℕ × ℕ) → Nest → Nest
set_pairs pairs nest = record { inner = with_pairs pairs nest.inner; outer = nest.outer }

-- what a word says behind the `|` of a block and its pairs so far
abbrev pub pairs_in : ℕ → List ℕ → Nest → List (ℕ × ℕ) → Result Nest Fault
pairs_in place word nest pairs = cond (bytes_eq word (codes "}")) (closed place pairs nest) (pair_at place word >>= λ pair. Ok (set_pairs (pairs ++ pair ∷ []) nest))

-- what a word says, by whether the innermost block has its `|`
abbrev pub read_in : List (List ℕ) → ℕ → List ℕ → Nest → Option (List (ℕ × ℕ)) → Result Nest Fault
read_in names place word nest None = cond (is_flat nest || not (bytes_eq word (codes "|"))) (node_at names place word nest) (Ok (set_pairs [] nest))
read_in names place word nest (Some pairs) = pairs_in place word nest pairs

abbrev pub read_word : List (List ℕ) → ℕ → List ℕ → Nest → Result Nest Fault
read_word names place word nest = read_in names place word nest (nest.inner.pairs)

-- the words up to the one at which reading stops, or to the end of the line: what they say behind what was read, and the words that are left
abbrev pub nodes_until : List (List ℕ) → ℕ → (Nest → List ℕ → Bool) → Nest → List (List ℕ) → Result (Nest × List (List ℕ)) Fault
nodes_until names place stops nest [] = Ok (nest, [])
nodes_until names place stops nest (w ∷ ws) = cond (stops nest w) (Ok (nest, w ∷ ws)) (read_word names place w nest >>= λ more. nodes_until names place stops more ws)

-- whether the word ends a list of nodes
abbrev pub ends_kids : Nest → List ℕ → Bool
ends_kids nest word = is_flat nest && bytes_eq word (codes "with")

abbrev pub kids_of : ℕ → Nest × List (List ℕ) → Result (List Node × List (List ℕ)) Fault
kids_of place read = elim (read.1) [ [] ↦ Err (place, cause.Shape) | w ∷ ws ↦ Ok (read.0.inner.kids, ws) ]

-- the nodes up to `with`, and what follows it
abbrev pub kids_until : List (List ℕ) → ℕ → Nest → List (List ℕ) → Result (List Node × List (List ℕ)) Fault
kids_until names place nest ws = nodes_until names place ends_kids nest ws >>= kids_of place

-- the one of the nodes
abbrev pub only : ℕ → List Node → Result Node Fault
only place [] = Err (place, cause.Shape)
only place (node ∷ []) = Ok node
only place (node ∷ other ∷ more) = Err (place, cause.Shape)

-- whether a node is complete, and none is open
abbrev pub is_done : Nest → List ℕ → Bool
is_done nest word = is_flat nest && elim (nest.inner.kids) [ [] ↦ false | node ∷ nodes ↦ true ]

abbrev pub root_of : ℕ → Nest × List (List ℕ) → Result Node Fault
root_of place read = elim (read.1) [ [] ↦ cond (is_flat read.0) (only place read.0.inner.kids) (Err (place, cause.Shape)) | w ∷ ws ↦ Err (place, cause.Shape) ]

-- the one node that all the words are
abbrev pub root_at : List (List ℕ) → ℕ → Nest → List (List ℕ) → Result Node Fault
root_at names place nest ws = nodes_until names place is_done nest ws >>= root_of place
