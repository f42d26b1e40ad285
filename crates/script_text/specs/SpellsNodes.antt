-- What words a node is written as.
use Rattle.std.specs.Prelude.{◌≡◌, ℕ, suc, ◌≤◌, true, List, [], ◌∷◌, ◌++◌, Some}
use Rattle.bd_tree.specs.declared.node.Node.{Node, Step, Block}
use Rattle.script_text.specs.Lines.{is_name, in_parens, is_number, number_of}
use Rattle.script_text.specs.Names.{place_of}

-- digits of at most 4,294,967,295
abbrev pub IsId : List ℕ → Type 0
IsId digits = (is_number digits ≡ true) × (number_of digits ≤ 4_294_967_295)

-- the pair that is written: two positions with a `<` between them
pub record IsPair (word : List ℕ) (pair : ℕ × ℕ) : Type 0 where
  pub first : List ℕ
  pub second : List ℕ
  pub first_id : IsId first
  pub second_id : IsId second
  pub written : word ≡ first ++ 60 ∷ second
  pub whole : pair ≡ (number_of first, number_of second)

abbrev pub ArePairs : List (List ℕ) → List (ℕ × ℕ) → Type 0
ArePairs [] [] = Unit {0}
ArePairs [] (p ∷ pairs) = ⊥
ArePairs (w ∷ words) [] = ⊥
ArePairs (w ∷ words) (p ∷ pairs) = IsPair w p × ArePairs words pairs

-- the word of a step: its id, `:` and its action's name
abbrev pub step_word : List ℕ → List ℕ → List ℕ
step_word digits name = digits ++ 58 ∷ in_parens name

-- the words of a block: its id with `{`, its kids' words, `|`, its pairs' words and `}`
abbrev pub block_words : List ℕ → List (List ℕ) → List (List ℕ) → List (List ℕ)
block_words digits kids pairs = (digits ++ 123 ∷ []) ∷ (kids ++ (124 ∷ []) ∷ (pairs ++ (125 ∷ []) ∷ []))

mutual
  -- the node is written by the words, its actions by their names, and it has no more blocks in one another than there is room for
  pub data SpellsNode : List (List ℕ) → ℕ → List (List ℕ) → Node → Type 0 where
    written_step : {declared : List (List ℕ)} {room : ℕ} {words : List (List ℕ)} {node : Node} (digits name : List ℕ) (action : ℕ) →
        IsId digits → is_name name ≡ true → place_of name declared ≡ Some action → words ≡ step_word digits name ∷ [] → node ≡ Step (number_of digits) action → SpellsNode declared room words node
    written_block : {declared : List (List ℕ)} {room : ℕ} {words : List (List ℕ)} {node : Node} (inner : ℕ) (digits : List ℕ) (kids_words pairs_words : List (List ℕ)) (kids : List Node) (pairs : List (ℕ × ℕ)) →
        room ≡ suc inner → IsId digits → SpellsNodes declared inner kids_words kids → ArePairs pairs_words pairs → words ≡ block_words digits kids_words pairs_words → node ≡ Block (number_of digits) kids pairs → SpellsNode declared room words node

  -- the nodes are written by the words, one after the other
  pub data SpellsNodes : List (List ℕ) → ℕ → List (List ℕ) → List Node → Type 0 where
    written_none : {declared : List (List ℕ)} {room : ℕ} {words : List (List ℕ)} {nodes : List Node} → words ≡ [] → nodes ≡ [] → SpellsNodes declared room words nodes
    written_more : {declared : List (List ℕ)} {room : ℕ} {words : List (List ℕ)} {nodes : List Node} (front back : List (List ℕ)) (node : Node) (rest : List Node) →
        SpellsNode declared room front node → SpellsNodes declared room back rest → words ≡ front ++ back → nodes ≡ node ∷ rest → SpellsNodes declared room words nodes
