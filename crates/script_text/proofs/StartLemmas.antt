-- A start tree that is spelled may open a core.
use Rattle.std.proofs.Common.{◌≡◌, ℕ, ◌+◌, ◌<◌, ◌≤◌, ◌^◌, Bool, true, false, max, nat_lt, ◌&&◌, List, [], ◌∷◌, ◌++◌, Option, Some, None, Result, Ok, Err, IfOk, map, length, refl, sym, ap, subst, ◌∙◌, arith}
use Rattle.std.specs.List.{list_all}
use Rattle.std.specs.Str.{bytes_eq}
use Rattle.std.proofs.lemmas.List.{length-append}
use Rattle.std.proofs.lemmas.List.Quantifiers.{position-Some}
use Rattle.std.proofs.lemmas.Bool.Decides.{nat_tests}
use Rattle.bd_links.specs.Sound.{are_below, below_step}
use Rattle.bd_tree.specs.Tree.{total, depth_of, nodes_of, nodes_step, ids_of, ids_step, joined, greatest, listed_of}
use Rattle.bd_tree.proofs.MisfitLemmas.{fits_from}
use Rattle.bd_base.specs.declared.text_err.TextErr.{TextErr}
use Rattle.script_text.specs.declared.script.Script.{Script}
use Rattle.script_text.specs.Nodes.{no_nodes, root_at}
use Rattle.script_text.specs.Range.{StartsWell, StartsBy}
use Rattle.script_text.specs.Reading.{Gives}
use Rattle.script_text.specs.Spells.{IsRoot, IsStart, names_of, SpellsScript}
use Rattle.script_text.proofs.FitLemmas.{length-names}
use Rattle.script_text.proofs.LentLemmas.{start_short}
use Rattle.script_text.proofs.NodesBack.{root_back}
use Rattle.bd_tree.specs.declared.node.Node.{Node, Step, Block}
use Rattle.bd_tree.specs.declared.node.Node.TheFolds.{fold-roll-Node}
use Rattle.bd_tree.specs.declared.node.Node.TheOpen.{Node-F}
use Rattle.bd_tree.specs.declared.node.Node.TheViews.{rolls-Step, rolls-Block}
use Rattle.script_text.specs.Lines.{number_of}
use Rattle.script_text.specs.SpellsNodes.{SpellsNode, written_step, written_block, SpellsNodes, written_none, written_more}

-- nodes are no more than words

nodes-Step : (id a : ℕ) → nodes_of (Step id a) ≡ 1
nodes-Step id a = ap nodes_of (sym (rolls-Step id a)) ∙ fold-roll-Node ℕ nodes_step (Node-F.Step id a)

nodes-Block : (id : ℕ) (kids : List Node) (order : List (ℕ × ℕ)) → nodes_of (Block id kids order) ≡ 1 + total (map nodes_of kids)
nodes-Block id kids order = ap nodes_of (sym (rolls-Block id kids order)) ∙ fold-roll-Node ℕ nodes_step (Node-F.Block id kids order)

mutual
  pub spelled_few : {declared : List (List ℕ)} {room : ℕ} {words : List (List ℕ)} {node : Node} → SpellsNode declared room words node → nodes_of node ≤ length words
  spelled_few {words = words} {node = node} (written_step digits name action id n p ws is) =
      let w = ap (λ (v : List (List ℕ)). length v) ws in
      omega (arith, ap nodes_of is, nodes-Step (number_of digits) action)
  spelled_few {words = words} {node = node} (written_block inner digits kids_words pairs_words kids pairs deeper id spelled are ws is) =
      let w = ap (λ (v : List (List ℕ)). length v) ws in
      let all = length-append kids_words ((124 ∷ []) ∷ (pairs_words ++ (125 ∷ []) ∷ [])) in
      omega (arith, ap nodes_of is, nodes-Block (number_of digits) kids pairs, spelled_all_few spelled)

  spelled_all_few : {declared : List (List ℕ)} {room : ℕ} {words : List (List ℕ)} {nodes : List Node} → SpellsNodes declared room words nodes → total (map nodes_of nodes) ≤ length words
  spelled_all_few (written_none ws is) = let n = ap (λ (v : List Node). total (map nodes_of v)) is in omega arith
  spelled_all_few (written_more front back node rest spelled others ws is) =
      let n = ap (λ (v : List Node). total (map nodes_of v)) is in
      let w = ap (λ (v : List (List ℕ)). length v) ws in
      omega (arith, length-append front back, spelled_few spelled, spelled_all_few others)

-- ids are small

ids-Step : (id a : ℕ) → ids_of (Step id a) ≡ id ∷ []
ids-Step id a = ap ids_of (sym (rolls-Step id a)) ∙ fold-roll-Node (List ℕ) ids_step (Node-F.Step id a)

ids-Block : (id : ℕ) (kids : List Node) (order : List (ℕ × ℕ)) → ids_of (Block id kids order) ≡ id ∷ joined (map ids_of kids)
ids-Block id kids order = ap ids_of (sym (rolls-Block id kids order)) ∙ fold-roll-Node (List ℕ) ids_step (Node-F.Block id kids order)

greatest_append : (xs ys : List ℕ) → greatest (xs ++ ys) ≡ max (greatest xs) (greatest ys)
greatest_append [] ys = omega arith
greatest_append (x ∷ xs) ys = omega (arith, greatest_append xs ys)

mutual
  pub spelled_ids : {declared : List (List ℕ)} {room : ℕ} {words : List (List ℕ)} {node : Node} → SpellsNode declared room words node → greatest (ids_of node) ≤ 4_294_967_295
  spelled_ids (written_step digits name action id n p ws is) =
      let i = ap greatest (ap ids_of is ∙ ids-Step (number_of digits) action) in
      omega (arith, id.1)
  spelled_ids (written_block inner digits kids_words pairs_words kids pairs deeper id spelled are ws is) =
      let i = ap greatest (ap ids_of is ∙ ids-Block (number_of digits) kids pairs) in
      omega (arith, id.1, spelled_all_ids spelled)

  spelled_all_ids : {declared : List (List ℕ)} {room : ℕ} {words : List (List ℕ)} {nodes : List Node} → SpellsNodes declared room words nodes → greatest (joined (map ids_of nodes)) ≤ 4_294_967_295
  spelled_all_ids (written_none ws is) = let i = ap (λ (v : List Node). greatest (joined (map ids_of v))) is in omega arith
  spelled_all_ids (written_more front back node rest spelled others ws is) =
      let i = ap (λ (v : List Node). greatest (joined (map ids_of v))) is in
      omega (arith, greatest_append (ids_of node) (joined (map ids_of rest)), spelled_ids spelled, spelled_all_ids others)

-- actions are the task's

below-Step : (n id a : ℕ) → are_below n (Step id a) ≡ nat_lt a n
below-Step n id a = ap (are_below n) (sym (rolls-Step id a)) ∙ fold-roll-Node Bool (below_step n) (Node-F.Step id a)

below-Block : (n id : ℕ) (kids : List Node) (order : List (ℕ × ℕ)) → are_below n (Block id kids order) ≡ list_all (λ b. b) (map (are_below n) kids)
below-Block n id kids order = ap (are_below n) (sym (rolls-Block id kids order)) ∙ fold-roll-Node Bool (below_step n) (Node-F.Block id kids order)

lt_true : (a n : ℕ) → a < n → nat_lt a n ≡ true
lt_true a n h = grind (arith, nat_tests)

mutual
  pub spelled_below : (declared : List (List ℕ)) {room : ℕ} {words : List (List ℕ)} {node : Node} → SpellsNode declared room words node → are_below (length declared) node ≡ true
  spelled_below declared (written_step digits name action id n p ws is) =
      let below : action < length declared = (position-Some (λ m. bytes_eq name m) declared action name p).0 in
      ap (are_below (length declared)) is ∙ below-Step (length declared) (number_of digits) action ∙ lt_true action (length declared) below
  spelled_below declared (written_block inner digits kids_words pairs_words kids pairs deeper id spelled are ws is) =
      ap (are_below (length declared)) is ∙ below-Block (length declared) (number_of digits) kids pairs ∙ spelled_all_below declared spelled

  spelled_all_below : (declared : List (List ℕ)) {room : ℕ} {words : List (List ℕ)} {nodes : List Node} → SpellsNodes declared room words nodes → list_all (λ b. b) (map (are_below (length declared)) nodes) ≡ true
  spelled_all_below declared (written_none ws is) = rw is refl
  spelled_all_below declared (written_more front back node rest spelled others ws is) = rw (is, spelled_below declared spelled) (spelled_all_below declared others)

-- what is read of a node is no more than its words
pub root_few : (names : List (List ℕ)) (place : ℕ) (ws : List (List ℕ)) (result : Result Node TextErr) → Gives (λ n. n) result (root_at names place no_nodes ws) → IfOk result (λ (n : Node). nodes_of n ≤ length ws)
root_few names place ws (Ok root) h = spelled_few (root_back names place ws root h)
root_few names place ws (Err e) h = tt

root_well : (declared : List (List ℕ)) (plan : List ℕ) (words : List (List ℕ)) (root : Node) (bytes : ℕ) → IsRoot declared plan words root → length words < bytes → StartsWell (length declared) bytes plan root
root_well declared plan words root bytes h lt =
    let f = fits_from root h.formed in
    record {
      formed = f.0;
      in_range = spelled_below declared h.spelled;
      shallow = f.1;
      few = omega (arith, spelled_few h.spelled);
      ids = omega (arith, spelled_ids h.spelled);
      lists = h.lists;
    }

by_start : (declared : List (List ℕ)) (plan : List ℕ) (words : Option (List (List ℕ))) (start : Option Node) (bytes : ℕ) → IsStart declared plan words start → ((ws : List (List ℕ)) → words ≡ Some ws → length ws < bytes) → StartsBy (length declared) bytes plan start
by_start declared plan None None bytes h short = tt
by_start declared plan None (Some root) bytes h short = absurd h
by_start declared plan (Some words) None bytes h short = tt
by_start declared plan (Some words) (Some root) bytes h short = root_well declared plan words root bytes h (short words refl)

pub starts_by : (text : List ℕ) (s : Script) → SpellsScript text s → StartsBy (length s.task.actions) (length text) s.plan s.start
starts_by text s h =
    let P : ℕ → Type 0 = λ n. StartsBy n (length text) s.plan s.start in
    subst P (length-names h.source.facts h.source.actions s.task.actions h.actions)
    (by_start (names_of h.source.actions) s.plan h.source.start s.start (length text) h.start (λ ws some. start_short text h.source ws h.spelled some))
