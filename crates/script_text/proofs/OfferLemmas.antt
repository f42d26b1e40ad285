-- What is spelled behind the plan is read.
use Rattle.std.proofs.Common.{◌≡◌, ℕ, ◌+◌, ◌<◌, true, false, ◌==◌, nat_eq, List, [], ◌∷◌, ◌++◌, Option, Some, None, Ok, map, length, codes, refl, sym, ap, ◌∙◌, arith, append_assoc}
use Rattle.std.proofs.lemmas.Bool.Decides.{nat_tests}
use Rattle.std.proofs.lemmas.List.{append-nil}
use Rattle.std.proofs.lemmas.Slice.Eq.{bytes_eq-Decides}
use Rattle.std.specs.Cmp.Lexicographic.{pointwise}
use Rattle.bd_merge.specs.declared.window.Lean.{Lean}
use Rattle.bd_merge.specs.declared.window.Lean.TheVariants as leans
use Rattle.bd_tree.specs.declared.node.Node.{Node}
use Rattle.plan_core.specs.declared.offer.Offer.{Offer}
use Rattle.script_text.specs.Lines.{in_parens}
use Rattle.script_text.specs.Reading.{stop_line}
use Rattle.script_text.specs.Nodes.{no_nodes, kids_until, root_at}
use Rattle.script_text.specs.Whole.{start_at, start_line, lean_at, replace_at, ids_until, ids_at, tighten_at, pairs_at, rebuild_at, offer_at, offers_at, tail_at, rest_at}
use Rattle.script_text.specs.Spells.{Replacement, Offered, replacement, tightening, rebuild, start_lines, stop_lines, lean_word, offer_line, IsRoot, IsStart, IsStop, IsReplacement, AreIds, IsTightening, IsRebuild, IsOffer, AreOffers}
use Rattle.script_text.specs.SpellsNodes.{ArePairs}
use Rattle.script_text.proofs.NodesRead.{kids_complete, root_complete, pair_is, no_right}
use Rattle.script_text.proofs.WordsReadLemmas.{list_complete, le_true}

-- the stop

some_stop : (n : ℕ) → 0 < n → (n == 0) ≡ false
some_stop n h = grind (arith, nat_tests)

lean_complete : (place : ℕ) (l : Lean) → lean_at place (lean_word l) ≡ Ok l
lean_complete place leans.Early = refl
lean_complete place leans.Late = refl

replace_complete : (declared : List (List ℕ)) (place : ℕ) (r : Replacement) (o : Offer) → IsReplacement declared r o → replace_at declared place (r.block ∷ lean_word r.lean ∷ (r.kids ++ codes "with" ∷ map in_parens r.names)) ≡ Ok o
unfolding replace_at
replace_complete declared place r o h =
    let k = kids_complete declared place r.kids h.kids (map in_parens r.names) h.carried in
    let l = list_complete declared place [] r.names h.actions h.list in
    rw (h.block.0, le_true 4_294_967_295 _ h.block.1, lean_complete place r.lean, k, l, ← h.whole) refl

-- the ids and the pairs of the other offers

ids_until_complete : (place : ℕ) (ids : List ℕ) (rest words : List (List ℕ)) (more : List ℕ) → AreIds words more → ids_until place (codes "right") ids (words ++ codes "right" ∷ rest) ≡ Ok (ids ++ more, rest)
ids_until_complete place ids rest [] [] h = ap (λ (xs : List ℕ). Ok (xs, rest)) (sym (append-nil ids))
ids_until_complete place ids rest [] (n ∷ more) h = absurd h
ids_until_complete place ids rest (w ∷ words) [] h = absurd h
ids_until_complete place ids rest (w ∷ words) (n ∷ more) h =
    rw (no_right w h.0.0, h.0.0, le_true 4_294_967_295 _ h.0.1, ← h.1) (ids_until_complete place (ids ++ n ∷ []) rest words more h.2 ∙ ap (λ (xs : List ℕ). Ok (xs, rest)) (append_assoc ids (n ∷ []) more))

ids_complete : (place : ℕ) (ids : List ℕ) (words : List (List ℕ)) (more : List ℕ) → AreIds words more → ids_at place ids words ≡ Ok (ids ++ more)
ids_complete place ids [] [] h = ap (λ (xs : List ℕ). Ok xs) (sym (append-nil ids))
ids_complete place ids [] (n ∷ more) h = absurd h
ids_complete place ids (w ∷ words) [] h = absurd h
ids_complete place ids (w ∷ words) (n ∷ more) h =
    rw (h.0.0, le_true 4_294_967_295 _ h.0.1, ← h.1) (ids_complete place (ids ++ n ∷ []) words more h.2 ∙ ap (λ (xs : List ℕ). Ok xs) (append_assoc ids (n ∷ []) more))

tighten_complete : (place : ℕ) (block : List ℕ) (left right : List (List ℕ)) (o : Offer) → IsTightening block left right o → tighten_at place (block ∷ codes "left" ∷ (left ++ codes "right" ∷ right)) ≡ Ok o
unfolding tighten_at
tighten_complete place block left right o h =
    rw (h.block_id.0, le_true 4_294_967_295 _ h.block_id.1, ids_until_complete place [] right left h.left_ids h.are_left, ids_complete place [] right h.right_ids h.are_right, h.whole) refl

pairs_complete : (place : ℕ) (pairs : List (ℕ × ℕ)) (words : List (List ℕ)) (more : List (ℕ × ℕ)) → ArePairs words more → pairs_at place pairs words ≡ Ok (pairs ++ more)
pairs_complete place pairs [] [] h = ap (λ (xs : List (ℕ × ℕ)). Ok xs) (sym (append-nil pairs))
pairs_complete place pairs [] (p ∷ more) h = absurd h
pairs_complete place pairs (w ∷ words) [] h = absurd h
pairs_complete place pairs (w ∷ words) (p ∷ more) h =
    rw (pair_is place w p h.0) (pairs_complete place (pairs ++ p ∷ []) words more h.1 ∙ ap (λ (xs : List (ℕ × ℕ)). Ok xs) (append_assoc pairs (p ∷ []) more))

rebuild_complete : (place : ℕ) (words : List (List ℕ)) (o : Offer) → IsRebuild words o → rebuild_at place words ≡ Ok o
rebuild_complete place words o h = rw (pairs_complete place [] words h.pairs h.are, h.whole) refl

offer_complete : (declared : List (List ℕ)) (place : ℕ) (w : Offered) (o : Offer) → IsOffer declared w o → offer_at declared place (offer_line w) ≡ Ok (Some o)
offer_complete declared place (replacement r) o h = rw (replace_complete declared place r o h) refl
offer_complete declared place (tightening block left right) o h = rw (tighten_complete place block left right o h) refl
offer_complete declared place (rebuild pairs) o h = rw (rebuild_complete place pairs o h) refl

offers_complete : (declared : List (List ℕ)) (done : List Offer) (number : ℕ) (written : List Offered) (os : List Offer) → AreOffers declared written os
    → (m : ℕ) × (offers_at declared done number (map offer_line written ++ (codes "end" ∷ []) ∷ []) ≡ Ok (done ++ os, (m, (codes "end" ∷ []) ∷ [])))
offers_complete declared done number [] [] h = (number, ap (λ (xs : List Offer). Ok (xs, (number, (codes "end" ∷ []) ∷ []))) (sym (append-nil done)))
offers_complete declared done number [] (o ∷ os) h = absurd h
offers_complete declared done number (w ∷ written) [] h = absurd h
offers_complete declared done number (w ∷ written) (o ∷ os) h =
    let more = offers_complete declared (done ++ o ∷ []) (number + 1) written os h.1 in
    (more.0, rw (offer_complete declared number w o h.0) (more.1 ∙ ap (λ (xs : List Offer). Ok (xs, (more.0, (codes "end" ∷ []) ∷ []))) (append_assoc done (o ∷ []) os)))

-- the lines behind the stop

abbrev last_lines : List Offered → List (List (List ℕ))
last_lines ws = map offer_line ws ++ (codes "end" ∷ []) ∷ []

stop_complete : (number : ℕ) (stop : Option (List ℕ)) (n : ℕ) (rs : List Offered) → IsStop stop n → (m : ℕ) × (stop_line (number, stop_lines stop ++ last_lines rs) ≡ Ok (n, (m, last_lines rs)))
stop_complete number None n [] h = (number, rw h refl)
stop_complete number None n (replacement r ∷ rs) h = (number, rw h refl)
stop_complete number None n (tightening b l r ∷ rs) h = (number, rw h refl)
stop_complete number None n (rebuild ps ∷ rs) h = (number, rw h refl)
stop_complete number (Some digits) n rs h = (number + 1, rw (h.0, le_true 1_000_000 _ h.2, some_stop _ h.1, h.3) refl)

tail_complete : (number : ℕ) → tail_at (number, (codes "end" ∷ []) ∷ []) ≡ Ok tt
unfolding tail_at
tail_complete number = refl

-- the start tree

same_list : (xs : List ℕ) → pointwise nat_eq xs xs ≡ true
same_list xs = (bytes_eq-Decides xs xs).1 refl

root_starts : (declared : List (List ℕ)) (plan : List ℕ) (place : ℕ) (words : List (List ℕ)) (root : Node) → IsRoot declared plan words root → start_at declared plan place words ≡ Ok root
unfolding start_at
root_starts declared plan place words root h =
    rw (root_complete declared place words root h.spelled, h.formed, h.lists, same_list plan) refl

no_start : (declared : List (List ℕ)) (plan : List ℕ) (number : ℕ) (stop : Option (List ℕ)) (rs : List Offered) → start_line declared plan (number, stop_lines stop ++ last_lines rs) ≡ Ok ((None, 0), (number, stop_lines stop ++ last_lines rs))
no_start declared plan number None [] = refl
no_start declared plan number None (replacement r ∷ rs) = refl
no_start declared plan number None (tightening b l r ∷ rs) = refl
no_start declared plan number None (rebuild ps ∷ rs) = refl
no_start declared plan number (Some digits) rs = refl

-- the number of the start tree's line, where it stands at the number
abbrev pub line_if : Option (List (List ℕ)) → ℕ → ℕ
line_if None number = 0
line_if (Some words) number = number

start_complete : (declared : List (List ℕ)) (plan : List ℕ) (number : ℕ) (words : Option (List (List ℕ))) (start : Option Node) (stop : Option (List ℕ)) (rs : List Offered) → IsStart declared plan words start
    → (m : ℕ) × (start_line declared plan (number, start_lines words ++ (stop_lines stop ++ last_lines rs)) ≡ Ok ((start, line_if words number), (m, stop_lines stop ++ last_lines rs)))
start_complete declared plan number None None stop rs h = (number, no_start declared plan number stop rs)
start_complete declared plan number None (Some root) stop rs h = absurd h
start_complete declared plan number (Some words) None stop rs h = absurd h
start_complete declared plan number (Some words) (Some root) stop rs h = (number + 1, rw (root_starts declared plan number words root h) refl)

pub rest_complete : (declared : List (List ℕ)) (plan : List ℕ) (number : ℕ) (words : Option (List (List ℕ))) (start : Option Node) (stop : Option (List ℕ)) (n : ℕ) (rs : List Offered) (os : List Offer) → IsStart declared plan words start → IsStop stop n → AreOffers declared rs os
    → rest_at declared plan (number, start_lines words ++ (stop_lines stop ++ last_lines rs)) ≡ Ok (record { start = start; start_line = line_if words number; stop = n; offers = os })
unfolding rest_at
rest_complete declared plan number words start stop n rs os f h k =
    let a = start_complete declared plan number words start stop rs f in
    let s = stop_complete a.0 stop n rs h in
    let o = offers_complete declared [] s.0 rs os k in
    rw (a.1, s.1, o.1, tail_complete o.0) refl
