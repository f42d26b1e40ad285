-- A script within the limits meets the conditions of a task, and its plan is in range.
use Rattle.std.proofs.Common.{◌≡◌, ℕ, ◌<◌, ◌≤◌, Bool, true, false, cond, not, eqb, nat_lt, List, [], ◌∷◌, ◌++◌, Option, Some, None, map, length, refl, sym, ap, subst, ◌∙◌, arith}
use Rattle.std.specs.List.{list_all, All}
use Rattle.std.proofs.lemmas.List.Elements.{All-nil, All-cons, All-append}
use Rattle.std.specs.Str.{bytes_eq}
use Rattle.std.proofs.lemmas.Bool.{or_left, or_right, both_ways}
use Rattle.std.proofs.lemmas.List.Quantifiers.{position-Some}
use Rattle.bd_base.specs.Facts.{has, minus}
use Rattle.bd_base.specs.declared.text_err.Limit.{Limit}
use Rattle.bd_base.proofs.FactLemmas.{has-minus}
use Rattle.bd_task.proofs.BelowLemmas.{below-plus, below-minus}
use Rattle.bd_task.specs.declared.ground.Action.{Action}
use Rattle.bd_task.specs.TaskView.{AreBelow, IsTask, AreActions}
use Rattle.bd_task.specs.TaskView.{IsAction as MeetsTask}
use Rattle.bd_tree.specs.Tree.{joined, listed_of, listed_step}
use Rattle.bd_tree.specs.declared.node.Node.{Node, Step, Block}
use Rattle.bd_tree.specs.declared.node.Node.TheFolds.{fold-roll-Node}
use Rattle.bd_tree.specs.declared.node.Node.TheOpen.{Node-F}
use Rattle.bd_tree.specs.declared.node.Node.TheViews.{rolls-Step, rolls-Block}
use Rattle.plan_core.specs.declared.offer.Offer.{Offer}
use Rattle.script_text.specs.declared.script.Script.{Script}
use Rattle.script_text.specs.Lines.{number_of}
use Rattle.script_text.specs.Range.{HasActionsBelow}
use Rattle.script_text.specs.Limits.{over_of}
use Rattle.script_text.specs.SpellsNodes.{SpellsNode, written_step, written_block, SpellsNodes, written_none, written_more}
use Rattle.script_text.specs.Spells.{Listed, Replacement, Offered, replacement, tightening, rebuild, AreNew, ArePlaces, IsSetOf, IsAction, AreActionsOf, names_of, IsStop, IsReplacement, IsOffer, AreOffers, SpellsScript}
use Rattle.script_text.proofs.LineLemmas.{lt_false}

-- numbers below a bound

pub places_below : (declared names : List (List ℕ)) (places : List ℕ) → ArePlaces declared names places → AreBelow (length declared) places
places_below declared [] [] h = tt
places_below declared [] (i ∷ places) h = absurd h
places_below declared (n ∷ names) [] h = absurd h
places_below declared (n ∷ names) (i ∷ places) h = ((position-Some (λ m. bytes_eq n m) declared i n h.1).0, places_below declared names places h.2)

set_below : (facts names : List (List ℕ)) (set : List ℕ) → IsSetOf facts names set → AreBelow (length facts) set
set_below facts names set s =
    let P : List ℕ → Type 0 = AreBelow (length facts) in
    subst P (sym s.whole) (below-plus (length facts) [] s.places tt (places_below facts names s.places s.are))

-- what is added is not deleted

apart_from : (del add xs : List ℕ) → ((q : ℕ) → has xs q ≡ true → has add q ≡ true) → list_all (λ x. not (has (minus del add) x)) xs ≡ true
apart_from del add [] h = refl
apart_from del add (x ∷ xs) h =
    let inside : has add x ≡ true = h x (or_left (eqb x x) (has xs x) (Rattle.std.proofs.lemmas.Bool.eq-eqb x x refl)) in
    let out : has (minus del add) x ≡ false = has-minus del add x ∙ rw inside refl in
    rw out (apart_from del add xs (λ q e. h q (or_right (eqb x q) (has xs q) e)))

-- the actions

action_fits : (facts : List (List ℕ)) (l : Listed) (a : Action) → IsAction facts l a → MeetsTask (length facts) a
action_fits facts l a h =
    let P : Action → Type 0 = MeetsTask (length facts) in
    subst P (sym h.whole) (record {
      cheap = h.cheap;
      pre = set_below facts l.pre h.pre h.needs;
      add = set_below facts l.add h.add h.adds;
      del = below-minus (length facts) h.del h.add (set_below facts l.del h.del h.deletes);
      apart = apart_from h.del h.add h.add (λ q e. e);
    })

actions_fit : (facts : List (List ℕ)) (listed : List Listed) (actions : List Action) → AreActionsOf facts listed actions → AreActions (length facts) actions
actions_fit facts [] [] h = tt
actions_fit facts [] (a ∷ actions) h = absurd h
actions_fit facts (l ∷ listed) [] h = absurd h
actions_fit facts (l ∷ listed) (a ∷ actions) h = (action_fits facts l a h.0, actions_fit facts listed actions h.1)

cons2 : (a b : List ℕ) (xs ys : List (List ℕ)) → a ≡ b → xs ≡ ys → a ∷ xs ≡ b ∷ ys
cons2 a b xs ys e f = cc

pub names_are : (facts : List (List ℕ)) (listed : List Listed) (actions : List Action) → AreActionsOf facts listed actions → map (λ (a : Action). a.name) actions ≡ names_of listed
names_are facts [] [] h = refl
names_are facts [] (a ∷ actions) h = absurd h
names_are facts (l ∷ listed) [] h = absurd h
names_are facts (l ∷ listed) (a ∷ actions) h = cons2 _ _ _ _ (ap (λ (x : Action). x.name) h.0.whole) (names_are facts listed actions h.1)

pub length-names : (facts : List (List ℕ)) (listed : List Listed) (actions : List Action) → AreActionsOf facts listed actions → length (names_of listed) ≡ length actions
length-names facts [] [] h = refl
length-names facts [] (a ∷ actions) h = absurd h
length-names facts (l ∷ listed) [] h = absurd h
length-names facts (l ∷ listed) (a ∷ actions) h = omega (arith, length-names facts listed actions h.1)

-- the limits

none_passed : (A : Type 0) (x y z w : A) (s t u v : Bool) → cond s (Some x) (cond t (Some y) (cond u (Some z) (cond v (Some w) None))) ≡ None → (s ≡ false) × (t ≡ false) × (u ≡ false)
none_passed A x y z w true t u v e = cc
none_passed A x y z w false true u v e = cc
none_passed A x y z w false false true v e = cc
none_passed A x y z w false false false v e = (refl, refl, refl)

pub record Within (s : Script) : Type 0 where
  pub facts : length s.task.facts ≤ 262_144
  pub actions : length s.task.actions ≤ 1_000_000
  pub steps : length s.plan ≤ 2_000

pub within : (s : Script) → over_of s ≡ None → Within s
within s e =
    let n = none_passed (Limit × ℕ) _ _ _ _ (nat_lt 262_144 (length s.task.facts)) (nat_lt 1_000_000 (length s.task.actions)) (nat_lt 2_000 (length s.plan)) (nat_lt 1_000_000 (length s.offers)) e in
    record { facts = lt_false _ _ n.0; actions = lt_false _ _ n.1; steps = lt_false _ _ n.2 }

pub task_fits : (text : List ℕ) (s : Script) → SpellsScript text s → over_of s ≡ None → IsTask s.task
task_fits text s h e =
    let w = within s e in
    let P : List (List ℕ) → Type 0 = λ facts. AreActions (length facts) s.task.actions in
    let Q : List (List ℕ) → Type 0 = λ facts. AreBelow (length facts) s.task.init in
    let R : List (List ℕ) → Type 0 = λ facts. AreBelow (length facts) s.task.goal in
    record {
      few_facts = omega (arith, w.facts);
      few_actions = w.actions;
      actions = subst P (sym h.facts) (actions_fit h.source.facts h.source.actions s.task.actions h.actions);
      init = subst Q (sym h.facts) (set_below h.source.facts h.source.init s.task.init h.init);
      goal = subst R (sym h.facts) (set_below h.source.facts h.source.goal s.task.goal h.goal);
    }

pub plan_below : (text : List ℕ) (s : Script) → SpellsScript text s → AreBelow (length s.task.actions) s.plan
plan_below text s h =
    let P : ℕ → Type 0 = λ n. AreBelow n s.plan in
    subst P (length-names h.source.facts h.source.actions s.task.actions h.actions) (places_below (names_of h.source.actions) h.source.plan s.plan h.plan)

-- the stop and the offers

pub stop_fits : (digits : Option (List ℕ)) (stop : ℕ) → IsStop digits stop → (0 < stop) × (stop ≤ 1_000_000)
stop_fits None stop h = (omega (arith, h), omega (arith, h))
stop_fits (Some digits) stop h = (omega (arith, h.1, h.3), omega (arith, h.2, h.3))

listed-Step : (id a : ℕ) → listed_of (Step id a) ≡ a ∷ []
listed-Step id a = ap listed_of (sym (rolls-Step id a)) ∙ fold-roll-Node (List ℕ) listed_step (Node-F.Step id a)

abbrev IsBelow : ℕ → Node → Type 0
IsBelow n node = All (λ a. a < n) (listed_of node)

listed-Block : (id : ℕ) (kids : List Node) (order : List (ℕ × ℕ)) → listed_of (Block id kids order) ≡ joined (map listed_of kids)
listed-Block id kids order = ap listed_of (sym (rolls-Block id kids order)) ∙ fold-roll-Node (List ℕ) listed_step (Node-F.Block id kids order)

append_below : (n : ℕ) (xs ys : List ℕ) → All (λ a. a < n) xs → All (λ a. a < n) ys → All (λ a. a < n) (xs ++ ys)
append_below n xs ys h k = All-append (λ a. a < n) xs ys h k

mutual
  node_fits : (declared : List (List ℕ)) {room : ℕ} {words : List (List ℕ)} {node : Node} → SpellsNode declared room words node → IsBelow (length declared) node
  node_fits declared (written_step digits name action id n p ws is) =
      let P : List ℕ → Type 0 = All (λ a. a < length declared) in
      let one = ap listed_of is ∙ listed-Step (number_of digits) action in
      let below : action < length declared = (position-Some (λ m. bytes_eq name m) declared action name p).0 in
      subst P (sym one) (All-cons (λ a. a < length declared) action [] below (All-nil (λ a. a < length declared)))
  node_fits declared (written_block inner digits kids_words pairs_words kids pairs deeper id spelled are ws is) =
      let P : List ℕ → Type 0 = All (λ a. a < length declared) in
      subst P (sym (ap listed_of is ∙ listed-Block (number_of digits) kids pairs)) (nodes_fit_joined declared spelled)

  nodes_fit_joined : (declared : List (List ℕ)) {room : ℕ} {words : List (List ℕ)} {nodes : List Node} → SpellsNodes declared room words nodes → All (λ a. a < length declared) (joined (map listed_of nodes))
  nodes_fit_joined declared (written_none ws is) =
      let P : List Node → Type 0 = λ ns. All (λ a. a < length declared) (joined (map listed_of ns)) in
      subst P (sym is) (All-nil (λ a. a < length declared))
  nodes_fit_joined declared (written_more front back node rest spelled others ws is) =
      let P : List Node → Type 0 = λ ns. All (λ a. a < length declared) (joined (map listed_of ns)) in
      subst P (sym is) (append_below (length declared) (listed_of node) (joined (map listed_of rest)) (node_fits declared spelled) (nodes_fit_joined declared others))

nodes_fit : (declared : List (List ℕ)) {room : ℕ} {words : List (List ℕ)} {nodes : List Node} → SpellsNodes declared room words nodes → All (IsBelow (length declared)) nodes
nodes_fit declared (written_none ws is) =
    let P : List Node → Type 0 = All (IsBelow (length declared)) in
    subst P (sym is) (All-nil (IsBelow (length declared)))
nodes_fit declared (written_more front back node rest spelled others ws is) =
    let P : List Node → Type 0 = All (IsBelow (length declared)) in
    subst P (sym is) (All-cons (IsBelow (length declared)) node rest (node_fits declared spelled) (nodes_fit declared others))

pub all_below : (n : ℕ) (xs : List ℕ) → AreBelow n xs → All (λ a. a < n) xs
all_below n [] b = All-nil (λ a. a < n)
all_below n (x ∷ xs) b = All-cons (λ a. a < n) x xs b.0 (all_below n xs b.1)

replacement_fits : (declared : List (List ℕ)) (r : Replacement) (o : Offer) → IsReplacement declared r o → HasActionsBelow (length declared) o
replacement_fits declared r o h =
    let P : Offer → Type 0 = HasActionsBelow (length declared) in
    subst P (sym h.whole) (nodes_fit declared h.carried, all_below (length declared) h.actions (places_below declared r.names h.actions h.list))

offer_fits : (declared : List (List ℕ)) (w : Offered) (o : Offer) → IsOffer declared w o → HasActionsBelow (length declared) o
offer_fits declared (replacement r) o h = replacement_fits declared r o h
offer_fits declared (tightening block left right) o h = let P : Offer → Type 0 = HasActionsBelow (length declared) in subst P (sym h.whole) tt
offer_fits declared (rebuild pairs) o h = let P : Offer → Type 0 = HasActionsBelow (length declared) in subst P (sym h.whole) tt

offers_fit : (declared : List (List ℕ)) (ws : List Offered) (os : List Offer) → AreOffers declared ws os → All (λ o. HasActionsBelow (length declared) o) os
offers_fit declared [] [] h = All-nil (λ o. HasActionsBelow (length declared) o)
offers_fit declared [] (o ∷ os) h = absurd h
offers_fit declared (w ∷ ws) [] h = absurd h
offers_fit declared (w ∷ ws) (o ∷ os) h = All-cons (λ x. HasActionsBelow (length declared) x) o os (offer_fits declared w o h.0) (offers_fit declared ws os h.1)

pub offers_below : (text : List ℕ) (s : Script) → SpellsScript text s → All (λ o. HasActionsBelow (length s.task.actions) o) s.offers
offers_below text s h =
    let P : ℕ → Type 0 = λ n. All (λ o. HasActionsBelow n o) s.offers in
    subst P (length-names h.source.facts h.source.actions s.task.actions h.actions) (offers_fit (names_of h.source.actions) h.source.offers s.offers h.offers)

pub names_new : (text : List ℕ) (s : Script) → SpellsScript text s → AreNew [] s.task.facts × AreNew [] (map (λ (a : Action). a.name) s.task.actions)
names_new text s h =
    let P : List (List ℕ) → Type 0 = AreNew [] in
    (subst P (sym h.facts) h.facts_new, subst P (sym (names_are h.source.facts h.source.actions s.task.actions h.actions)) h.actions_new)
