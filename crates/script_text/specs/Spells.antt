-- What a text of a script spells.
use Rattle.std.specs.Prelude.{◌≡◌, ℕ, ◌+◌, ◌<◌, ◌≤◌, length, true, false, List, [], ◌∷◌, ◌++◌, Option, Some, None, map, codes}
use Rattle.bd_base.specs.Facts.{plus, minus}
use Rattle.bd_merge.specs.declared.window.Lean.{Lean}
use Rattle.bd_merge.specs.declared.window.Lean.TheVariants as leans
use Rattle.bd_task.specs.declared.ground.Action.{Action}
use Rattle.bd_tree.specs.declared.node.Node.{Node}
use Rattle.bd_tree.specs.Misfit.{first_misfit}
use Rattle.bd_tree.specs.Tree.{listed_of}
use Rattle.plan_core.specs.declared.offer.Offer.{Offer}
use Rattle.plan_core.specs.declared.offer.Offer.TheVariants.{Replace, Tighten, Rebuild}
use Rattle.script_text.specs.declared.script.Script.{Script}
use Rattle.script_text.specs.Lines.{worded, is_name, in_parens, is_number, number_of}
use Rattle.script_text.specs.SpellsNodes.{IsId, ArePairs, SpellsNode, SpellsNodes}
use Rattle.script_text.specs.Names.{place_of, is_declared}

-- an action as it is written, its cost as digits
pub record Listed : Type 0 where
  pub name : List ℕ
  pub cost : List ℕ
  pub pre : List (List ℕ)
  pub add : List (List ℕ)
  pub del : List (List ℕ)

-- a replacement as it is written, its kids as words
pub record Replacement : Type 0 where
  pub block : List ℕ
  pub lean : Lean
  pub kids : List (List ℕ)
  pub names : List (List ℕ)

-- an offer as it is written: a replacement, the block and the two sides of a tightening, or the pairs of a rebuild
pub data Offered : Type 0 where
  replacement : Replacement → Offered
  tightening : (block : List ℕ) (left right : List (List ℕ)) → Offered
  rebuild : (pairs : List (List ℕ)) → Offered

-- a script as it is written, with names, and the start tree as words
pub record Source : Type 0 where
  pub facts : List (List ℕ)
  pub actions : List Listed
  pub init : List (List ℕ)
  pub goal : List (List ℕ)
  pub plan : List (List ℕ)
  pub start : Option (List (List ℕ))
  pub stop : Option (List ℕ)
  pub offers : List Offered

abbrev pub fact_line : List ℕ → List (List ℕ)
fact_line name = codes "fact" ∷ in_parens name ∷ []

abbrev pub action_line : Listed → List (List ℕ)
action_line a = codes "action" ∷ in_parens a.name ∷ a.cost ∷ codes "pre" ∷ (map in_parens a.pre ++ codes "add" ∷ (map in_parens a.add ++ codes "del" ∷ map in_parens a.del))

abbrev pub start_lines : Option (List (List ℕ)) → List (List (List ℕ))
start_lines None = []
start_lines (Some words) = (codes "start" ∷ words) ∷ []

abbrev pub stop_lines : Option (List ℕ) → List (List (List ℕ))
stop_lines None = []
stop_lines (Some digits) = (codes "stop" ∷ digits ∷ []) ∷ []

abbrev pub lean_word : Lean → List ℕ
lean_word leans.Early = codes "early"
lean_word leans.Late = codes "late"

abbrev pub replace_line : Replacement → List (List ℕ)
replace_line r = codes "replace" ∷ r.block ∷ lean_word r.lean ∷ (r.kids ++ codes "with" ∷ map in_parens r.names)

abbrev pub offer_line : Offered → List (List ℕ)
offer_line (replacement r) = replace_line r
offer_line (tightening block left right) = codes "tighten" ∷ block ∷ codes "left" ∷ (left ++ codes "right" ∷ right)
offer_line (rebuild pairs) = codes "rebuild" ∷ pairs

-- the words of each line
abbrev pub spelling : Source → List (List (List ℕ))
spelling s = (codes "bdpo-script" ∷ codes "1" ∷ []) ∷ (map fact_line s.facts ++ (map action_line s.actions ++ (codes "init" ∷ map in_parens s.init) ∷ (codes "goal" ∷ map in_parens s.goal) ∷ (codes "plan" ∷ map in_parens s.plan) ∷ (start_lines s.start ++ (stop_lines s.stop ++ (map offer_line s.offers ++ (codes "end" ∷ []) ∷ [])))))

-- Each is a name, and none of those before it.
abbrev pub AreNew : List (List ℕ) → List (List ℕ) → Type 0
AreNew before [] = Unit {0}
AreNew before (n ∷ names) = (is_name n ≡ true) × (is_declared n before ≡ false) × AreNew (before ++ n ∷ []) names

-- Each is a name, and these are their places among those declared.
abbrev pub ArePlaces : List (List ℕ) → List (List ℕ) → List ℕ → Type 0
ArePlaces declared [] [] = Unit {0}
ArePlaces declared [] (i ∷ places) = ⊥
ArePlaces declared (n ∷ names) [] = ⊥
ArePlaces declared (n ∷ names) (i ∷ places) = (is_name n ≡ true) × (place_of n declared ≡ Some i) × ArePlaces declared names places

-- the set of the facts that are named
pub record IsSetOf (facts names : List (List ℕ)) (set : List ℕ) : Type 0 where
  pub places : List ℕ
  pub are : ArePlaces facts names places
  pub whole : set ≡ plus [] places

-- the action that is written
pub record IsAction (facts : List (List ℕ)) (listed : Listed) (action : Action) : Type 0 where
  pub add : List ℕ
  pub del : List ℕ
  pub digits : is_number listed.cost ≡ true
  pub cheap : number_of listed.cost ≤ 1_000_000_000
  pub pre : List ℕ
  pub needs : IsSetOf facts listed.pre pre
  pub adds : IsSetOf facts listed.add add
  pub deletes : IsSetOf facts listed.del del
  pub whole : action ≡ record { name = listed.name; cost = number_of listed.cost; pre = pre; add = add; del = minus del add }

abbrev pub AreActionsOf : List (List ℕ) → List Listed → List Action → Type 0
AreActionsOf facts [] [] = Unit {0}
AreActionsOf facts [] (a ∷ actions) = ⊥
AreActionsOf facts (l ∷ listed) [] = ⊥
AreActionsOf facts (l ∷ listed) (a ∷ actions) = IsAction facts l a × AreActionsOf facts listed actions

abbrev pub names_of : List Listed → List (List ℕ)
names_of listed = map (λ l. l.name) listed

-- the number that is written, or the greatest
abbrev pub IsStop : Option (List ℕ) → ℕ → Type 0
IsStop None stop = stop ≡ 1_000_000
IsStop (Some digits) stop = (is_number digits ≡ true) × (0 < number_of digits) × (number_of digits ≤ 1_000_000) × (stop ≡ number_of digits)

-- the start tree that is written, if one is: it is well formed, of at most 64 levels, and lists the plan
pub record IsRoot (declared : List (List ℕ)) (plan : List ℕ) (words : List (List ℕ)) (root : Node) : Type 0 where
  pub spelled : SpellsNode declared 64 words root
  pub formed : first_misfit root ≡ None
  pub lists : listed_of root ≡ plan

abbrev pub IsStart : List (List ℕ) → List ℕ → Option (List (List ℕ)) → Option Node → Type 0
IsStart declared plan None None = Unit {0}
IsStart declared plan None (Some root) = ⊥
IsStart declared plan (Some words) None = ⊥
IsStart declared plan (Some words) (Some root) = IsRoot declared plan words root

-- the number of the start tree's line, behind those of the facts, the actions, the sets and the plan; 0 where there is none
abbrev pub start_line_of : Source → ℕ
start_line_of s = elim (s.start) [ None ↦ 0 | Some words ↦ length s.facts + length s.actions + 5 ]

-- the replacement that is written
pub record IsReplacement (declared : List (List ℕ)) (replacement : Replacement) (offer : Offer) : Type 0 where
  pub kids : List Node
  pub actions : List ℕ
  pub block : IsId replacement.block
  pub carried : SpellsNodes declared 64 replacement.kids kids
  pub list : ArePlaces declared replacement.names actions
  pub whole : offer ≡ Replace (record { block = number_of replacement.block; kids = kids; lean = replacement.lean }) actions

-- the ids that are written
abbrev pub AreIds : List (List ℕ) → List ℕ → Type 0
AreIds [] [] = Unit {0}
AreIds [] (n ∷ ids) = ⊥
AreIds (w ∷ words) [] = ⊥
AreIds (w ∷ words) (n ∷ ids) = IsId w × (n ≡ number_of w) × AreIds words ids

-- the tightening that is written
pub record IsTightening (block : List ℕ) (left right : List (List ℕ)) (offer : Offer) : Type 0 where
  pub left_ids : List ℕ
  pub right_ids : List ℕ
  pub block_id : IsId block
  pub are_left : AreIds left left_ids
  pub are_right : AreIds right right_ids
  pub whole : offer ≡ Tighten (number_of block) left_ids right_ids

-- the rebuild that is written
pub record IsRebuild (words : List (List ℕ)) (offer : Offer) : Type 0 where
  pub pairs : List (ℕ × ℕ)
  pub are : ArePairs words pairs
  pub whole : offer ≡ Rebuild pairs

abbrev pub IsOffer : List (List ℕ) → Offered → Offer → Type 0
IsOffer declared (replacement r) offer = IsReplacement declared r offer
IsOffer declared (tightening block left right) offer = IsTightening block left right offer
IsOffer declared (rebuild pairs) offer = IsRebuild pairs offer

abbrev pub AreOffers : List (List ℕ) → List Offered → List Offer → Type 0
AreOffers declared [] [] = Unit {0}
AreOffers declared [] (o ∷ offers) = ⊥
AreOffers declared (w ∷ written) [] = ⊥
AreOffers declared (w ∷ written) (o ∷ offers) = IsOffer declared w o × AreOffers declared written offers

-- the text, as lines of words, is the source's, and the script has its names' places
pub record SpellsScript (text : List ℕ) (script : Script) : Type 0 where
  pub source : Source
  pub spelled : worded text ≡ spelling source
  pub facts_new : AreNew [] source.facts
  pub actions_new : AreNew [] (names_of source.actions)
  pub facts : script.task.facts ≡ source.facts
  pub actions : AreActionsOf source.facts source.actions script.task.actions
  pub init : IsSetOf source.facts source.init script.task.init
  pub goal : IsSetOf source.facts source.goal script.task.goal
  pub plan : ArePlaces (names_of source.actions) source.plan script.plan
  pub start : IsStart (names_of source.actions) script.plan source.start script.start
  pub start_line : script.start_line ≡ start_line_of source
  pub stop : IsStop source.stop script.stop
  pub offers : AreOffers (names_of source.actions) source.offers script.offers
