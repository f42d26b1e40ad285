-- The rule of the desk's table, and what each step tells.
use Rattle.std.specs.Prelude.{◌≡◌, ℕ, ◌+◌, ◌-◌, ◌*◌, ◌/◌, ◌<◌, ◌≤◌, ◌⊎◌, suc, List, [], ◌∷◌, ◌++◌, length, true, false, MatchBool, nat_eq}
use mathlib.Core.Option.{Option, none, some}
use lib.ListN.{get_elem?}
use Rattle.atomic_table.specs.Table.{State, Me, Step}
use Rattle.bd_tree.specs.declared.node.Node.TheVariants as node
use Rattle.plan_core.specs.Core.{CoreView, opened, replay}
use Rattle.plan_core.specs.Law.{IsCore}
use Rattle.plan_core.specs.declared.offer.Offer.{Offer}
use Rattle.plan_desk.specs.declared.view.View.{View}
use Rattle.plan_desk.specs.declared.view.Phase.{Phase}
use Rattle.plan_desk.specs.declared.view.Phase.TheVariants.{Idle, Busy, Spent}
use Rattle.plan_desk.specs.Lists.{Begins, total, times, within, longer, merged}

abbrev pub lives : Phase → ℕ
lives Idle = 1
lives Busy = 1
lives Spent = 0

abbrev pub works : Phase → ℕ
works Idle = 0
works Busy = 1
works Spent = 0

-- the core with this history that opens as another does: its tree is what the history replays to
abbrev pub core_of : CoreView → List Offer → CoreView
core_of core history = record {
  task = core.task;
  start = core.start;
  history = history;
  tree = (replay (opened core.start) history).tree;
  next = (replay (opened core.start) history).next;
  stop = core.stop;
}

-- how often a place stands among those of a view
abbrev pub owned : ℕ → View → ℕ
owned p v = lives v.phase * (times p v.mine + times p v.gained)

-- what the history is to one view
pub record Fits (brought : CoreView) (log : List Offer) (v : View) : Type 0 where
  pub same : v.brought ≡ brought
  pub seen : Begins v.seen log
  pub met : Begins v.met log
  pub at_work : v.phase ≡ Busy → v.seen ≡ log

-- the turn is free, and the core lies at home with the whole history
pub record Free (brought : CoreView) (log : List Offer) (words : List ℕ) (homes : List (Option CoreView)) (working : ℕ) : Type 0 where
  pub words_are : words ≡ (2 * length log) ∷ []
  pub homes_are : homes ≡ some (core_of brought log) ∷ []
  pub nobody : working ≡ 0

pub record Taken (log : List Offer) (words : List ℕ) (homes : List (Option CoreView)) (working : ℕ) : Type 0 where
  pub words_are : words ≡ (2 * length log + 1) ∷ []
  pub homes_are : homes ≡ none ∷ []
  pub somebody : working ≡ 1

pub record KeptOf (brought : CoreView) (words : List ℕ) (homes : List (Option CoreView)) (views : List View) : Type 0 where
  pub log : List Offer
  pub legal : IsCore (core_of brought log)
  pub short : length log ≤ 16_777_216
  pub longer : Begins brought.history log
  pub fits : (id : ℕ) (v : View) → get_elem? views id ≡ some v → 0 < lives v.phase → Fits brought log v
  pub head : (id : ℕ) (v : View) → get_elem? views id ≡ some v → 0 < lives v.phase → v.leads ≡ true → (id ≡ 0) × (total (λ (u : View). lives u.phase) views ≡ suc v.out)
  pub told : (p : ℕ) → total (owned p) views ≡ within (length brought.history) (length log) p
  pub turn : Free brought log words homes (total (λ (u : View). works u.phase) views) ⊎ Taken log words homes (total (λ (u : View). works u.phase) views)

abbrev pub Kept : CoreView → State CoreView View → Type 0
Kept brought s = KeptOf brought s.words s.homes s.views

-- the leading view at the start
abbrev pub leading : CoreView → View
leading brought = record { brought = brought; seen = brought.history; mine = []; met = []; gained = []; leads = true; out = 0; phase = Idle }

abbrev pub busy : View → List Offer → View
busy v log = record { brought = v.brought; seen = log; mine = v.mine; met = v.met; gained = v.gained; leads = v.leads; out = v.out; phase = Busy }

abbrev pub idle : View → View
idle v = record { brought = v.brought; seen = v.seen; mine = v.mine; met = v.met; gained = v.gained; leads = v.leads; out = v.out; phase = Idle }

-- an entry was added
abbrev pub grown : View → List Offer → View
grown v history = record { brought = v.brought; seen = history; mine = v.mine ++ length history ∷ []; met = v.met; gained = v.gained; leads = v.leads; out = v.out; phase = Idle }

-- what the turn gives: the core, and the whole history, which begins with all that was seen
abbrev pub Took : Me CoreView View → ℕ → Me CoreView View → Type 0
Took me mark after = (log : List Offer) × Begins me.0.seen log × (IsCore (core_of me.0.brought log)) × (length log ≤ 16_777_216) × (mark ≡ 2 * length log)
    × (after ≡ (busy me.0 log, (0, core_of me.0.brought log) ∷ []))

abbrev pub Takes : Step CoreView → Me CoreView View → ℕ → Me CoreView View → Type 0
Takes s me found after = MatchBool (nat_eq found s.first) (Took me found after) (after ≡ me)

abbrev pub GivesBack : Step CoreView → Me CoreView View → ℕ → Me CoreView View → Type 0
GivesBack s me found after = after ≡ (idle me.0, [])

abbrev pub history_in : List (ℕ × CoreView) → List Offer
history_in [] = []
history_in (x ∷ xs) = x.1.history

abbrev pub GivesMore : Step CoreView → Me CoreView View → ℕ → Me CoreView View → Type 0
GivesMore s me found after = after ≡ (grown me.0 (history_in me.1), [])

abbrev pub Counts : Step CoreView → Me CoreView View → ℕ → Me CoreView View → Type 0
Counts s me found after = (after ≡ me) × (length me.0.seen ≤ found / 2)

-- a seat is split off: the leading view counts one seat more, and the new one has seen as much
abbrev pub parted : View → View
parted v = record { brought = v.brought; seen = v.seen; mine = v.mine; met = v.met; gained = v.gained; leads = v.leads; out = v.out + 1; phase = v.phase }

abbrev pub newcomer : View → View
newcomer v = record { brought = v.brought; seen = v.seen; mine = []; met = []; gained = []; leads = false; out = 0; phase = Idle }

-- a seat is joined to the leading one, and has not been merged yet
abbrev pub met_with : View → View → View
met_with v w = record { brought = v.brought; seen = v.seen; mine = v.mine; met = w.seen; gained = w.mine; leads = v.leads; out = v.out - 1; phase = v.phase }

-- a core of which nothing is said
abbrev pub no_core : CoreView
no_core = record { task = record { facts = []; actions = []; init = []; goal = [] }; start = node.Step 0 0; history = []; tree = node.Step 0 0; next = 0; stop = 0 }

abbrev pub spent : View
spent = record { brought = no_core; seen = []; mine = []; met = []; gained = []; leads = false; out = 0; phase = Spent }

abbrev pub merged_with : View → View
merged_with v = record { brought = v.brought; seen = longer v.seen v.met; mine = merged v.mine v.gained; met = []; gained = []; leads = v.leads; out = v.out; phase = v.phase }

-- both lists that were seen begin one history, and no place stands in both lists of places
abbrev pub Merges : Step CoreView → Me CoreView View → ℕ → Me CoreView View → Type 0
Merges s me found after = (after ≡ (merged_with me.0, [])) × Begins me.0.seen (longer me.0.seen me.0.met) × Begins me.0.met (longer me.0.seen me.0.met) × ((p : ℕ) → times p me.0.mine + times p me.0.gained ≤ 1)
