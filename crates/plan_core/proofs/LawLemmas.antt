-- A core stays a core under accepted offers, and its cost falls.
use Rattle.std.proofs.Common.{◌≡◌, ℕ, zero, suc, ◌+◌, ◌<◌, ◌≤◌, ◌^◌, Bool, true, false, count_by, List, [], ◌∷◌, ◌++◌, length, take, get_or, add-one, Result, Ok, Err, refl, sym, ap, ◌∙◌, subst, arith}
use Rattle.bd_task.specs.TaskView.{TaskView}
use Rattle.bd_task.specs.Valid.{cost_of}
use Rattle.bd_tree.specs.declared.node.Node.{Node}
use Rattle.bd_tree.specs.Tree.{depth_of, steps_of, nodes_of, ids_of, greatest, listed_of}
use Rattle.bd_links.specs.Sound.{IsSound, are_below}
use Rattle.bd_links.proofs.There.{runs_always}
use Rattle.plan_core.specs.Core.{CoreView, State, opened, state_of, opening, applied, tree_after, new_ids, accepted, replay, Begins, is_replacement, due_after}
use Rattle.plan_core.specs.Law.{IsLegalFrom, HasRoom, IsCore, Keeps, MayBegin, Leads, IsLawful, IsPrintable, OpensOn, cost_at, tree_at}
use Rattle.plan_core.specs.Replies.{IsAcceptable, IsApplicable, Replies}
use Rattle.plan_core.specs.declared.offer.Offer.{Offer}
use Rattle.plan_core.specs.declared.refusal.Refusal.{Refusal}
use Rattle.plan_core.proofs.AcceptLemmas.{room_after, sound_after, cost_after, applicable, due_more, count_more}
use Rattle.plan_core.proofs.CoreLemmas.{few_nodes}

-- the core after a list of accepted offers
abbrev pub accepted_all : List Offer → CoreView → CoreView
accepted_all [] core = core
accepted_all (offer ∷ rest) core = accepted_all rest (accepted offer core)

abbrev pub with_state : CoreView → List Offer → State → CoreView
with_state core history state = record { task = core.task; start = core.start; history = history; tree = state.tree; next = state.next; stop = core.stop }

append_none : (xs : List Offer) → xs ++ [] ≡ xs
append_none [] = refl
append_none (x ∷ xs) = ap (λ z. x ∷ z) (append_none xs)

append_one : (xs : List Offer) (x : Offer) (ys : List Offer) → (xs ++ x ∷ []) ++ ys ≡ xs ++ x ∷ ys
append_one [] x ys = refl
append_one (z ∷ xs) x ys = ap (λ l. z ∷ l) (append_one xs x ys)

pub accepted_all-is : (xs : List Offer) (core : CoreView) → accepted_all xs core ≡ with_state core (core.history ++ xs) (replay (state_of core) xs)
accepted_all-is [] core = ap (λ z. with_state core z (state_of core)) (sym (append_none core.history))
accepted_all-is (offer ∷ xs) core =
    accepted_all-is xs (accepted offer core)
    ∙ ap (λ z. with_state core z (replay (applied offer (state_of core)) xs)) (append_one core.history offer xs)

pub replay-append : (state : State) (xs ys : List Offer) → replay state (xs ++ ys) ≡ replay (replay state xs) ys
replay-append state [] ys = refl
replay-append state (x ∷ xs) ys = replay-append (applied x state) xs ys

abbrev pub opens : CoreView → CoreView
opens core = opening core.task core.start core.stop

-- a core is what its history leads to
pub led_to : (core : CoreView) → replay (opened core.start) core.history ≡ state_of core → accepted_all core.history (opens core) ≡ core
led_to core e = accepted_all-is core.history (opens core) ∙ ap (with_state core core.history) e

legal_more : (xs : List Offer) (core : CoreView) (offer : Offer) → IsLegalFrom core xs → Replies (accepted_all xs core) offer (Ok (length (accepted_all xs core).history + 1)) → IsLegalFrom core (xs ++ offer ∷ [])
legal_more [] core offer l r = (r, tt)
legal_more (x ∷ xs) core offer l r = (l.0, legal_more xs (accepted x core) offer l.1 r)

pub core_after : (core : CoreView) (offer : Offer) → IsCore core → IsAcceptable core offer → IsCore (accepted offer core)
core_after core offer is may = record {
  opens = is.opens;
  sound = sound_after core offer may;
  legal = legal_more core.history (opens core) offer is.legal (subst (λ (c : CoreView). Replies c offer (Ok (length c.history + 1))) (sym (led_to core is.replays)) (may, refl));
  replays = replay-append (opened core.start) core.history (offer ∷ []) ∙ ap (applied offer) is.replays;
  starts = is.starts;
  room = room_after core offer is.room may;
}

-- a core that begins
opening_room : (task : TaskView) (start : Node) (stop : ℕ) → MayBegin task start → HasRoom (opening task start stop)
opening_room task start stop may = record {
  formed = may.formed;
  in_range = may.actions;
  short = omega (arith, may.short);
  shallow = may.shallow;
  entries = omega arith;
  few = omega (arith, may.few);
  fresh = omega arith;
  ids = omega (arith, may.ids);
}

pub opening_core : (task : TaskView) (start : Node) (stop : ℕ) → MayBegin task start → IsSound task start → IsCore (opening task start stop)
opening_core task start stop may sound = record {
  opens = sound;
  sound = sound;
  legal = tt;
  replays = refl;
  starts = opening_room task start stop may;
  room = opening_room task start stop may;
}

-- what a list of offers leads to is a core on the same opening
abbrev Follows : CoreView → CoreView → Type 0
Follows core last = IsCore last × OpensOn core.task core.start core.stop last

pub leads_to : (steps : List (Offer × Result ℕ Refusal)) (core last : CoreView) → IsCore core → Leads core steps last → Follows core last
leads_to [] core last is e = subst (λ (c : CoreView). Follows core c) (sym e) (is, (refl, refl, refl))
leads_to ((offer, Ok place) ∷ rest) core last is e = leads_to rest (accepted offer core) last (core_after core offer is e.0.0) e.1
leads_to ((offer, Err why) ∷ rest) core last is e = leads_to rest core last is e.1

-- the cost falls from place to place
abbrev cost_in : TaskView → State → ℕ
cost_in task state = cost_of task (listed_of state.tree)

falls_from : (xs : List Offer) (core : CoreView) (k : ℕ) → HasRoom core → IsLegalFrom core xs → cost_in core.task (replay (state_of core) (take (suc k) xs)) ≤ cost_in core.task (replay (state_of core) (take k xs))
falls_from [] core zero room legal = omega arith
falls_from [] core (suc k) room legal = omega arith
falls_from (offer ∷ xs) core zero room legal = cost_after core offer room legal.0.0
falls_from (offer ∷ xs) core (suc k) room legal = falls_from xs (accepted offer core) k (room_after core offer room legal.0.0) legal.1

pub cost_falls : (core : CoreView) → IsCore core → (place : ℕ) → cost_at core (place + 1) ≤ cost_at core place
cost_falls core is place = rw add-one (falls_from core.history (opens core) place is.starts is.legal)

-- the next id never falls
next_grows : (xs : List Offer) (state : State) → state.next ≤ (replay state xs).next
next_grows [] state = omega arith
next_grows (offer ∷ xs) state = omega (arith, next_grows xs (applied offer state))

-- at each place the tree is sound and within the limits, its actions are the task's, and its ids are below a number
record IsFit (task : TaskView) (tree : Node) (next : ℕ) : Type 0 where
  sound : IsSound task tree
  in_range : are_below (length task.actions) tree ≡ true
  short : steps_of tree ≤ 4_096
  shallow : depth_of tree ≤ 64
  few : nodes_of tree < 2 ^ 32
  fresh : greatest (ids_of tree) < next

fit_now : (core : CoreView) (next : ℕ) → core.next ≤ next → HasRoom core → IsSound core.task core.tree → IsFit core.task core.tree next
fit_now core next le room sound = record {
  sound = sound;
  in_range = room.in_range;
  short = room.short;
  shallow = room.shallow;
  few = omega (arith, room.few, room.short, room.entries);
  fresh = omega (arith, room.fresh, le);
}

fit_from : (xs : List Offer) (core : CoreView) (k : ℕ) → HasRoom core → IsSound core.task core.tree → IsLegalFrom core xs →
    IsFit core.task (replay (state_of core) (take k xs)).tree (replay (state_of core) xs).next
fit_from [] core zero room sound legal = fit_now core core.next (omega arith) room sound
fit_from [] core (suc k) room sound legal = fit_now core core.next (omega arith) room sound
fit_from (x ∷ xs) core zero room sound legal = fit_now core (replay (state_of core) (x ∷ xs)).next (next_grows (x ∷ xs) (state_of core)) room sound
fit_from (offer ∷ xs) core (suc k) room sound legal =
    fit_from xs (accepted offer core) k (room_after core offer room legal.0.0) (sound_after core offer legal.0.0) legal.1

fit_at : (core : CoreView) → IsCore core → (place : ℕ) → IsFit core.task (tree_at core place) core.next
fit_at core is place =
    subst (λ (s : State). IsFit core.task (tree_at core place) s.next) is.replays (fit_from core.history (opens core) place is.starts is.opens is.legal)

-- the tree at each place may be put as a text
pub printable_at : (core : CoreView) → IsCore core → (place : ℕ) → IsPrintable core.task (tree_at core place)
printable_at core is place =
    let fit : IsFit core.task (tree_at core place) core.next = fit_at core is place in
    record { in_range = fit.in_range; few = fit.few }

-- what holds of every core
pub lawful_core : (core : CoreView) → IsCore core → IsLawful core
lawful_core core is = record {
  short = is.room.short;
  shallow = is.room.shallow;
  sound = is.sound;
  runs = runs_always core.task core.tree is.room.in_range is.sound;
  legal = is.legal;
  replays = is.replays;
  short_at = λ place. let fit : IsFit core.task (tree_at core place) core.next = fit_at core is place in fit.short;
  shallow_at = λ place. let fit : IsFit core.task (tree_at core place) core.next = fit_at core is place in fit.shallow;
  sound_at = λ place. let fit : IsFit core.task (tree_at core place) core.next = fit_at core is place in fit.sound;
  runs_at = λ place. let fit : IsFit core.task (tree_at core place) core.next = fit_at core is place in runs_always core.task (tree_at core place) fit.in_range fit.sound;
  printable = record { in_range = is.room.in_range; few = few_nodes core is.room };
  printable_at = printable_at core is;
  fresh = is.room.fresh;
  fresh_at = λ place. let fit : IsFit core.task (tree_at core place) core.next = fit_at core is place in fit.fresh;
  falls = cost_falls core is;
}

-- the entry at a place of a core's history may replace there
legal_take : (xs : List Offer) (k : ℕ) (core : CoreView) → IsLegalFrom core xs → IsLegalFrom core (take k xs)
legal_take [] zero core l = tt
legal_take [] (suc k) core l = tt
legal_take (x ∷ xs) zero core l = tt
legal_take (x ∷ xs) (suc k) core l = (l.0, legal_take xs k (accepted x core) l.1)

pub record Fits (core : CoreView) (offer : Offer) : Type 0 where
  pub room : HasRoom core
  pub reply : Replies core offer (Ok (length core.history + 1))

entry_at : (xs : List Offer) (core : CoreView) (i : ℕ) (x : Offer) → HasRoom core → IsLegalFrom core xs → i < length xs → x ≡ get_or xs i x → Fits (accepted_all (take i xs) core) x
entry_at [] core i x room l lt is = absurd (omega arith)
entry_at (y ∷ ys) core zero x room l lt is = record { room = room; reply = subst (λ z. Replies core z (Ok (length core.history + 1))) (sym is) l.0 }
entry_at (y ∷ ys) core (suc i) x room l lt is = entry_at ys (accepted y core) i x (room_after core y room l.0.0) l.1 (omega arith) is

take_next : (xs : List Offer) (i : ℕ) (x : Offer) → i < length xs → x ≡ get_or xs i x → take (suc i) xs ≡ take i xs ++ x ∷ []
take_next [] i x lt is = absurd (omega arith)
take_next (y ∷ ys) zero x lt is = ap (λ z. z ∷ []) (sym is)
take_next (y ∷ ys) (suc i) x lt is = ap (λ z. y ∷ z) (take_next ys i x (omega arith) is)

-- what the copy of a place needs at each entry
pub record EntryFits (state : State) (offer : Offer) : Type 0 where
  pub can : IsApplicable offer state
  pub small : state.next + new_ids offer < 2 ^ 64

pub entry_fits : (core : CoreView) (place i : ℕ) (x : Offer) → IsCore core → i < length (take place core.history) → x ≡ get_or (take place core.history) i x →
    EntryFits (replay (opened core.start) (take i (take place core.history))) x
entry_fits core place i x is lt at =
    let xs = take place core.history in
    let before = accepted_all (take i xs) (opens core) in
    let fits : Fits before x = entry_at xs (opens core) i x is.starts (legal_take core.history place (opens core) is.legal) lt at in
    subst (λ (c : CoreView). EntryFits (state_of c) x) (accepted_all-is (take i xs) (opens core)) (fits_of before fits.room fits.reply)
  where
    fits_of : (c : CoreView) → HasRoom c → Replies c x (Ok (length c.history + 1)) → EntryFits (state_of c) x
    fits_of c room r =
        let after = room_after c x room r.0 in
        record { can = applicable c x room r.0; small = omega (arith, after.ids, after.entries) }

-- the whole law
pub lawful : (task : TaskView) (start : Node) (stop : ℕ) (core last : CoreView) (steps : List (Offer × Result ℕ Refusal)) →
    MayBegin task start → Begins task start stop (Ok core) → Leads core steps last → OpensOn task start stop last × IsLawful last
lawful task start stop core last steps may begins leads =
    let led : Follows (opening task start stop) last = leads_to steps (opening task start stop) last (opening_core task start stop may begins.1) (subst (λ (c : CoreView). Leads c steps last) begins.0 leads) in
    (led.1, lawful_core last led.0)

-- what a core keeps, by its parts
abbrev with_parts : CoreView → List Offer → Node → ℕ → CoreView
with_parts core history tree next = record { task = core.task; start = core.start; history = history; tree = tree; next = next; stop = core.stop }

pub keeps_after : (core : CoreView) (offer : Offer) (h : List Offer) (tree : Node) (next replaced new : ℕ) (due late : Bool) →
    Keeps core replaced due → IsAcceptable core offer → h ≡ core.history ++ offer ∷ [] → tree ≡ tree_after offer (state_of core) → next ≡ core.next + new_ids offer →
    new ≡ replaced + count_by is_replacement (offer ∷ []) → late ≡ due_after due (offer ∷ []) →
    Keeps (record { task = core.task; start = core.start; history = h; tree = tree; next = next; stop = core.stop }) new late
keeps_after core offer h tree next replaced new due late k may eh et en er ed =
    subst (λ z. Keeps (with_parts core z tree next) new late) (sym eh)
    (subst (λ z. Keeps (with_parts core (core.history ++ offer ∷ []) z next) new late) (sym et)
    (subst (λ z. Keeps (with_parts core (core.history ++ offer ∷ []) (tree_after offer (state_of core)) z) new late) (sym en)
    record {
      kept = core_after core offer k.kept may;
      counted = er ∙ ap (λ z. z + count_by is_replacement (offer ∷ [])) k.counted ∙ sym (count_more is_replacement core.history offer);
      owed = ed ∙ ap (λ z. due_after z (offer ∷ [])) k.owed ∙ sym (due_more false core.history offer);
    }))

-- the same by the history that a caller sees
pub entry_of : (core : CoreView) (place i : ℕ) (h : List Offer) (x : Offer) → IsCore core → h ≡ core.history → i < length (take place h) → x ≡ get_or (take place h) i x →
    EntryFits (replay (opened core.start) (take i (take place h))) x
entry_of core place i h x is same lt at =
    subst (λ z. EntryFits (replay (opened core.start) (take i (take place z))) x) (sym same)
    (entry_fits core place i x is (subst (λ z. i < length (take place z)) same lt) (subst (λ z. x ≡ get_or (take place z) i x) same at))

one_more_is : (i : ℕ) → i + 1 ≡ suc i
one_more_is i = rw add-one refl

pub entry_then : (start : Node) (xs : List Offer) (i : ℕ) (x : Offer) → i < length xs → x ≡ get_or xs i x →
    replay (opened start) (take (i + 1) xs) ≡ applied x (replay (opened start) (take i xs))
entry_then start xs i x lt at =
    ap (λ n. replay (opened start) (take n xs)) (one_more_is i) ∙ ap (replay (opened start)) (take_next xs i x lt at) ∙ replay-append (opened start) (take i xs) (x ∷ [])
