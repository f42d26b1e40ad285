-- What the turn gives, and the places of a seat.
use Rattle.std.proofs.Common.{◌≡◌, ℕ, ◌+◌, ◌≤◌, List, [], ◌∷◌, ◌++◌, length, refl, sym, ap, subst, arith, length-append, MatchBool, nat_eq, eq-eqb, zero, suc, ◌*◌, ◌<◌, true, inl, append-nil}
use Rattle.std.proofs.lemmas.Bool.Decides.{nat_tests}
use mathlib.Core.Option.{some, some-injective, some-ne-none}
use mathlib.Core.List.{map}
use lib.ListN.{get_elem?}
use Rattle.atomic_table.specs.Table.{Me}
use Rattle.plan_desk.specs.declared.view.Phase.TheVariants.{Idle, Busy}
use Rattle.plan_core.specs.Core.{CoreView, State as Reached, accepted, opened}
use Rattle.plan_core.specs.Law.{IsCore}
use Rattle.plan_core.proofs.LawLemmas.{replay-append}
use Rattle.plan_core.specs.declared.offer.Offer.{Offer}
use Rattle.plan_desk.specs.declared.view.View.{View}
use Rattle.plan_desk.specs.Lists.{Begins, Rises, total, within}
use Rattle.plan_desk.specs.Rules.{Took, busy, grown, core_of, leading, lives, works, Fits, KeptOf}
use Rattle.plan_desk.specs.Seats.{AtRest, HasTurn}

pub rises_more : (low high more : ℕ) (xs : List ℕ) → high ≤ more → Rises low high xs → Rises low more xs
rises_more low high more [] h r = omega arith
rises_more low high more (x ∷ xs) h r = (r.0, rises_more x high more xs h r.1)

pub rises_snoc : (low high : ℕ) (xs : List ℕ) → Rises low high xs → Rises low (high + 1) (xs ++ (high + 1) ∷ [])
rises_snoc low high [] r = (omega arith, omega arith)
rises_snoc low high (x ∷ xs) r = (r.0, rises_snoc x high xs r.1)

pub begins_short : (xs ys : List Offer) → Begins xs ys → length xs ≤ length ys
begins_short xs ys b = let e = ap length b.1 in omega (arith, length-append xs b.0)

pub took_turn : (old now : Me CoreView View) (mark : ℕ) → AtRest old → Took old mark now → HasTurn old now
took_turn old now mark rest t =
    let after : Me CoreView View = (busy old.0 t.0, (0, core_of old.0.brought t.0) ∷ []) in
    let made : HasTurn old after = record {
      busy = (refl, rest.2, rest.3, refl);
      began = t.1;
      brought = refl;
      mine = refl;
      leads = refl;
      out = refl;
      legal = t.2;
      short = t.3;
      rises = rises_more 0 (length old.0.seen) (length t.0) old.0.mine (begins_short old.0.seen t.0 t.1) rest.4;
    } in
    subst (λ (m : Me CoreView View). HasTurn old m) (sym t.5) made

pub hit : (n old : ℕ) (A B : Type 0) → n ≡ old → MatchBool (nat_eq n old) A B → A
hit n old A B e h = subst (λ b. MatchBool b A B) (eq-eqb n old e) h

pub grown_rest : (v : View) (n : Offer) (me : Me CoreView View) → v.met ≡ [] → v.gained ≡ [] → Rises 0 (length v.seen) v.mine → me ≡ (grown v (v.seen ++ n ∷ []), []) → AtRest me
grown_rest v n me met gained rises is =
    subst (λ (m : Me CoreView View). AtRest m) (sym is)
    (refl, refl, met, gained, subst (λ (k : ℕ). Rises 0 k (v.mine ++ k ∷ [])) (sym (length-append v.seen (n ∷ []))) (rises_snoc 0 (length v.seen) v.mine rises))

-- what an accepted offer leads to
pub accepted_is : (brought : CoreView) (log : List Offer) (offer : Offer) → accepted offer (core_of brought log) ≡ core_of brought (log ++ offer ∷ [])
accepted_is brought log offer = ap (λ (s : Reached). record { task = brought.task; start = brought.start; history = log ++ offer ∷ []; tree = s.tree; next = s.next; stop = brought.stop }) (sym (replay-append (opened brought.start) log (offer ∷ [])))

-- a core is that of its history
pub core_is : (core : CoreView) → IsCore core → core ≡ core_of core core.history
core_is core is = ap (λ (s : Reached). record { task = core.task; start = core.start; history = core.history; tree = s.tree; next = s.next; stop = core.stop }) (sym is.replays)

none_within : (n p : ℕ) → within n n p ≡ 0
none_within n p = grind (arith, nat_tests)

idle_not_busy : Idle ≡ Busy → ⊥
idle_not_busy e = let w : works Idle ≡ works Busy = ap works e in absurd (omega arith)

-- a desk at its start
pub starts : (core : CoreView) → IsCore core → KeptOf core (length core.history * 2 ∷ []) (some core ∷ []) (leading core ∷ [])
starts core is = record {
  log = core.history;
  legal = subst IsCore (core_is core is) is;
  short = is.room.entries;
  longer = ([], sym (append-nil core.history));
  fits = fits;
  head = head;
  told = λ p. let none = none_within (length core.history) p in omega arith;
  turn = inl (record { words_are = ap (λ (n : ℕ). n ∷ []) (let e : length core.history * 2 ≡ 2 * length core.history = omega arith in e); homes_are = ap (λ (c : CoreView). some c ∷ []) (core_is core is); nobody = refl });
}
  where
    fits : (id : ℕ) (v : View) → get_elem? (leading core ∷ []) id ≡ some v → 0 < lives v.phase → Fits core core.history v
    fits zero v e live = subst (λ (u : View). Fits core core.history u) (some-injective (leading core) v e) (record { same = refl; seen = ([], sym (append-nil core.history)); met = (core.history, refl); at_work = λ b. absurd (idle_not_busy b) })
    fits (suc id) v e live = absurd (some-ne-none v (sym e))

    head : (id : ℕ) (v : View) → get_elem? (leading core ∷ []) id ≡ some v → 0 < lives v.phase → v.leads ≡ true → (id ≡ 0) × (total (λ (u : View). lives u.phase) (leading core ∷ []) ≡ suc v.out)
    head zero v e live leads = (refl, ap (λ (u : View). suc u.out) (some-injective (leading core) v e))
    head (suc id) v e live leads = absurd (some-ne-none v (sym e))

pub starts_as : (core about : CoreView) (history : List Offer) (items : List CoreView) → IsCore core → about ≡ core → history ≡ core.history → items ≡ core ∷ [] →
    KeptOf about (length history * 2 ∷ []) (map (λ x. some x) items) (leading about ∷ [])
starts_as core about history items is about_is history_is items_are =
    subst (λ (a : CoreView). KeptOf a (length history * 2 ∷ []) (map (λ x. some x) items) (leading a ∷ [])) (sym about_is)
    (subst (λ (h : List Offer). KeptOf core (length h * 2 ∷ []) (map (λ x. some x) items) (leading core ∷ [])) (sym history_is)
    (subst (λ (l : List CoreView). KeptOf core (length core.history * 2 ∷ []) (map (λ x. some x) l) (leading core ∷ [])) (sym items_are) (starts core is)))
