-- A core that follows another: the next entry of the history may be accepted, and at the end the two are the same.
use Rattle.std.proofs.Common.{◌≡◌, ℕ, zero, suc, ◌+◌, ◌<◌, ◌≤◌, List, [], ◌∷◌, ◌++◌, length, take, get_or, Result, Ok, Err, OnOk, refl, sym, ap, ◌∙◌, subst, append_assoc, length-append, arith}
use Rattle.std.proofs.lemmas.List.{append-nil}
use Rattle.bd_task.specs.TaskView.{TaskView}
use Rattle.plan_core.specs.Core.{CoreView, State, accepted, applied, opened}
use Rattle.plan_core.specs.Law.{IsCore, IsLegalFrom}
use Rattle.plan_core.specs.Replies.{IsAcceptable}
use Rattle.plan_core.specs.declared.offer.Offer.{Offer}
use Rattle.plan_core.proofs.LawLemmas.{accepted_all, accepted_all-is, opens}
use Rattle.plan_rebuild.specs.Grown.{Grows}
use Rattle.plan_rebuild.proofs.GrowLemmas.{core_now, core_then}
use Rattle.plan_improve.specs.Inner.{IsNext}
use Rattle.run_texts.specs.Texts.{better_texts, betters_of, entry_text}

-- each entry of a legal history may be accepted behind those before it
entry_may : (xs : List Offer) (core : CoreView) (i : ℕ) (x : Offer) → IsLegalFrom core xs → i < length xs → x ≡ get_or xs i x → IsAcceptable (accepted_all (take i xs) core) x
entry_may [] core i x legal lt is = absurd (omega (arith, lt))
entry_may (y ∷ ys) core zero x legal lt is = subst (IsAcceptable core) (sym is) legal.0.0
entry_may (y ∷ ys) core (suc i) x legal lt is = entry_may ys (accepted y core) i x legal.1 (omega (arith, lt)) is

get_behind : (xs : List Offer) (y : Offer) (ys : List Offer) (d : Offer) → get_or (xs ++ y ∷ ys) (length xs) d ≡ y
get_behind [] y ys d = refl
get_behind (x ∷ xs) y ys d = get_behind xs y ys d

module _ (follower lead : CoreView) (grows : Grows follower lead) where
  pub next_may : (offer : Offer) → IsCore lead → IsCore follower → length follower.history < length lead.history → offer ≡ get_or lead.history (length follower.history) offer → IsAcceptable follower offer
  next_may offer is was lt at =
      let i : ℕ = length follower.history in
      subst (λ (c : CoreView). IsAcceptable c offer) (accepted_all-is (take i lead.history) (opens lead) ∙ core_then follower lead grows was.replays)
      (entry_may lead.history (opens lead) i offer is.legal lt at)

  pub grows_next : (offer : Offer) → length follower.history < length lead.history → offer ≡ get_or lead.history (length follower.history) offer → Grows (accepted offer follower) lead
  grows_next offer lt at = by_added grows.added grows.history
    where
      by_added : (added : List Offer) → lead.history ≡ follower.history ++ added → Grows (accepted offer follower) lead
      by_added [] e = absurd (omega (arith, lt, ap length (e ∙ append-nil follower.history)))
      by_added (y ∷ ys) e =
          let same : offer ≡ y = at ∙ ap (λ h. get_or h (length follower.history) offer) e ∙ get_behind follower.history y ys offer in
          record {
            task = grows.task;
            start = grows.start;
            stop = grows.stop;
            added = ys;
            history = e ∙ ap (λ z. follower.history ++ z ∷ ys) (sym same) ∙ sym (append_assoc follower.history (offer ∷ []) ys);
          }

  pub caught_up : IsCore lead → IsCore follower → length lead.history ≤ length follower.history → follower ≡ lead
  caught_up is was le = sym (core_then follower lead grows was.replays) ∙ core_now lead (length follower.history) is.replays le

-- the entry that is read off the two histories
pub entry_is : (xs ys lead follower : List Offer) (x : Offer) → xs ≡ lead → ys ≡ follower → x ≡ get_or xs (length ys) x → x ≡ get_or lead (length follower) x
entry_is xs ys lead follower x e f is = is ∙ ap (λ z. get_or z (length ys) x) e ∙ ap (λ z. get_or lead (length z) x) f

-- one entry further
pub next_is : {A E : Type 0} (follower after lead : CoreView) (offer : Offer) (r : Result A E) → after ≡ accepted offer follower → Grows (accepted offer follower) lead → OnOk r (IsNext follower after lead)
next_is follower after lead offer (Ok x) same grows = subst (λ (c : CoreView). IsNext follower c lead) (sym same) record { grows = grows; further = length-append follower.history (offer ∷ []) }
next_is follower after lead offer (Err x) same grows = tt

-- the better texts of a history that goes on
texts_then : (task : TaskView) (place : ℕ) (state : State) (xs ys : List Offer) → (piece : List ℕ) × (better_texts task place state (xs ++ ys) ≡ better_texts task place state xs ++ piece)
texts_then task place state [] ys = (better_texts task place state ys, refl)
texts_then task place state (x ∷ xs) ys =
    let rest = texts_then task (place + 1) (applied x state) xs ys in
    let front : List ℕ = entry_text task (place + 1) x (applied x state).tree in
    (rest.0, ap (λ z. front ++ z) rest.1 ∙ sym (append_assoc front (better_texts task (place + 1) (applied x state) xs) rest.0))

abbrev texts_by : TaskView → State → List Offer → List ℕ
texts_by task state history = better_texts task 0 state history

pub betters_then : (before after : CoreView) → Grows before after → (piece : List ℕ) × (betters_of after ≡ betters_of before ++ piece)
betters_then before after grows =
    let more = texts_then before.task 0 (opened before.start) before.history grows.added in (
      more.0,
      ap (λ t. texts_by t (opened after.start) after.history) grows.task
          ∙ ap (λ s. texts_by before.task (opened s) after.history) grows.start
          ∙ ap (texts_by before.task (opened before.start)) grows.history
          ∙ more.1,
    )
