-- Windows that are taken one after another, and the pieces that are put for them.
use Rattle.std.proofs.Common.{◌≡◌, ℕ, ◌≤◌, Bool, List, [], ◌∷◌, ◌++◌, length, Option, Some, refl, sym, ap, ◌∙◌, subst}
use Rattle.std.proofs.lemmas.List.{append-nil, append_assoc}
use Rattle.bd_merge.specs.declared.window.Window.{Window}
use Rattle.bd_pieces.specs.declared.pieces.Piece.{Piece}
use Rattle.plan_core.specs.Core.{CoreView}
use Rattle.plan_core.specs.Law.{IsCore}
use Rattle.plan_core.specs.declared.offer.Offer.{Offer}
use Rattle.plan_rebuild.specs.Grown.{Grows, Adds}
use Rattle.plan_rebuild.proofs.GrowLemmas.{grows_here, adds_here, core_now, core_then}
use Rattle.bd_task.specs.TaskView.{TaskView}
use Rattle.bd_window.specs.Family.{Comes}
use Rattle.bd_pieces.specs.declared.judged.Verdict.{Verdict}
use Rattle.bd_workers.specs.Inner.{AreTrue, Walks}
use Rattle.bd_workers.specs.Round.{IsPiece, ArePieces}
use Rattle.bd_workers.proofs.StayLemmas.{stays_pieces, since_before}
use Rattle.bd_workers.proofs.StepLemmas.{pieces_next}

-- nothing was taken
pub walks_here : (core : CoreView) (nodes : ℕ) (left : List Window) (pieces : List Piece) → Walks core core nodes left left pieces pieces
walks_here core nodes left pieces = record { done = []; made = []; taken = refl; put = sym (append-nil pieces); are = tt }

-- one more was taken
pub walks_more : (before mid after : CoreView) (nodes : ℕ) (left now rest : List Window) (pieces more longer : List Piece) (window : Window) (piece : Piece) →
    Grows before mid → Walks before mid nodes left now pieces more → Grows mid after → now ≡ window ∷ rest → IsPiece mid after nodes window piece → longer ≡ more ++ piece ∷ [] →
    Walks before after nodes left rest pieces longer
walks_more before mid after nodes left now rest pieces more longer window piece g w h e is m = record {
  done = w.done ++ window ∷ [];
  made = w.made ++ piece ∷ [];
  taken = w.taken ∙ ap (λ z. w.done ++ z) e ∙ sym (append_assoc w.done (window ∷ []) rest);
  put = m ∙ ap (λ z. z ++ piece ∷ []) w.put ∙ append_assoc pieces w.made (piece ∷ []);
  are = pieces_next before mid after nodes w.done w.made window piece g w.are h is;
}

-- the core is the same where its history didn't grow
pub same_core : (before after : CoreView) → IsCore before → IsCore after → Grows before after → length after.history ≤ length before.history → after ≡ before
same_core before after was is g le = sym (core_now after (length before.history) is.replays le) ∙ core_then before after g was.replays

later_pieces : (before mid after : CoreView) (nodes : ℕ) (windows : List Window) (pieces : List Piece) → Grows before mid → ArePieces mid after nodes windows pieces → ArePieces before after nodes windows pieces
later_pieces before mid after nodes [] [] g ps = tt
later_pieces before mid after nodes [] (p ∷ pieces) g ps = ps
later_pieces before mid after nodes (w ∷ windows) [] g ps = ps
later_pieces before mid after nodes (w ∷ windows) (p ∷ pieces) g ps = (since_before before mid after nodes w p g ps.0, later_pieces before mid after nodes windows pieces g ps.1)

all_pieces : (before after : CoreView) (nodes : ℕ) (ws vs : List Window) (ps qs : List Piece) → ArePieces before after nodes ws ps → ArePieces before after nodes vs qs → ArePieces before after nodes (ws ++ vs) (ps ++ qs)
all_pieces before after nodes [] vs [] qs a b = b
all_pieces before after nodes [] vs (p ∷ ps) qs a b = absurd a
all_pieces before after nodes (w ∷ ws) vs [] qs a b = absurd a
all_pieces before after nodes (w ∷ ws) vs (p ∷ ps) qs a b = (a.0, all_pieces before after nodes ws vs ps qs a.1 b)

-- further windows were taken
pub walks_then : (before mid after : CoreView) (nodes : ℕ) (left now rest : List Window) (pieces more longer : List Piece) →
    Grows before mid → Walks before mid nodes left now pieces more → Grows mid after → Walks mid after nodes now rest more longer → Walks before after nodes left rest pieces longer
walks_then before mid after nodes left now rest pieces more longer g w h v = record {
  done = w.done ++ v.done;
  made = w.made ++ v.made;
  taken = w.taken ∙ ap (λ z. w.done ++ z) v.taken ∙ sym (append_assoc w.done v.done rest);
  put = v.put ∙ ap (λ z. z ++ v.made) w.put ∙ append_assoc pieces w.made v.made;
  are = all_pieces before after nodes w.done v.done w.made v.made (stays_pieces mid after h before nodes w.done w.made w.are) (later_pieces before mid after nodes v.done v.made g v.are);
}

-- all were taken, and the pieces are theirs
pub walks_whole : (before after : CoreView) (nodes : ℕ) (left rest : List Window) (pieces : List Piece) → rest ≡ [] → Walks before after nodes left rest [] pieces → ArePieces before after nodes left pieces
walks_whole before after nodes left rest pieces none w =
    subst (λ z. ArePieces before after nodes z pieces) (sym (w.taken ∙ ap (λ z. w.done ++ z) none ∙ append-nil w.done))
    (subst (ArePieces before after nodes w.done) (sym w.put) w.are)

pub adds_same : (test : Offer → Bool) (before after : CoreView) → after ≡ before → Adds test before after
adds_same test before after same = subst (Adds test before) (sym same) (adds_here test before)

-- one more was taken, on a core that was the same so far
pub walks_step : (test : Offer → Bool) (first now after : CoreView) (nodes : ℕ) (left l r : List Window) (pieces more longer : List Piece) (given : Option Window) (window : Window) (piece : Piece) →
    now ≡ first → Walks first first nodes left l pieces more → Adds test now after → Comes given l r → given ≡ Some window → IsPiece now after nodes window piece → longer ≡ more ++ piece ∷ [] →
    Walks first after nodes left r pieces longer
walks_step test first now after nodes left l r pieces more longer given window piece same w adds comes e is m =
    walks_more first first after nodes left l r pieces more longer window piece (grows_here first) w
    (subst (λ c. Grows c after) same adds.grows)
    (subst (λ z. Comes z l r) e comes)
    (subst (λ c. IsPiece c after nodes window piece) same is) m

-- the same, where the core stayed the same
pub walks_on : (test : Offer → Bool) (first now after : CoreView) (nodes : ℕ) (left l r : List Window) (pieces more longer : List Piece) (given : Option Window) (window : Window) (piece : Piece) →
    now ≡ first → Walks first first nodes left l pieces more → Adds test now after → Comes given l r → given ≡ Some window → IsPiece now after nodes window piece → longer ≡ more ++ piece ∷ [] →
    after ≡ first → Walks first first nodes left r pieces longer
walks_on test first now after nodes left l r pieces more longer given window piece same w adds comes e is m stays =
    subst (λ c. Walks first c nodes left r pieces longer) stays (walks_step test first now after nodes left l r pieces more longer given window piece same w adds comes e is m)

pub true_as : (nodes : ℕ) (verdicts : List Verdict) (now first : CoreView) → now ≡ first → AreTrue now.task nodes verdicts → AreTrue first.task nodes verdicts
true_as nodes verdicts now first same all = subst (λ (c : CoreView). AreTrue c.task nodes verdicts) same all

-- nothing was taken, and no piece is there yet
pub walks_none : (core : CoreView) (nodes : ℕ) (left : List Window) (pieces : List Piece) → pieces ≡ [] → Walks core core nodes left left [] pieces
walks_none core nodes left pieces none = subst (Walks core core nodes left left []) (sym none) (walks_here core nodes left [])

-- a core that grew has the same task
pub true_grown : (nodes : ℕ) (verdicts : List Verdict) (before after : CoreView) → Grows before after → AreTrue before.task nodes verdicts → AreTrue after.task nodes verdicts
true_grown nodes verdicts before after g all = subst (λ t. AreTrue t nodes verdicts) (sym g.task) all

pub true_before : (nodes : ℕ) (verdicts : List Verdict) (before after : CoreView) → Grows before after → AreTrue after.task nodes verdicts → AreTrue before.task nodes verdicts
true_before nodes verdicts before after g all = subst (λ t. AreTrue t nodes verdicts) g.task all

pub few_grown : (before after : CoreView) → Grows before after → length before.task.facts ≤ 262_144 → length after.task.facts ≤ 262_144
few_grown before after g few = subst (λ (t : TaskView). length t.facts ≤ 262_144) (sym g.task) few
