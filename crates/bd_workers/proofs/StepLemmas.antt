-- What one offer and one window leave.
use Rattle.std.proofs.Common.{◌≡◌, ℕ, ◌+◌, ◌<◌, take, get_or, Bool, false, List, [], ◌∷◌, ◌++◌, length, Option, Some, Result, refl, sym, ap, ◌∙◌, subst, arith}
use Rattle.std.specs.List.{slice_get}
use Rattle.std.proofs.lemmas.Bool.{both_ways}
use Rattle.std.proofs.lemmas.List.{take_more}
use Rattle.bd_task.specs.TaskView.{TaskView}
use Rattle.bd_tree.specs.declared.node.Node.{Node}
use Rattle.bd_merge.specs.declared.standing.Found.{Found}
use Rattle.bd_merge.specs.declared.standing.Found.TheVariants.{At, Gone, Split}
use Rattle.bd_merge.specs.declared.window.Window.{Window}
use Rattle.bd_merge.specs.Stands.{Stands}
use Rattle.bd_pieces.specs.Verdict.{IsSolution, IsTrueOf}
use Rattle.bd_search.specs.declared.verdict.Kind.TheVariants.{Found as Given}
use Rattle.bd_subtask.specs.declared.parts.SubTask.{SubTask}
use Rattle.bd_subtask.specs.Law.{Fits}
use Rattle.bd_subtask.specs.Subtask.{subtask_of}
use Rattle.plan_core.specs.Core.{CoreView, accepted}
use Rattle.plan_core.specs.Law.{IsCore}
use Rattle.plan_core.specs.Replies.{Refuses}
use Rattle.plan_core.specs.declared.offer.Offer.{Offer}
use Rattle.plan_core.specs.declared.refusal.Refusal.{Refusal}
use Rattle.plan_core.specs.declared.refusal.Refusal.TheVariants.{NoMemory}
use Rattle.bd_pieces.specs.declared.pieces.Piece.{Piece}
use Rattle.bd_pieces.specs.declared.pieces.Refused.{Refused}
use Rattle.bd_pieces.specs.declared.judged.Verdict.{Verdict}
use Rattle.bd_pieces.specs.declared.pieces.What.TheVariants.{Skipped, Judged}
use Rattle.plan_rebuild.specs.Grown.{Grows, Adds, core_at}
use Rattle.bd_workers.specs.Round.{IsVerdictOn, WasRefused, WasAccepted, RepliesTo, IsPiece, ArePieces}
use Rattle.bd_workers.specs.Inner.{is_memory}
use Rattle.plan_rebuild.proofs.GrowLemmas.{grows_long, core_now, core_then}
use Rattle.bd_workers.proofs.StayLemmas.{stays_pieces, more_pieces, since_before}

pub told_ok : (core after : CoreView) (offer : Offer) (k : ℕ) → after ≡ accepted offer core → k ≡ length core.history + 1 → WasAccepted after (length core.history) offer k
told_ok core after offer k is e = record {
  index = length core.history;
  is = e;
  late = omega arith;
  entry = ap (λ (c : CoreView). slice_get c.history (length core.history)) is ∙ last core.history;
}
  where
    last : (xs : List Offer) → slice_get (xs ++ offer ∷ []) (length xs) ≡ Some offer
    last [] = refl
    last (x ∷ xs) = last xs

not_memory : (why : Refusal) → is_memory why ≡ false → why ≡ NoMemory → ⊥
not_memory why e is = both_ways (is_memory why) e (ap is_memory is)

pub told_err : (core after : CoreView) (offer : Offer) (place : ℕ) (why : Refusal) → IsCore core → after ≡ core → place ≡ length core.history → Refuses core offer why → is_memory why ≡ false →
    WasRefused after (length core.history) offer (record { place = place; why = why })
told_err core after offer place why is same e refuses told =
    subst (λ (c : CoreView). WasRefused c (length core.history) offer (record { place = place; why = why })) (sym same)
    record {
      late = omega (arith, e);
      early = omega (arith, e);
      why = subst (λ (c : CoreView). Refuses c offer why) (sym (core_now core place is.replays (omega (arith, e)))) refuses;
      told = not_memory why told;
    }

pub verdict_on : (core : CoreView) (window : Window) (nodes : ℕ) (t u : TaskView) (tree : Node) (sub : SubTask) (verdict : Verdict) →
    t ≡ core.task → u ≡ core.task → tree ≡ core.tree → sub ≡ subtask_of t tree window → verdict.sub ≡ sub → IsTrueOf u sub nodes verdict.kind →
    IsVerdictOn core.task core.tree window nodes verdict
verdict_on core window nodes t u tree sub verdict et eu en is kept holds = record {
  sub = kept ∙ is ∙ ap (λ z. subtask_of z tree window) et ∙ ap (λ z. subtask_of core.task z window) en;
  holds = subst (λ z. IsTrueOf core.task z nodes verdict.kind) (sym kept) (subst (λ z. IsTrueOf z sub nodes verdict.kind) eu holds);
}

-- its facts are the task's, by the subtask that was lent
pub verdict_fits : (core : CoreView) (t : TaskView) (sub : SubTask) (verdict : Verdict) → t ≡ core.task → verdict.sub ≡ sub → Fits t sub → Fits core.task verdict.sub
verdict_fits core t sub verdict et kept fits = subst (Fits core.task) (sym kept) (subst (λ z. Fits z sub) et fits)

pub piece_skipped : (core : CoreView) (window : Window) (nodes place : ℕ) (tree : Node) (found : Found) → IsCore core → place ≡ length core.history → tree ≡ core.tree → Stands tree window found → (found ≡ At → ⊥) →
    IsPiece core core nodes window (record { place = place; what = Skipped found })
piece_skipped core window nodes place tree found is e et stands told = record {
  since = omega (arith, e);
  till = omega (arith, e);
  what = (subst (λ (c : CoreView). Stands c.tree window found) (sym (core_now core place is.replays (omega (arith, e)))) (subst (λ t. Stands t window found) et stands), told);
}

pub piece_judged : (before after : CoreView) (window : Window) (nodes place : ℕ) (verdict : Verdict) (reply : Option (Result ℕ Refused)) →
    IsCore before → Grows before after → place ≡ length before.history → Stands before.tree window At →
    IsVerdictOn before.task before.tree window nodes verdict → RepliesTo after (length before.history) window verdict.kind reply →
    IsPiece before after nodes window (record { place = place; what = Judged verdict reply })
piece_judged before after window nodes place verdict reply is g e stands holds replies =
    let at : core_at after place ≡ before = ap (core_at after) e ∙ core_then before after g is.replays in
    record {
      since = omega (arith, e);
      till = omega (arith, e, grows_long before after g);
      what = record {
        stands = subst (λ (c : CoreView). Stands c.tree window At) (sym at) stands;
        holds = subst (λ (c : CoreView). IsVerdictOn c.task c.tree window nodes verdict) (sym at) holds;
        replies = subst (λ n. RepliesTo after n window verdict.kind reply) (sym e) replies;
      };
    }

pub pieces_next : (first mid after : CoreView) (nodes : ℕ) (windows : List Window) (pieces : List Piece) (window : Window) (piece : Piece) →
    Grows first mid → ArePieces first mid nodes windows pieces → Grows mid after → IsPiece mid after nodes window piece →
    ArePieces first after nodes (windows ++ window ∷ []) (pieces ++ piece ∷ [])
pieces_next first mid after nodes windows pieces window piece g are h is =
    more_pieces first after nodes windows pieces window piece (stays_pieces mid after h first nodes windows pieces are) (since_before first mid after nodes window piece g is)

pub gone_at : Gone ≡ At → ⊥
gone_at e = cc

pub split_at : Split ≡ At → ⊥
split_at e = cc

pub pieces_step : (test : Offer → Bool) (first mid after : CoreView) (nodes : ℕ) (windows : List Window) (i : ℕ) (window : Window) (pieces more : List Piece) (piece : Piece) →
    i < length windows → window ≡ get_or windows i window → Adds test first mid → ArePieces first mid nodes (take i windows) pieces → Adds test mid after → IsPiece mid after nodes window piece →
    more ≡ pieces ++ piece ∷ [] → ArePieces first after nodes (take (i + 1) windows) more
pieces_step test first mid after nodes windows i window pieces more piece lt is g are h one e =
    subst (λ z. ArePieces first after nodes z more) (sym (take_more windows i window lt ∙ ap (λ z. take i windows ++ z ∷ []) (sym is)))
    (subst (λ z. ArePieces first after nodes (take i windows ++ window ∷ []) z) (sym e)
    (pieces_next first mid after nodes (take i windows) pieces window piece g.grows are h.grows one))

pub none_yet : (core : CoreView) (nodes : ℕ) (pieces : List Piece) → pieces ≡ [] → ArePieces core core nodes [] pieces
none_yet core nodes pieces e = subst (ArePieces core core nodes []) (sym e) tt

-- what was found solves the window's subtask
pub found_solves : (core : CoreView) (window : Window) (nodes : ℕ) (verdict : Verdict) (list : List ℕ) → IsVerdictOn core.task core.tree window nodes verdict → verdict.kind ≡ Given list →
    IsSolution core.task (subtask_of core.task core.tree window) list
found_solves core window nodes verdict list v e = subst (λ s. IsSolution core.task s list) v.sub (subst (IsTrueOf core.task verdict.sub nodes) e v.holds)
