-- The steps of a turn one after the other, and what is left where its round added nothing.
use Rattle.std.proofs.Common.{◌≡◌, ℕ, ◌+◌, ◌<◌, ◌≤◌, ◌⊎◌, inl, inr, Bool, true, false, if◌then◌else◌, List, [], ◌∷◌, ◌++◌, length, drop, Option, Some, None, Result, Ok, Err, IfOk, ◌^◌, ◌-◌, cond, is_none, Vec, refl, sym, ap, ◌∙◌, subst, arith}
use Rattle.std.specs.List.{list_all}
use Rattle.std.proofs.lemmas.Bool.{both_ways, and_parts, cond-true}
use Rattle.std.proofs.lemmas.List.{append-nil, append_assoc}
use Rattle.bd_task.specs.TaskView.{TaskView}
use Rattle.bd_tree.specs.declared.node.Node.{Node}
use Rattle.bd_merge.specs.declared.window.Window.{Window}
use Rattle.bd_tight.specs.Candidates.{IsTight}
use Rattle.bd_window.specs.Family.{family_of}
use Rattle.bd_window.specs.Law.{AllStand}
use Rattle.plan_core.specs.Core.{CoreView, is_replacement}
use Rattle.plan_core.specs.Law.{IsCore}
use Rattle.plan_core.specs.declared.offer.Offer.{Offer}
use Rattle.plan_core.proofs.CoreLemmas.{entries_below}
use Rattle.bd_pieces.specs.declared.pieces.End.{End}
use Rattle.bd_pieces.specs.declared.pieces.End.TheVariants as end
use Rattle.bd_pieces.specs.declared.pieces.Piece.{Piece}
use Rattle.bd_workers.specs.declared.parts.Setup.{Setup}
use Rattle.bd_workers.specs.Dry.{IsDry, AreDone, AreJudgedIn}
use Rattle.plan_rebuild.specs.Grown.{Grows, Adds}
use Rattle.plan_rebuild.specs.Rebuilds.{GrowsRightly, closed}
use Rattle.bd_workers.specs.Round.{ArePieces}
use Rattle.bd_workers.specs.Turn.{IsEnd, IsOver, IsTurn, last_kind, adds_last}
use Rattle.bd_workers.specs.Inner.{IsLeft, end_of, goes_on}
use Rattle.bd_workers.proofs.DoneLemmas.{done_law}
use Rattle.plan_rebuild.proofs.StepLemmas.{step_then}
use Rattle.plan_rebuild.proofs.GrowLemmas.{grows_long, core_now, core_then}
use Rattle.bd_workers.proofs.QuietLemmas.{quiet_pieces}

kind_more : (b : Bool) (xs ys : List Offer) → last_kind b (xs ++ ys) ≡ last_kind (last_kind b xs) ys
kind_more b [] ys = refl
kind_more b (x ∷ xs) ys = kind_more (is_replacement x) xs ys

kinds : (b : Bool) (xs : List Offer) → list_all is_replacement xs ≡ true → (xs ≡ []) ⊎ (last_kind b xs ≡ true)
kinds b [] all = inl refl
kinds b (x ∷ xs) all =
    let both = and_parts (is_replacement x) _ all in
    elim (kinds (is_replacement x) xs both.1) [
      | inl none ↦ inr (ap (last_kind (is_replacement x)) none ∙ both.0)
      | inr some ↦ inr some
    ]

drop_front : (xs ys : List Offer) → drop (length xs) (xs ++ ys) ≡ ys
drop_front [] ys = refl
drop_front (x ∷ xs) ys = drop_front xs ys

module _ (before mid after : CoreView) (g : Grows before mid) (adds : Adds is_replacement mid after) where
  -- where the last entry is no replacement of the turn, the round added nothing
  pub added_none : adds_last before after ≡ false → after.history ≡ mid.history
  added_none last =
      let all : after.history ≡ before.history ++ (g.added ++ adds.grows.added) =
      adds.grows.history ∙ ap (λ z. z ++ adds.grows.added) g.history ∙ append_assoc before.history g.added adds.grows.added in
      let tail : last_kind false (drop (length before.history) after.history) ≡ last_kind (last_kind false g.added) adds.grows.added =
      ap (λ z. last_kind false (drop (length before.history) z)) all ∙ ap (last_kind false) (drop_front before.history (g.added ++ adds.grows.added)) ∙ kind_more false g.added adds.grows.added in
      elim (kinds (last_kind false g.added) adds.grows.added adds.kind) [
        | inl none ↦ adds.grows.history ∙ ap (λ z. mid.history ++ z) none ∙ append-nil mid.history
        | inr some ↦ absurd (both_ways _ last (tail ∙ some))
      ]

  same_core : IsCore mid → IsCore after → after.history ≡ mid.history → after ≡ mid
  same_core was is same =
      sym (core_now after (length mid.history) is.replays (omega (arith, ap length same)))
      ∙ core_then mid after adds.grows was.replays

  pub left_from : (setup : Setup) (windows : List Window) (pieces : List Piece) → IsCore mid → IsCore after → closed mid ≡ false → IsTight mid.task mid.tree setup.span →
      windows ≡ family_of setup.width mid.tree → AllStand mid.tree windows → ArePieces mid after setup.nodes windows pieces → IsLeft before setup after pieces
  left_from setup windows pieces was is free tight family stand are = record {
    dry = λ shut last.
        let same : after.history ≡ mid.history = added_none last in
        let done : AreDone mid.task mid.tree setup.nodes windows × AreJudgedIn mid.task mid.tree setup.nodes windows pieces =
        done_law mid windows setup.nodes pieces was free stand (quiet_pieces mid after was adds.grows same setup.nodes windows pieces are) in
        subst (λ (c : CoreView). IsDry c.task c.tree setup.nodes setup.width setup.span × AreJudgedIn c.task c.tree setup.nodes (family_of setup.width c.tree) pieces) (sym (same_core was is same))
        (record { tight = tight; done = subst (AreDone mid.task mid.tree setup.nodes) family done.0 }, subst (λ ws. AreJudgedIn mid.task mid.tree setup.nodes ws pieces) family done.1);
  }

-- a closed core has nothing left
pub left_closed : (before : CoreView) (setup : Setup) (after : CoreView) (pieces : List Piece) → closed after ≡ true → IsLeft before setup after pieces
left_closed before setup after pieces shut = record { dry = λ open' last. absurd (both_ways (closed after) open' shut) }

-- the end that the core tells is the turn's
pub end_law : (before : CoreView) (setup : Setup) (after : CoreView) (pieces : List Piece) (from : ℕ) (told : Option End) → from ≡ length before.history → told ≡ end_of from after → IsLeft before setup after pieces →
    IsEnd before setup after pieces told
end_law before setup after pieces from told e is left =
    subst (IsEnd before setup after pieces) (sym (is ∙ ap (λ n. end_of n after) e)) (by_tests (closed after) (adds_last before after) refl refl)
  where
    by_tests : (b d : Bool) → closed after ≡ b → adds_last before after ≡ d → IsEnd before setup after pieces (if b then Some end.Closed else (if d then None else Some end.Dry))
    by_tests true d shut last = shut
    by_tests false true shut last = (shut, last)
    by_tests false false shut last = let q = left.dry shut last in (shut, last, q.0, q.1)

pub round_left : (before mid after : CoreView) (setup : Setup) (tree : Node) (family windows : List Window) (pieces : List Piece) →
    Grows before mid → Adds is_replacement mid after → tree ≡ mid.tree → family ≡ family_of setup.width tree → AllStand tree family → windows ≡ family →
    ArePieces mid after setup.nodes windows pieces → IsCore mid → IsCore after → closed mid ≡ false → IsTight mid.task mid.tree setup.span → IsLeft before setup after pieces
round_left before mid after setup tree family windows pieces g adds en family_is stand same are was is free tight =
    left_from before mid after g adds setup windows pieces
    was is free tight
    (same ∙ family_is ∙ ap (family_of setup.width) en)
    (subst (λ t. AllStand t windows) en (subst (AllStand tree) (sym same) stand))
    are

-- a turn that goes on added an entry
pub runs_out : (before after : CoreView) (setup : Setup) (pieces : List Piece) → IsTurn {E = Unit {0}} before setup after (Ok pieces) None →
    (length before.history < length after.history) × (length after.history < 2 ^ 24)
runs_out before after setup pieces t = (grew t.step.grows.added (grows_long before after t.step.grows) t.step.grows.history, entries_below after t.ends.0)
  where
    grew : (added : List Offer) → length after.history ≡ length before.history + length added → after.history ≡ before.history ++ added → length before.history < length after.history
    grew [] e same = absurd (both_ways _ (ap (λ h. last_kind false (drop (length before.history) h)) same ∙ ap (last_kind false) (drop_front before.history [])) t.ends.1)
    grew (x ∷ added) e same = omega (arith, e)

-- a run of turns is over where its last turn doesn't go on
pub over_from : (before : CoreView) (setup : Setup) (after : CoreView) (pieces : List Piece) (told : Option End) → (told ≡ None → ⊥) → IsEnd before setup after pieces told → IsOver setup after pieces told
over_from before setup after pieces None ne e = absurd (ne refl)
over_from before setup after pieces (Some end.Dry) ne e = (e.0, e.2, e.3)
over_from before setup after pieces (Some end.Closed) ne e = e
over_from before setup after pieces (Some end.Script) ne e = e
over_from before setup after pieces (Some end.Tight) ne e = e

-- how long a run of turns goes on at most
abbrev pub turns_left : {A E : Type 0} → CoreView → Result A E → Option End → ℕ
turns_left after r told = cond (goes_on r told) (2 ^ 24 - length after.history + 1) 0

module _ {A E : Type 0} (items : A → List Piece) (before after : CoreView) (setup : Setup) (step : GrowsRightly before after) where
  pub left_falls : (r : Result A E) (told : Option End) → IfOk r (λ ps. IsEnd before setup after (items ps) told) → turns_left after r told < 2 ^ 24 - length before.history + 1
  left_falls (Err e) told ends = omega arith
  left_falls (Ok ps) (Some x) ends = omega arith
  left_falls (Ok ps) None ends = let both = runs_out before after setup (items ps) (record { step = step; ends = ends }) in omega (arith, both.0, both.1)

  pub left_less : {B F : Type 0} (q : Result B F) (was : Option End) (r : Result A E) (told : Option End) → goes_on q was ≡ true → IfOk r (λ ps. IsEnd before setup after (items ps) told) → turns_left after r told < turns_left before q was
  left_less q was r told goes ends = subst (λ n. turns_left after r told < n) (sym (cond-true _ _ _ goes)) (left_falls r told ends)

  pub over_later : (r : Result A E) (told : Option End) → IfOk r (λ ps. IsEnd before setup after (items ps) told) → IfOk r (λ ps. (told ≡ None → ⊥) → IsOver setup after (items ps) told)
  over_later (Err e) told ends = tt
  over_later (Ok ps) told ends = λ ne. over_from before setup after (items ps) told ne ends

pub over_now : {A E : Type 0} (items : A → List Piece) (after : CoreView) (setup : Setup) (r : Result A E) (told : Option End) → goes_on r told ≡ false → IfOk r (λ ps. (told ≡ None → ⊥) → IsOver setup after (items ps) told) →
    IfOk r (λ ps. IsOver setup after (items ps) told)
over_now items after setup (Err e) told stops over = tt
over_now items after setup (Ok ps) told stops over = over (λ e. both_ways (is_none told) stops (ap is_none e))

-- the same of the pieces of a turn, and what its run keeps
module _ {T E : Type 0} (first before after : CoreView) (setup : Setup) (begun : GrowsRightly first before) (step : GrowsRightly before after) (r : Result (Vec Piece T) E) (told : Option End) (ends : IfOk r (λ ps. IsEnd before setup after ps.items told)) where
  pub turns_fall : {B F : Type 0} (q : Result B F) (was : Option End) → goes_on q was ≡ true → turns_left after r told < turns_left before q was
  turns_fall q was goes = left_less (λ (ps : Vec Piece T). ps.items) before after setup step q was r told goes ends

  pub over_kept : IfOk r (λ ps. (told ≡ None → ⊥) → IsOver setup after ps.items told)
  over_kept = over_later (λ (ps : Vec Piece T). ps.items) before after setup step r told ends

  pub grown : GrowsRightly first after
  grown = step_then first before after begun step

  pub few_kept : length before.task.facts ≤ 262_144 → length after.task.facts ≤ 262_144
  few_kept few = subst (λ (t : TaskView). length t.facts ≤ 262_144) (sym step.grows.task) few
