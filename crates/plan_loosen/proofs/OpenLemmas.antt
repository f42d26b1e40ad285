-- A core that opened on few ordered step pairs and took tightenings alone is open: each left fewer of them.
use Rattle.std.proofs.Common.{◌≡◌, ℕ, ◌≤◌, Bool, true, false, ◌||◌, nat_le, List, [], ◌∷◌, ◌++◌, length, count_by, refl, sym, ap, ◌∙◌, subst, arith}
use Rattle.std.specs.List.{list_all}
use Rattle.std.proofs.lemmas.Bool.{lt-leb}
use Rattle.bd_task.specs.TaskView.{TaskView}
use Rattle.bd_tree.specs.Tree.{pairs_of}
use Rattle.bd_deorder.specs.Deordered.{IsDeordered}
use Rattle.bd_tight.specs.Candidates.{IsTight}
use Rattle.plan_core.specs.Core.{CoreView, accepted, is_replacement, is_tightening, opening}
use Rattle.plan_core.specs.Law.{IsLawful, IsLegalFrom}
use Rattle.plan_core.specs.declared.offer.Offer.{Offer}
use Rattle.plan_core.specs.declared.offer.Offer.TheVariants.{Replace, Tighten, Rebuild}
use Rattle.plan_rebuild.specs.Grown.{Adds}
use Rattle.plan_rebuild.specs.Rebuilds.{closed}
use Rattle.plan_loosen.specs.Loosened.{IsLoosened}
use Rattle.plan_loosen.specs.Opened.{IsOpened}

-- among tightenings there is no replacement
none_replace : (history : List Offer) → list_all is_tightening history ≡ true → count_by is_replacement history ≡ 0
none_replace [] all = refl
none_replace (Replace window actions ∷ rest) all = absurd (cc)
none_replace (Tighten block left right ∷ rest) all = none_replace rest all
none_replace (Rebuild order ∷ rest) all = absurd (cc)

-- there are no more tightenings than ordered step pairs
few_tightenings : (core : CoreView) (history : List Offer) → list_all is_tightening history ≡ true → IsLegalFrom core history → length history ≤ pairs_of core.tree
few_tightenings core [] all legal = omega arith
few_tightenings core (Replace window actions ∷ rest) all legal = absurd (cc)
few_tightenings core (Tighten block left right ∷ rest) all legal = omega (arith, few_tightenings (accepted (Tighten block left right) core) rest all legal.1, legal.0.0.gain)
few_tightenings core (Rebuild order ∷ rest) all legal = absurd (cc)

neither_holds : (a b : Bool) → a ≡ false → b ≡ false → (a || b) ≡ false
neither_holds a b e f = ap (λ z. z || b) e ∙ f

module _ (task : TaskView) (list : List ℕ) (span : ℕ) (old new : CoreView) (is : IsOpened task list old) (adds : Adds is_tightening old new) (lawful : IsLawful new) where
  added : new.history ≡ adds.grows.added
  added = adds.grows.history ∙ ap (λ h. h ++ adds.grows.added) is.nothing

  tightenings : list_all is_tightening new.history ≡ true
  tightenings = ap (list_all is_tightening) added ∙ adds.kind

  few : length new.history ≤ 4_000_000
  few = omega (arith, few_tightenings (opening new.task new.start new.stop) new.history tightenings lawful.legal, ap pairs_of adds.grows.start, is.few)

  stops : new.stop ≡ 1_000_000
  stops = adds.grows.stop ∙ is.opens.2

  stays_open : closed new ≡ false
  stays_open = neither_holds (nat_le new.stop (count_by is_replacement new.history)) (nat_le 16_777_216 (length new.history))
      (lt-leb new.stop (count_by is_replacement new.history) (omega (arith, none_replace new.history tightenings, stops)))
      (lt-leb 16_777_216 (length new.history) (omega (arith, few)))

  -- so its tree is tight
  pub loosened_is : (closed new ≡ false → IsTight new.task new.tree span) → IsLoosened task list span new
  loosened_is tight = record {
    opens = (adds.grows.task ∙ is.opens.0, refl, stops);
    starts = subst (IsDeordered task list) (sym adds.grows.start) is.starts;
    tightenings = tightenings;
    tight = subst (λ (t : TaskView). IsTight t new.tree span) (adds.grows.task ∙ is.opens.0) (tight stays_open);
    lawful = lawful;
  }
