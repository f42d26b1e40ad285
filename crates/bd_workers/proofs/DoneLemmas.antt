-- What was found for a window that stands in the tree of an open core can be refused only as too long.
use Rattle.std.proofs.Common.{◌≡◌, ℕ, ◌<◌, List, [], ◌∷◌, length, map, Option, Some, None, Result, Ok, Err, refl, sym, ap, ◌∙◌, subst, arith}
use Rattle.std.proofs.lemmas.Bool.{both_ways}
use Rattle.bd_task.specs.TaskView.{TaskView}
use Rattle.bd_task.specs.Valid.{cost_of}
use Rattle.bd_tree.specs.Tree.{steps_of, total, joined, listed_of}
use Rattle.bd_tree.specs.declared.node.Node.{Node}
use Rattle.bd_links.proofs.Faultless.{none_from_sound}
use Rattle.bd_merge.specs.declared.standing.Found.{Found}
use Rattle.bd_merge.specs.declared.standing.Found.TheVariants.{At, Split, Gone as Away}
use Rattle.bd_merge.specs.declared.window.Window.{Window}
use Rattle.bd_merge.specs.Merged.{merged}
use Rattle.bd_merge.specs.Stands.{Stands}
use Rattle.bd_merge.proofs.PartLemmas.{merged_steps}
use Rattle.bd_pieces.specs.Verdict.{IsSolution, IsTrueOf}
use Rattle.bd_search.specs.declared.verdict.Kind.{Kind}
use Rattle.bd_search.specs.declared.verdict.Kind.TheVariants as kind
use Rattle.bd_subtask.specs.declared.parts.SubTask.{SubTask}
use Rattle.bd_subtask.specs.Subtask.{subtask_of}
use Rattle.bd_subtask.proofs.Use.{subtask_is, use_law}
use Rattle.bd_links.proofs.Steps.{cost_of-append}
use Rattle.bd_window.specs.Law.{AllStand}
use Rattle.plan_core.specs.Core.{CoreView}
use Rattle.plan_core.specs.Law.{IsCore}
use Rattle.plan_core.specs.Replies.{IsOpen, Refuses, unknown_of, merged_in, old_cost}
use Rattle.plan_core.specs.declared.offer.Offer.TheVariants.{Replace}
use Rattle.plan_core.specs.declared.refusal.Refusal.{Refusal}
use Rattle.plan_core.specs.declared.refusal.Refusal.TheVariants.{Closed, NoAction, Gone, Split as SplitApart, NotCheaper, TooLong, Unlinked, NoMemory}
use Rattle.bd_pieces.specs.declared.pieces.Piece.{Piece}
use Rattle.bd_pieces.specs.declared.pieces.Refused.{Refused}
use Rattle.bd_pieces.specs.declared.judged.Verdict.{Verdict}
use Rattle.bd_pieces.specs.declared.pieces.What.{What}
use Rattle.bd_pieces.specs.declared.pieces.What.TheVariants.{Skipped, Judged}
use Rattle.plan_rebuild.proofs.RunLemmas.{none_other, runs_there, never_split}
use Rattle.bd_workers.specs.Dry.{IsRefusedKind, IsRefusedVerdict, IsQuietWhat, AreQuiet, Settles, IsDone, AreDone, IsJudgedIn, AreJudgedIn}

cost_joined : (task : TaskView) (ks : List Node) → cost_of task (joined (map listed_of ks)) ≡ total (map (λ k. cost_of task (listed_of k)) ks)
cost_joined task [] = refl
cost_joined task (k ∷ ks) = omega (arith, cost_of-append task (listed_of k) (joined (map listed_of ks)), cost_joined task ks)

module _ (core : CoreView) (is : IsCore core) where
  module _ (window : Window) (stands : Stands core.tree window At) where
    abbrev sub : SubTask
    sub = subtask_of core.task core.tree window

    bound_is : sub.bound ≡ old_cost core window
    bound_is =
        ap (λ (s : SubTask). s.bound) (subtask_is core.task core.tree window stands.0.kids stands.0.order stands.0.found)
        ∙ sym (cost_joined core.task window.kids)

    module _ (list : List ℕ) (found : IsSolution core.task sub list) where
      pub cheaper : cost_of core.task list < old_cost core window
      cheaper = omega (arith, found.cheap, bound_is)

      pub known : unknown_of (length core.task.actions) list ≡ None
      known = runs_there core.task sub.goal list sub.init found.solves.runs

      long : (steps : ℕ) → steps ≡ steps_of (merged_in core window list) → 4_096 < steps → (next : ℕ) → 4_096 < steps_of (merged core.tree window list next)
      long steps e lt next = omega (
        arith,
        e,
        lt,
        merged_steps window list core.next core.tree is.room.formed.distinct stands.0,
        merged_steps window list next core.tree is.room.formed.distinct stands.0,
      )

      only_long : IsOpen core → (why : Refusal) → Refuses core (Replace window list) why → (why ≡ NoMemory → ⊥) → (next : ℕ) → 4_096 < steps_of (merged core.tree window list next)
      only_long free (Closed replaced entries) h told = absurd (both_ways _ free h.2)
      only_long free (NoAction number) h told = absurd (none_other number (sym known ∙ h.1))
      only_long free Gone h told = absurd (h.2 stands.0)
      only_long free SplitApart h told = absurd (never_split core.tree window stands h.2)
      only_long free (NotCheaper old new) h told = absurd (omega (arith, cheaper, h.3, h.4, h.5))
      only_long free (TooLong steps) h told = long steps h.4 h.5
      only_long free (Unlinked fault) h told =
          absurd (none_other fault (sym (none_from_sound core.task (merged_in core window list) (use_law core.task core.tree window is.room.formed is.sound list core.next stands found.solves)) ∙ h.5))
      only_long free NoMemory h told = absurd (told refl)
      only_long free other h told = elim h [ ]

    never_skipped : (found : Found) → Stands core.tree window found → (found ≡ At → ⊥) → ⊥
    never_skipped At h told = told refl
    never_skipped Away h told = h stands.0
    never_skipped Split h told = never_split core.tree window stands h

    module _ (nodes : ℕ) (free : IsOpen core) where
      settled : (k : Kind) (reply : Option (Result ℕ Refused)) → IsTrueOf core.task sub nodes k → IsRefusedKind core window k reply → Settles core.tree window k
      settled (kind.Found list) None v r = absurd r
      settled (kind.Found list) (Some (Ok k)) v r = absurd r
      settled (kind.Found list) (Some (Err refused)) v r = only_long list v free refused.why r.0 r.1
      settled kind.Exhausted reply v r = tt
      settled (kind.Spent floor lent) reply v r = tt

      done_by : (verdict : Verdict) (reply : Option (Result ℕ Refused)) → IsRefusedVerdict core window nodes verdict reply → IsDone core.task core.tree nodes window
      done_by verdict reply q =
          let holds : IsTrueOf core.task sub nodes verdict.kind = subst (λ (s : SubTask). IsTrueOf core.task s nodes verdict.kind) q.holds.sub q.holds.holds in
          record { verdict = verdict.kind; holds = holds; settles = settled verdict.kind reply holds q.refused }

      done_what : (what : What) → IsQuietWhat core nodes window what → IsDone core.task core.tree nodes window × IsJudgedIn core.task core.tree nodes window what
      done_what (Skipped found) q = absurd (never_skipped found q.0 q.1)
      done_what (Judged verdict reply) q = (done_by verdict reply q, q.holds)

  pub done_all : (nodes : ℕ) → IsOpen core → (windows : List Window) (pieces : List Piece) → AllStand core.tree windows → AreQuiet core nodes windows pieces →
      AreDone core.task core.tree nodes windows × AreJudgedIn core.task core.tree nodes windows pieces
  done_all nodes free [] [] a q = (tt, tt)
  done_all nodes free [] (p ∷ pieces) a q = absurd q
  done_all nodes free (w ∷ windows) [] a q = absurd q
  done_all nodes free (w ∷ windows) (p ∷ pieces) a q =
      let here : IsDone core.task core.tree nodes w × IsJudgedIn core.task core.tree nodes w p.what = done_what w a.0 nodes free p.what q.0.1 in
      let rest : AreDone core.task core.tree nodes windows × AreJudgedIn core.task core.tree nodes windows pieces = done_all nodes free windows pieces a.1 q.1 in
      ((here.0, rest.0), (here.1, rest.1))

pub done_law : (core : CoreView) (windows : List Window) (nodes : ℕ) (pieces : List Piece) →
    IsCore core → IsOpen core → AllStand core.tree windows → AreQuiet core nodes windows pieces →
    AreDone core.task core.tree nodes windows × AreJudgedIn core.task core.tree nodes windows pieces
done_law core windows nodes pieces is free stand quiet = done_all core is nodes free windows pieces stand quiet
