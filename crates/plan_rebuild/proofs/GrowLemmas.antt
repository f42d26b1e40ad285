-- What is true of a core's place stays true as the history grows.
use Rattle.std.proofs.Common.{◌≡◌, ℕ, ◌+◌, ◌≤◌, Bool, List, [], ◌∷◌, ◌++◌, length, take, refl, sym, ap, ◌∙◌, arith}
use Rattle.std.proofs.lemmas.Bool.{and_from}
use Rattle.std.proofs.lemmas.List.{append-nil, append_assoc, take-append-le, take_all}
use Rattle.std.proofs.lemmas.List.Folds.{list_all-append}
use Rattle.bd_task.specs.TaskView.{TaskView}
use Rattle.bd_tree.specs.declared.node.Node.{Node}
use Rattle.plan_core.specs.Core.{CoreView, opened, state_of, replay}
use Rattle.plan_core.specs.declared.offer.Offer.{Offer}
use Rattle.plan_rebuild.specs.Grown.{Grows, Adds, with_state, core_at}

abbrev pub grows_here : (core : CoreView) → Grows core core
grows_here core = record { task = refl; start = refl; stop = refl; added = []; history = sym (append-nil core.history) }

abbrev pub grows_then : (a b c : CoreView) → Grows a b → Grows b c → Grows a c
grows_then a b c g h = record {
  task = h.task ∙ g.task;
  start = h.start ∙ g.start;
  stop = h.stop ∙ g.stop;
  added = g.added ++ h.added;
  history = h.history ∙ ap (λ z. z ++ h.added) g.history ∙ append_assoc a.history g.added h.added;
}

pub adds_here : (test : Offer → Bool) (core : CoreView) → Adds test core core
adds_here test core = record { grows = grows_here core; kind = refl }

pub adds_then : (test : Offer → Bool) (a b c : CoreView) → Adds test a b → Adds test b c → Adds test a c
adds_then test a b c g h = record { grows = grows_then a b c g.grows h.grows; kind = list_all-append test g.grows.added h.grows.added ∙ and_from _ _ g.kind h.kind }

length-append : (xs ys : List Offer) → length (xs ++ ys) ≡ length xs + length ys
length-append [] ys = omega arith
length-append (x ∷ xs) ys = omega (arith, length-append xs ys)

pub grows_long : (a b : CoreView) (g : Grows a b) → length b.history ≡ length a.history + length g.added
grows_long a b g = ap length g.history ∙ length-append a.history g.added

abbrev with_parts : TaskView → Node → ℕ → List Offer → CoreView
with_parts task start stop history = record { task = task; start = start; history = history; tree = (replay (opened start) history).tree; next = (replay (opened start) history).next; stop = stop }

module _ (mid after : CoreView) (g : Grows mid after) where
  pub core_same : (place : ℕ) → place ≤ length mid.history → core_at after place ≡ core_at mid place
  core_same place le =
      ap (λ h. with_parts after.task after.start after.stop (take place h)) g.history
      ∙ ap (with_parts after.task after.start after.stop) (take-append-le place mid.history g.added le)
      ∙ ap (λ t. with_parts t after.start after.stop (take place mid.history)) g.task
      ∙ ap (λ s. with_parts mid.task s after.stop (take place mid.history)) g.start
      ∙ ap (λ n. with_parts mid.task mid.start n (take place mid.history)) g.stop

-- all entries lead to the core itself
pub core_now : (core : CoreView) (place : ℕ) → replay (opened core.start) core.history ≡ state_of core → length core.history ≤ place → core_at core place ≡ core
core_now core place e le =
    ap (λ h. with_state core h (replay (opened core.start) h)) (take_all place core.history le)
    ∙ ap (with_state core core.history) e

-- the core behind all entries that another had
pub core_then : (before after : CoreView) → Grows before after → replay (opened before.start) before.history ≡ state_of before → core_at after (length before.history) ≡ before
core_then before after g e = core_same before after g (length before.history) (omega arith) ∙ core_now before (length before.history) e (omega arith)
