-- What is said of a compiled subtask, said of the subtask.
use Rattle.std.proofs.Common.{◌≡◌, ℕ, ◌≤◌, ◌<◌, List, Option, Some, None, inl, inr, subst}
use Rattle.bd_task.specs.TaskView.{TaskView}
use Rattle.bd_task.specs.Valid.{cost_of}
use Rattle.bd_search.specs.Verdict.{NoneBelow, IsFound, IsSpent, IsTrueVerdict}
use Rattle.bd_search.specs.declared.verdict.Kind.{Kind}
use Rattle.bd_search.specs.declared.verdict.Kind.TheVariants.{Found, Exhausted, Spent}
use Rattle.bd_greedy.specs.Proposal.{IsProposal}
use Rattle.bd_subtask.specs.Compiled.{compiled, Tells}
use Rattle.bd_subtask.specs.declared.parts.SubTask.{SubTask}
use Rattle.bd_pieces.specs.Verdict.{NoneSolvesBelow, IsSolution, IsSpentOn, IsTrueOf}
use Rattle.bd_pieces.specs.Proposal.{IsProposalFor}

module _ (task : TaskView) (sub : SubTask) (tells : Tells task sub (compiled task sub)) where
  none_solves : (c : ℕ) → NoneBelow (compiled task sub) c → NoneSolvesBelow task sub c
  none_solves c none list solves = subst (λ z. c ≤ z) (tells list).1 (none list ((tells list).0.1 solves))

  found_is : (list : List ℕ) → IsFound (compiled task sub) sub.bound list → IsSolution task sub list
  found_is list f = record {
    solves = (tells list).0.0 f.valid;
    cheap = subst (λ z. z < sub.bound) (tells list).1 f.cheap;
    apart = f.apart;
    best = subst (NoneSolvesBelow task sub) (tells list).1 (none_solves (cost_of (compiled task sub) list) f.best);
  }

  spent_is : (nodes floor : ℕ) → IsSpent (compiled task sub) sub.bound nodes floor → IsSpentOn task sub nodes floor
  spent_is nodes floor s = record { below = s.below; best = none_solves floor s.best; states = s.states; count = s.count; apart = s.apart; reached = s.reached }

  kind_is : (nodes : ℕ) (kind : Kind) → IsTrueVerdict (compiled task sub) sub.bound nodes kind → IsTrueOf task sub nodes kind
  kind_is nodes (Found list) v = found_is list v
  kind_is nodes Exhausted v = none_solves sub.bound v
  kind_is nodes (Spent floor lent) v = (spent_is nodes floor v.0, v.1)

  list_is : (list : Option (List ℕ)) → IsProposal (compiled task sub) list → IsProposalFor task sub list
  list_is (Some list) valid = (tells list).0.0 valid
  list_is None (inl none) = inl (λ list solves. none list ((tells list).0.1 solves))
  list_is None (inr many) = inr many

-- a verdict on the compiled subtask is one on the subtask
pub verdict_tells : (task : TaskView) (sub : SubTask) (t : TaskView) (nodes : ℕ) (kind : Kind) → t ≡ compiled task sub → Tells task sub t → IsTrueVerdict t sub.bound nodes kind → IsTrueOf task sub nodes kind
verdict_tells task sub t nodes kind is tells v =
    kind_is task sub (subst (Tells task sub) is tells) nodes kind (subst (λ (z : TaskView). IsTrueVerdict z sub.bound nodes kind) is v)

-- a proposal for the compiled subtask is one for the subtask
pub proposal_tells : (task : TaskView) (sub : SubTask) (t : TaskView) (list : Option (List ℕ)) → t ≡ compiled task sub → Tells task sub t → IsProposal t list → IsProposalFor task sub list
proposal_tells task sub t list is tells p =
    list_is task sub (subst (Tells task sub) is tells) list (subst (λ (z : TaskView). IsProposal z list) is p)
