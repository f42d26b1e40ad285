-- The way to an entry, found backwards.
use Rattle.std.proofs.Common.{◌≡◌, ℕ, ◌+◌, ◌<◌, ◌≤◌, List, [], ◌∷◌, length, Option, Some, None, refl, sym, ◌∙◌, subst, arith, slice_get}
use Rattle.bd_task.specs.TaskView.{TaskView}
use Rattle.bd_task.specs.Run.{step_by, run}
use Rattle.bd_task.specs.Valid.{cost_by}
use Rattle.bd_states.specs.Passed.{passed, Differs, AllDiffer}
use Rattle.bd_states.specs.Entries.{IsFrom}
use Rattle.bd_states.specs.Ways.{AreLinked, IsWay, IsTail, places_before}
use Rattle.bd_states.specs.declared.entry.Entry.{Entry}
use Rattle.bd_states.specs.declared.entry.Origin.{Origin}
use Rattle.bd_states.proofs.EntryLemmas.{some_is, In-get, differs_back, apart_at}
use Rattle.bd_states.proofs.ListLemmas.{run_first, passed_first}

module _ (task : TaskView) (closed : List Entry) (end : Entry) (l : AreLinked task closed end) where
  pub tail_start : IsTail task closed end (length closed) end []
  tail_start = record {
    within = omega arith;
    from = l.from;
    ends = refl;
    cost = omega arith;
    apart = (tt, tt);
    others = λ k p lt g. (differs_back end.state closed l.new p (In-get p closed k g), tt);
  }

  -- from an entry that isn't the start one goes on to a closed entry before it
  pub tail_more : (n : ℕ) (e : Entry) (list : List ℕ) (o : Option Origin) (place action : ℕ) → IsTail task closed end n e list → e.from ≡ Some (record { place = place; action = action }) →
      (place < n) × ((p : Entry) → slice_get closed place ≡ Some p → IsTail task closed end place p (action ∷ list))
  tail_more n e list o place action t is = at (subst (λ z. IsFrom task closed n z e.state e.cost) is t.from)
    where
      at : IsFrom task closed n (Some (record { place = place; action = action })) e.state e.cost → (place < n) × ((p : Entry) → slice_get closed place ≡ Some p → IsTail task closed end place p (action ∷ list))
      at f = (f.1, λ p g. by p g (some_is f.0 p (sym f.2 ∙ g)))
        where
          by : (p : Entry) → slice_get closed place ≡ Some p → f.0 ≡ p → IsTail task closed end place p (action ∷ list)
          by p g same = from_step p g (subst (λ (z : Entry). step_by (slice_get task.actions action) z.state ≡ Some e.state) same f.3) (subst (λ (z : Entry). e.cost ≡ z.cost + cost_by (slice_get task.actions action)) same f.4)
            where
              from_step : (p : Entry) → slice_get closed place ≡ Some p → step_by (slice_get task.actions action) p.state ≡ Some e.state → e.cost ≡ p.cost + cost_by (slice_get task.actions action) → IsTail task closed end place p (action ∷ list)
              from_step p g step cost = record {
                within = (let w = t.within in let lt : place < n = f.1 in omega arith);
                from = l.closed_from place p g;
                ends = run_first task p.state e.state action list step ∙ t.ends;
                cost = (let c = t.cost in omega arith);
                apart = subst AllDiffer (sym (passed_first task p.state e.state action list step)) (t.others place p f.1 g, t.apart);
                others = λ k q lt h. subst (Differs q.state) (sym (passed_first task p.state e.state action list step))
                    ((λ same. apart_at closed k place q p l.apart h g lt same), t.others k q (let w : place < n = f.1 in omega arith) h);
              }

  pub tail_end : (n : ℕ) (e : Entry) (list : List ℕ) → IsTail task closed end n e list → e.from ≡ None → IsWay task end list
  tail_end n e list t is = at (subst (λ z. IsFrom task closed n z e.state e.cost) is t.from)
    where
      at : IsFrom task closed n None e.state e.cost → IsWay task end list
      at f = record {
        ends = subst (λ z. run task z list ≡ Some end.state) f.0 t.ends;
        cost = (let c = t.cost in let none = f.1 in omega arith);
        apart = subst (λ z. AllDiffer (passed task z list)) f.0 t.apart;
      }

pub before_less : (task : TaskView) (closed : List Entry) (n : ℕ) (o : Option Origin) (s : List ℕ) (c : ℕ) → IsFrom task closed n o s c → places_before o ≤ n
before_less task closed n None s c f = omega arith
before_less task closed n (Some o) s c f = let lt : o.place < n = f.1 in omega arith
