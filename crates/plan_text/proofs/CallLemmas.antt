-- Calls that are spelled are read, and those that are read are spelled.
use Rattle.std.proofs.Common.{◌≡◌, ℕ, ◌==◌, true, List, [], ◌∷◌, ◌++◌, Result, Ok, Err, length, refl, sym, ap, subst, ◌∙◌, arith, append_assoc}
use Rattle.std.specs.Prelude.{slice_get}
use Rattle.std.proofs.lemmas.List.{append-nil}
use Rattle.std.proofs.lemmas.Bool.Decides.{nat_tests}
use Rattle.bd_base.specs.declared.text_err.Cause.TheVariants as cause
use Rattle.bd_base.specs.declared.text_err.TextErr.{TextErr}
use Rattle.bd_base.specs.declared.text_err.TextErr.TheVariants as errors
use Rattle.pddl_lex.specs.declared.sexp.Sexp.{Sexp}
use Rattle.pddl_lex.specs.declared.sexp.Sexp.TheViews.{out-Sexp}
use Rattle.pddl_lex.specs.declared.errors.LexErr.{LexErr}
use Rattle.pddl_lex.specs.Reading.{trees_in}
use Rattle.pddl_lex.proofs.WholeLemmas.{trees_complete, trees_back}
use Rattle.pddl_types.specs.declared.domains.Domain.{Domain}
use Rattle.pddl_types.specs.declared.problems.Problem.{Problem}
use Rattle.pddl_types.specs.declared.calls.Call.{Call}
use Rattle.pddl_form.specs.Fault.{Fault, ◌>>=◌, needed, Answers}
use Rattle.pddl_form.specs.Trees.{Headed, word_at, head_at}
use Rattle.pddl_form.specs.Names.{place_of}
use Rattle.pddl_form.specs.Things.{Table}
use Rattle.pddl_form.specs.Terms.{head_index, arity_fits}
use Rattle.pddl_form.proofs.Laws.{bind_ok, needed_ok}
use Rattle.pddl_form.proofs.HeadedLemmas.{word_back, head_back}
use Rattle.pddl_form.proofs.RangeLemmas.{arity_back}
use Rattle.plan_text.specs.Calls.{actions_of, objects_of, arg_at, args_from, call_at, calls_from, listed, plan_at, over_of}
use Rattle.plan_text.specs.Spells.{IsArg, AreArgs, IsCall, AreCalls, SpellsPlan, Spelled}

-- from what is spelled to the calls

same : (n : ℕ) → (n == n) ≡ true
same n = grind (arith, nat_tests)

arg_read : (objects : List (List ℕ)) (tree : Sexp) (name : List ℕ) → IsArg objects tree name → arg_at objects tree ≡ Ok name
arg_read objects tree name h = rw (h.word, h.known) refl

args_read : (objects done : List (List ℕ)) (xs : List Sexp) (ws : List (List ℕ)) → AreArgs objects xs ws → args_from objects done xs ≡ Ok (done ++ ws)
args_read objects done [] [] h = rw (append-nil done) refl
args_read objects done [] (w ∷ ws) h = absurd h
args_read objects done (x ∷ xs) [] h = absurd h
args_read objects done (x ∷ xs) (w ∷ ws) h = rw (arg_read objects x w h.0) (args_read objects (done ++ w ∷ []) xs ws h.1 ∙ ap (λ (l : List (List ℕ)). Ok l) (append_assoc done (w ∷ []) ws))

headed_of : (actions : Table) (objects : List (List ℕ)) (tree : Sexp) (call : Call) → IsCall actions objects tree call → Headed
headed_of actions objects tree call h = record { place = call.place; head = (h.head_place, call.name); items = h.items }

head_is : (actions : Table) (objects : List (List ℕ)) (tree : Sexp) (call : Call) (h : IsCall actions objects tree call) → head_at tree ≡ Ok (headed_of actions objects tree call h)
unfolding headed_of
head_is actions objects tree call h = rw (h.whole, h.named) refl

call_read : (actions : Table) (objects : List (List ℕ)) (tree : Sexp) (call : Call) → IsCall actions objects tree call → call_at actions objects tree ≡ Ok call
unfolding call_at headed_of
call_read actions objects tree call h = rw (head_is actions objects tree call h, h.known, h.fits, same (length h.items), args_read objects [] h.items call.args h.args) refl

calls_read : (actions : Table) (objects : List (List ℕ)) (done : List Call) (xs : List Sexp) (cs : List Call) → AreCalls actions objects xs cs → calls_from actions objects done xs ≡ Ok (done ++ cs)
calls_read actions objects done [] [] h = rw (append-nil done) refl
calls_read actions objects done [] (c ∷ cs) h = absurd h
calls_read actions objects done (x ∷ xs) [] h = absurd h
calls_read actions objects done (x ∷ xs) (c ∷ cs) h =
    rw (call_read actions objects x c h.0) (calls_read actions objects (done ++ c ∷ []) xs cs h.1 ∙ ap (λ (l : List Call). Ok l) (append_assoc done (c ∷ []) cs))

-- from the calls to what is spelled

arg_back : (objects : List (List ℕ)) (tree : Sexp) (name : List ℕ) → arg_at objects tree ≡ Ok name → IsArg objects tree name
arg_back objects tree name e =
    let w = bind_ok (word_at tree) (λ w. needed (w.0, cause.Unknown w.1) (place_of w.1 objects) >>= λ i. Ok w.1) name e in
    let i = bind_ok (needed (w.0.0, cause.Unknown w.0.1) (place_of w.0.1 objects)) (λ i. Ok w.0.1) name w.2 in
    let is : w.0.1 ≡ name = cc in
    subst (IsArg objects tree) is (record { place = w.0.0; number = i.0; word = word_back (out-Sexp tree) w.0 w.1; known = needed_ok (w.0.0, cause.Unknown w.0.1) (place_of w.0.1 objects) i.0 i.1 })

-- the names behind those before them
record AreMore (objects done : List (List ℕ)) (xs : List Sexp) (all : List (List ℕ)) : Type 0 where
  names : List (List ℕ)
  args : AreArgs objects xs names
  whole : all ≡ done ++ names

args_back : (objects done : List (List ℕ)) (xs : List Sexp) (all : List (List ℕ)) → args_from objects done xs ≡ Ok all → AreMore objects done xs all
args_back objects done [] all e = let is : done ≡ all = cc in record { names = []; args = tt; whole = sym (append-nil done ∙ is) }
args_back objects done (x ∷ xs) all e =
    let a = bind_ok (arg_at objects x) (λ arg. args_from objects (done ++ arg ∷ []) xs) all e in
    let r = args_back objects (done ++ a.0 ∷ []) xs all a.2 in
    record { names = a.0 ∷ r.names; args = (arg_back objects x a.0 a.1, r.args); whole = r.whole ∙ append_assoc done (a.0 ∷ []) r.names }

call_back : (actions : Table) (objects : List (List ℕ)) (tree : Sexp) (call : Call) → call_at actions objects tree ≡ Ok call → IsCall actions objects tree call
unfolding call_at
call_back actions objects tree call e =
    let h = bind_ok (head_at tree) _ call e in
    let i = bind_ok (head_index h.0 actions) _ call h.2 in
    let f = bind_ok (arity_fits h.0 (slice_get actions.numbers i.0)) _ call i.2 in
    let a = bind_ok (args_from objects [] h.0.items) _ call f.2 in
    let is : record { place = h.0.place; name = h.0.head.1; args = a.0 } ≡ call = cc in
    let k = head_back tree h.0 h.1 in
    let r = args_back objects [] h.0.items a.0 a.1 in
    subst (IsCall actions objects tree) is (record {
      head = k.head;
      head_place = h.0.head.0;
      items = h.0.items;
      number = i.0;
      whole = k.whole;
      named = k.named;
      known = needed_ok (h.0.head.0, cause.Unknown h.0.head.1) (place_of h.0.head.1 actions.names) i.0 i.1;
      fits = arity_back h.0 (slice_get actions.numbers i.0) f.0 f.1;
      args = subst (AreArgs objects h.0.items) (sym r.whole) r.args;
    })

record AreMoreCalls (actions : Table) (objects : List (List ℕ)) (done : List Call) (xs : List Sexp) (all : List Call) : Type 0 where
  more : List Call
  calls : AreCalls actions objects xs more
  whole : all ≡ done ++ more

calls_back : (actions : Table) (objects : List (List ℕ)) (done : List Call) (xs : List Sexp) (all : List Call) → calls_from actions objects done xs ≡ Ok all → AreMoreCalls actions objects done xs all
calls_back actions objects done [] all e = let is : done ≡ all = cc in record { more = []; calls = tt; whole = sym (append-nil done ∙ is) }
calls_back actions objects done (x ∷ xs) all e =
    let c = bind_ok (call_at actions objects x) (λ call. calls_from actions objects (done ++ call ∷ []) xs) all e in
    let r = calls_back actions objects (done ++ c.0 ∷ []) xs all c.2 in
    record { more = c.0 ∷ r.more; calls = (call_back actions objects x c.0 c.1, r.calls); whole = r.whole ∙ append_assoc done (c.0 ∷ []) r.more }

-- whole texts

listed_ok : (r : Result (List Sexp) LexErr) (trees : List Sexp) → listed r ≡ Ok trees → r ≡ Ok trees
listed_ok (Ok xs) trees e = let is : xs ≡ trees = cc in ap (λ (l : List Sexp). Ok l) is
listed_ok (Err x) trees e = cc

pub plan_complete : (d : Domain) (p : Problem) (text : List ℕ) (calls : List Call) → SpellsPlan d p text calls → plan_at d p text ≡ Ok calls
plan_complete d p text calls h = rw (trees_complete text h.trees h.spelled) (calls_read (actions_of d) (objects_of d p) [] h.trees calls h.each)

pub plan_back : (d : Domain) (p : Problem) (text : List ℕ) (calls : List Call) → plan_at d p text ≡ Ok calls → SpellsPlan d p text calls
plan_back d p text calls e =
    let t = bind_ok (listed (trees_in text)) (λ trees. calls_from (actions_of d) (objects_of d p) [] trees) calls e in
    let r = calls_back (actions_of d) (objects_of d p) [] t.0 calls t.2 in
    record { trees = t.0; spelled = trees_back text t.0 (listed_ok (trees_in text) t.0 t.1); each = subst (AreCalls (actions_of d) (objects_of d p) t.0) (sym r.whole) r.calls }

no_plan : (d : Domain) (p : Problem) (text : List ℕ) (f : Fault) → plan_at d p text ≡ Err f → (calls : List Call) → SpellsPlan d p text calls → ⊥
no_plan d p text f e calls h = let c = plan_complete d p text calls h in cc

pub plan_says : (d : Domain) (p : Problem) (text : List ℕ) (r : Result (List Call) TextErr) → Answers over_of r (plan_at d p text) → Spelled d p text r
plan_says d p text (Ok calls) a = (plan_back d p text calls a.0, a.1)
plan_says d p text (Err errors.NoMemory) a = tt
plan_says d p text (Err (errors.Over limit count)) a = (a.0, plan_back d p text a.0 a.1, a.2)
plan_says d p text (Err (errors.At place c)) a = no_plan d p text (place, c) a

pub plan_one : (d : Domain) (p : Problem) (text : List ℕ) (a b : List Call) → SpellsPlan d p text a → SpellsPlan d p text b → a ≡ b
plan_one d p text a b h k = let x = plan_complete d p text a h in let y = plan_complete d p text b k in cc
