-- The steps of a replay, one by one and together.
use Rattle.std.proofs.Common.{◌≡◌, inl, inr, ℕ, ◌+◌, ◌<◌, ◌≤◌, List, [], ◌∷◌, ◌++◌, length, get_or, Option, Result, Ok, Err, IfErr, refl, sym, ap, ◌∙◌, subst, length-append, arith}
use Rattle.std.proofs.lemmas.List.{append-nil}
use Rattle.bd_task.specs.TaskView.{TaskView}
use Rattle.plan_core.specs.Core.{CoreView}
use Rattle.plan_core.specs.Law.{after_reply}
use Rattle.plan_core.specs.Replies.{Replies, TellsFact}
use Rattle.plan_core.specs.declared.offer.Offer.{Offer}
use Rattle.plan_core.specs.declared.refusal.Refusal.{Refusal}
use Rattle.plan_core.specs.declared.refusal.Refusal.TheVariants as refusal
use Rattle.run_texts.specs.declared.putting.Stop.{Stop}
use Rattle.run_texts.specs.declared.putting.Stop.TheVariants.{WriteFault, NoMemory}
use Rattle.run_texts.specs.Taken.{Taken, Puts, FollowsSo}
use Rattle.run_texts.specs.Texts.{reply_line, reply_texts}
use Rattle.bd_top.specs.Replay.{IsTold, Makes, IsMade, IsUnmade, MakesOne, IsCause}
use Rattle.run_texts.proofs.TextLemmas.{reply_texts-more}
use Rattle.run_texts.proofs.TakenLemmas.{rose_before}

abbrev Reply : Type 0
Reply = Result ℕ Refusal

-- one offer

pub made_one : (core last : CoreView) (offer : Offer) (before after : List Reply) (r : Result (Unit {0}) Stop) → IsMade core offer before after last → MakesOne core offer before after last r
made_one core last offer before after (Ok done) m = m
made_one core last offer before after (Err WriteFault) m = m
made_one core last offer before after (Err NoMemory) m = inl m

pub told_of : (facts : ℕ) (why : Refusal) → TellsFact facts why → (why ≡ refusal.NoMemory → ⊥) → IsTold facts (Err why)
told_of facts (refusal.Closed replaced entries) h n = h
told_of facts (refusal.NoAction number) h n = h
told_of facts refusal.Gone h n = h
told_of facts refusal.Split h n = h
told_of facts (refusal.NotCheaper old new) h n = h
told_of facts (refusal.TooLong steps) h n = h
told_of facts (refusal.Unlinked fault) h n = h
told_of facts refusal.Between h n = h
told_of facts (refusal.TooDeep depth) h n = h
told_of facts (refusal.NoGain old new) h n = h
told_of facts refusal.Idle h n = h
told_of facts (refusal.BadOrder i j) h n = h
told_of facts refusal.NoMemory h n = absurd (n refl)

pub cause_out : (piece : List ℕ) (out notes : Taken) (r : Result (Unit {0}) Stop) → Puts piece out r → IfErr r (λ why. IsCause out notes why)
cause_out piece out notes (Ok done) h = tt
cause_out piece out notes (Err WriteFault) h = inl h.failed
cause_out piece out notes (Err NoMemory) h = tt

pub cause_notes : (piece : List ℕ) (out notes : Taken) (r : Result (Unit {0}) Stop) → Puts piece notes r → IfErr r (λ why. IsCause out notes why)
cause_notes piece out notes (Ok done) h = tt
cause_notes piece out notes (Err WriteFault) h = inr h.failed
cause_notes piece out notes (Err NoMemory) h = tt

-- the reply text of an offer that was refused comes last
pub replies_more : (task : TaskView) (before after : List Reply) (number : ℕ) (why : Refusal) → after ≡ before ++ Err why ∷ [] → number ≡ length after → reply_texts task 1 after ≡ reply_texts task 1 before ++ reply_line task number why
replies_more task before after number why e n =
    ap (reply_texts task 1) e ∙ reply_texts-more task 1 before (Err why)
    ∙ ap (λ z. reply_texts task 1 before ++ z) (append-nil _ ∙ ap (λ k. reply_line task k why) count)
  where
    count : 1 + length before ≡ number
    count = let last : List Reply = Err why ∷ [] in omega (arith, n, ap length e, length-append before last)

pub replies_same : (task : TaskView) (before after : List Reply) (place : ℕ) → after ≡ before ++ Ok place ∷ [] → reply_texts task 1 after ≡ reply_texts task 1 before
replies_same task before after place e = ap (reply_texts task 1) e ∙ reply_texts-more task 1 before (Ok place) ∙ append-nil _

-- a list of offers

more : (offers : List Offer) (replies : List Reply) (core mid last : CoreView) (offer : Offer) (reply : Reply) → Makes core offers replies mid → length replies < length offers → offer ≡ get_or offers (length replies) offer →
    IsTold (length mid.task.facts) reply → Replies mid offer reply → last ≡ after_reply mid offer reply → Makes core offers (replies ++ reply ∷ []) last
more [] replies core mid last offer reply m lt is told replied leads = absurd (omega arith)
more (o ∷ os) [] core mid last offer reply m lt is told replied leads =
    (subst (λ (z : CoreView). IsTold (length z.task.facts) reply) m told, subst (λ z. Replies z o reply) m (subst (λ z. Replies mid z reply) is replied), leads ∙ ap (λ z. after_reply z offer reply) m ∙ ap (λ z. after_reply core z reply) is)
more (o ∷ os) (r ∷ rs) core mid last offer reply m lt is told replied leads =
    (m.0, m.1, more os rs (after_reply core o r) mid last offer reply m.2 (omega arith) is told replied leads)

pub made_more : (offers : List Offer) (replies after : List Reply) (core mid last : CoreView) (i : ℕ) (offer : Offer) → Makes core offers replies mid → length replies ≡ i → i < length offers → offer ≡ get_or offers i offer →
    IsMade mid offer replies after last → Makes core offers after last
made_more offers replies after core mid last i offer m count lt is one =
    subst (λ z. Makes core offers z last) (sym one.listed)
    (more offers replies core mid last offer one.reply m (omega (arith, count)) (subst (λ n. offer ≡ get_or offers n offer) (sym count) is) one.told one.replied one.leads)

pub made_same : (offers : List Offer) (replies after : List Reply) (core mid last : CoreView) → Makes core offers replies mid → IsUnmade mid replies after last → Makes core offers after last
made_same offers replies after core mid last m none =
    subst (λ z. Makes core offers z last) (sym none.listed) (subst (λ z. Makes core offers replies z) (sym none.leads) m)

-- the same for an offer whose making was stopped
pub made_stop : (offers : List Offer) (replies after : List Reply) (core mid last : CoreView) (i : ℕ) (offer : Offer) (why : Stop) → Makes core offers replies mid → length replies ≡ i → i < length offers → offer ≡ get_or offers i offer →
    MakesOne mid offer replies after last (Err why) → Makes core offers after last
made_stop offers replies after core mid last i offer WriteFault m count lt is one = made_more offers replies after core mid last i offer m count lt is one
made_stop offers replies after core mid last i offer NoMemory m count lt is (inl one) = made_more offers replies after core mid last i offer m count lt is one
made_stop offers replies after core mid last i offer NoMemory m count lt is (inr none) = made_same offers replies after core mid last m none

pub one_more : (before after : List Reply) (reply : Reply) (i : ℕ) → length before ≡ i → after ≡ before ++ reply ∷ [] → length after ≡ i + 1
one_more before after reply i e is = omega (arith, e, ap length is, length-append before (reply ∷ []))

pub same_task : (core last : CoreView) (offer : Offer) (reply : Reply) → last ≡ after_reply core offer reply → last.task ≡ core.task
same_task core last offer (Ok place) e = ap (λ (z : CoreView). z.task) e
same_task core last offer (Err why) e = ap (λ (z : CoreView). z.task) e

-- the texts of replies, by tasks that are the same
pub replies_on : (t u : TaskView) (before after : List Reply) (s : Taken) (r : Result (Unit {0}) Stop) → t ≡ u → FollowsSo (reply_texts t 1 before) (reply_texts t 1 after) s r → FollowsSo (reply_texts u 1 before) (reply_texts u 1 after) s r
replies_on t u before after s r e h = subst (λ (z : TaskView). FollowsSo (reply_texts z 1 before) (reply_texts z 1 after) s r) e h

pub cause_before : (o0 o1 o2 n0 n1 n2 : Option (List ℕ)) (f0 f1 f2 g0 g1 g2 : ℕ) (why : Stop) → f0 ≤ f1 → g0 ≤ g1 →
    IsCause (record { before = o1; after = o2; faults = f1; faults_after = f2 }) (record { before = n1; after = n2; faults = g1; faults_after = g2 }) why →
    IsCause (record { before = o0; after = o2; faults = f0; faults_after = f2 }) (record { before = n0; after = n2; faults = g0; faults_after = g2 }) why
cause_before o0 o1 o2 n0 n1 n2 f0 f1 f2 g0 g1 g2 WriteFault le le' (inl h) = inl (rose_before f0 f1 f2 le h)
cause_before o0 o1 o2 n0 n1 n2 f0 f1 f2 g0 g1 g2 WriteFault le le' (inr h) = inr (rose_before g0 g1 g2 le' h)
cause_before o0 o1 o2 n0 n1 n2 f0 f1 f2 g0 g1 g2 NoMemory le le' h = tt
