-- Laws for crates above: what a sink has received of a text that grew, and which text a core's next entry adds.
use Rattle.std.proofs.Common.{◌≡◌, ℕ, ◌+◌, ◌≤◌, List, [], ◌∷◌, ◌++◌, length, Option, Result, Ok, Err, IsErrAnd, sym, ap, ◌∙◌, subst, append_assoc, arith}
use Rattle.std.proofs.Math.Seq.{take-length}
use Rattle.std.proofs.lemmas.List.{append-nil}
use Rattle.bd_base.specs.Causes.{Rose, TakesPart, appended}
use Rattle.bd_base.proofs.PutLemmas.{appended-nil, appended-append, TakesPart-after, TakesPart-longer}
use Rattle.plan_core.specs.Core.{CoreView, State, applied, replay, opened, state_of, accepted}
use Rattle.plan_core.specs.Law.{IsLawful}
use Rattle.plan_core.proofs.LawLemmas.{replay-append}
use Rattle.plan_core.specs.Replies.{Replies}
use Rattle.plan_core.specs.declared.offer.Offer.{Offer}
use Rattle.run_texts.specs.declared.putting.Stop.{Stop}
use Rattle.run_texts.specs.declared.putting.Stop.TheVariants.{WriteFault, NoMemory}
use Rattle.run_texts.specs.Taken.{Taken, IsSilent, Puts, Follows, FollowsPart, FollowsSo}
use Rattle.run_texts.specs.Texts.{better_texts, betters_of, entry_text}
use Rattle.run_texts.proofs.TextLemmas.{better_texts-more}

pub puts_same : (p q : List ℕ) (s : Taken) (r : Result (Unit {0}) Stop) → p ≡ q → Puts p s r → Puts q s r
puts_same p q s r e h = subst (λ z. Puts z s r) e h

pub part_none : (before : Option (List ℕ)) (after : Option (List ℕ)) (text : List ℕ) → after ≡ before → TakesPart before after text
part_none before after text e = record { count = 0; within = omega arith; part = e ∙ sym (appended-nil before) }

pub follows_put : (from to piece : List ℕ) (s : Taken) (r : Result (Unit {0}) Stop) → to ≡ from ++ piece → Puts piece s r → FollowsSo from to s r
follows_put from to piece s (Ok done) e h = record { piece = piece; grown = e; received = h }
follows_put from to piece s (Err WriteFault) e h = record { piece = piece; grown = e; received = h.part }
follows_put from to piece s (Err NoMemory) e h = record { piece = piece; grown = e; received = part_none s.before s.after piece h }

pub follows_none : (from to : List ℕ) (s : Taken) (r : Result (Unit {0}) Stop) → to ≡ from → IsSilent s → FollowsSo from to s r
follows_none from to s (Ok done) e h = record { piece = []; grown = e ∙ sym (append-nil from); received = h ∙ sym (appended-nil s.before) }
follows_none from to s (Err why) e h = record { piece = []; grown = e ∙ sym (append-nil from); received = part_none s.before s.after [] h }

-- what follows a text that has grown
pub follows_on : (a b c : List ℕ) (t0 t1 t2 : Option (List ℕ)) (f0 f1 f2 : ℕ) (r : Result (Unit {0}) Stop) →
    Follows a b (record { before = t0; after = t1; faults = f0; faults_after = f1 }) → FollowsSo b c (record { before = t1; after = t2; faults = f1; faults_after = f2 }) r →
    FollowsSo a c (record { before = t0; after = t2; faults = f0; faults_after = f2 }) r
follows_on a b c t0 t1 t2 f0 f1 f2 (Ok done) h k = record {
  piece = h.piece ++ k.piece;
  grown = k.grown ∙ ap (λ z. z ++ k.piece) h.grown ∙ append_assoc a h.piece k.piece;
  received = k.received ∙ ap (λ z. appended z k.piece) h.received ∙ appended-append t0 h.piece k.piece;
}
follows_on a b c t0 t1 t2 f0 f1 f2 (Err why) h k = record {
  piece = h.piece ++ k.piece;
  grown = k.grown ∙ ap (λ z. z ++ k.piece) h.grown ∙ append_assoc a h.piece k.piece;
  received = TakesPart-after t0 t1 t2 h.piece k.piece h.received k.received;
}

pub err_follows : (from to : List ℕ) (s : Taken) (r : Result (Unit {0}) Stop) (P : Stop → Type 0) → IsErrAnd r P → FollowsPart from to s → FollowsSo from to s r
err_follows from to s (Ok done) P e h = elim e [ ]
err_follows from to s (Err why) P e h = h

-- what an offer that was accepted puts comes last
pub betters_more : (core last : CoreView) (offer : Offer) (place : ℕ) → IsLawful last → Replies core offer (Ok place) → last ≡ accepted offer core →
    betters_of last ≡ betters_of core ++ entry_text last.task place offer last.tree
betters_more core last offer place lawful r is =
    subst (λ (z : CoreView). IsLawful z → betters_of z ≡ betters_of core ++ entry_text z.task place offer z.tree) (sym is)
    (λ law. better_texts-more core.task 0 (opened core.start) core.history offer ∙ ap (λ z. betters_of core ++ z) (tail law.replays)) lawful
  where
    tail : replay (opened core.start) (core.history ++ offer ∷ []) ≡ state_of (accepted offer core) →
        better_texts core.task (0 + length core.history) (replay (opened core.start) core.history) (offer ∷ []) ≡ entry_text core.task place offer (accepted offer core).tree
    tail replays = append-nil _
        ∙ ap (λ (n : ℕ). entry_text core.task n offer (applied offer (replay (opened core.start) core.history)).tree) (let e : place ≡ length core.history + 1 = r.1 in omega (arith, e))
        ∙ ap (λ (s : State). entry_text core.task place offer s.tree) (sym (replay-append (opened core.start) core.history (offer ∷ [])) ∙ replays)

pub same_betters : (core last : CoreView) → last ≡ core → betters_of last ≡ betters_of core
same_betters core last e = ap betters_of e

pub rose_before : (a b c : ℕ) → a ≤ b → Rose b c → Rose a c
rose_before a b c le h = omega (arith, h)

pub rose_after : (a b c : ℕ) → b ≤ c → Rose a b → Rose a c
rose_after a b c le h = omega (arith, h)

-- a text that was received whole, or a first part of it, is a first part of a longer one
pub whole_part : (before after : Option (List ℕ)) (p q : List ℕ) → after ≡ appended before p → TakesPart before after (p ++ q)
whole_part before after p q e = TakesPart-longer before after p q (record { count = length p; within = omega arith; part = e ∙ ap (appended before) (sym (take-length p)) })
