-- What a sink has received of texts that grow.
use Rattle.std.proofs.Common.{◌≡◌, ℕ, ◌+◌, ◌≤◌, List, [], ◌∷◌, ◌++◌, length, Option, Result, Ok, Err, sym, ap, ◌∙◌, subst, append_assoc, arith}
use Rattle.std.proofs.Math.Seq.{take-length}
use Rattle.std.proofs.lemmas.List.{append-nil}
use Rattle.bd_base.specs.Causes.{TakesPart, appended}
use Rattle.bd_base.proofs.PutLemmas.{appended-nil, appended-append, TakesPart-after, TakesPart-longer}
use Rattle.plan_core.specs.Core.{CoreView, State, accepted, applied, opened, replay}
use Rattle.plan_core.specs.Law.{IsLawful}
use Rattle.plan_core.proofs.LawLemmas.{replay-append}
use Rattle.plan_core.specs.declared.offer.Offer.{Offer}
use Rattle.plan_rebuild.specs.Grown.{Grows}
use Rattle.run_texts.specs.Taken.{Taken, IsSilent, Puts, ReceivesPart}
use Rattle.run_texts.specs.Texts.{better_texts, betters_of, entry_text}
use Rattle.run_texts.specs.declared.putting.Stop.{Stop}
use Rattle.run_texts.specs.declared.putting.Stop.TheVariants as stop
use Rattle.run_texts.proofs.TextLemmas.{better_texts-more}
use Rattle.plan_improve.specs.Improved.{TellsBetter}
use Rattle.plan_improve.specs.Inner.{Tells, TellsPart, TellsOn, PutsNext}
use Rattle.plan_improve.proofs.FollowLemmas.{betters_then}

-- the plan of an entry that was accepted comes last
pub betters_more : (core : CoreView) (offer : Offer) (place : ℕ) → IsLawful (accepted offer core) → place ≡ length core.history + 1 →
    betters_of (accepted offer core) ≡ betters_of core ++ entry_text core.task place offer (accepted offer core).tree
betters_more core offer place lawful at =
    better_texts-more core.task 0 (opened core.start) core.history offer ∙ ap (λ z. betters_of core ++ z) last
  where
    last : better_texts core.task (0 + length core.history) (replay (opened core.start) core.history) (offer ∷ []) ≡ entry_text core.task place offer (accepted offer core).tree
    last = append-nil _
        ∙ ap (λ (n : ℕ). entry_text core.task n offer (applied offer (replay (opened core.start) core.history)).tree) (omega (arith, at))
        ∙ ap (λ (s : State). entry_text core.task place offer s.tree) (sym (replay-append (opened core.start) core.history (offer ∷ [])) ∙ lawful.replays)

part_none : (before after : Option (List ℕ)) (text : List ℕ) → after ≡ before → TakesPart before after text
part_none before after text e = record { count = 0; within = omega arith; part = e ∙ sym (appended-nil before) }

part_whole : (before after : Option (List ℕ)) (text : List ℕ) → after ≡ appended before text → TakesPart before after text
part_whole before after text e = record { count = length text; within = omega arith; part = e ∙ ap (appended before) (sym (take-length text)) }

-- nothing was put
pub tells_none : (before after : CoreView) (s : Taken) → Grows before after → IsSilent s → TellsOn (betters_of before) (betters_of after) s (Err stop.NoMemory)
tells_none before after s grows silent =
    let more = betters_then before after grows in
    record { piece = more.0; grown = more.1; received = part_none s.before s.after more.0 silent }

-- the plan of the next entry was put
pub put_told : (core follower lead : CoreView) (offer : Offer) (place : ℕ) (s : Taken) (r : Result (Unit {0}) Stop) →
    follower ≡ accepted offer core → place ≡ length core.history + 1 → Grows (accepted offer core) lead → IsLawful follower →
    Puts (entry_text follower.task place offer follower.tree) s r → PutsNext core follower lead s r
put_told core follower lead offer place s r is at grows lawful put =
    subst (λ (c : CoreView). IsLawful c → Puts (entry_text c.task place offer c.tree) s r → PutsNext core c lead s r) (sym is) (by_result r) lawful put
  where
    more : (piece : List ℕ) × (betters_of lead ≡ betters_of (accepted offer core) ++ piece)
    more = betters_then (accepted offer core) lead grows

    text : List ℕ
    text = entry_text core.task place offer (accepted offer core).tree

    grown : IsLawful (accepted offer core) → betters_of lead ≡ betters_of core ++ (text ++ more.0)
    grown law = more.1 ∙ ap (λ z. z ++ more.0) (betters_more core offer place law at) ∙ append_assoc (betters_of core) text more.0

    by_result : (r : Result (Unit {0}) Stop) → IsLawful (accepted offer core) → Puts text s r → PutsNext core (accepted offer core) lead s r
    by_result (Ok done) law put = record { piece = text; grown = betters_more core offer place law at; received = put }
    by_result (Err stop.WriteFault) law put =
        (record { piece = text ++ more.0; grown = grown law; received = TakesPart-longer s.before s.after text more.0 put.part }, put.failed)
    by_result (Err stop.NoMemory) law put = record { piece = text ++ more.0; grown = grown law; received = part_none s.before s.after (text ++ more.0) put }

-- one text behind another
module _ (t0 t1 t2 : Option (List ℕ)) (f0 f1 f2 : ℕ) (later : f0 ≤ f1) where
  abbrev first : Taken
  first = record { before = t0; after = t1; faults = f0; faults_after = f1 }

  abbrev second : Taken
  second = record { before = t1; after = t2; faults = f1; faults_after = f2 }

  abbrev both : Taken
  both = record { before = t0; after = t2; faults = f0; faults_after = f2 }

  part_then : (a b c : List ℕ) → Tells a b first → TellsPart b c second → TellsPart a c both
  part_then a b c h k = record {
    piece = h.piece ++ k.piece;
    grown = k.grown ∙ ap (λ z. z ++ k.piece) h.grown ∙ append_assoc a h.piece k.piece;
    received = TakesPart-after t0 t1 t2 h.piece k.piece h.received k.received;
  }

  pub tells_then : (a b c : List ℕ) (r : Result (Unit {0}) Stop) → Tells a b first → TellsOn b c second r → TellsOn a c both r
  tells_then a b c (Ok done) h k = record {
    piece = h.piece ++ k.piece;
    grown = k.grown ∙ ap (λ z. z ++ k.piece) h.grown ∙ append_assoc a h.piece k.piece;
    received = k.received ∙ ap (λ z. appended z k.piece) h.received ∙ appended-append t0 h.piece k.piece;
  }
  tells_then a b c (Err stop.WriteFault) h k = (part_then a b c h k.0, omega (arith, k.1))
  tells_then a b c (Err stop.NoMemory) h k = part_then a b c h k

-- nothing was to be put
pub tells_here : (text : List ℕ) (s : Taken) → IsSilent s → Tells text text s
tells_here text s silent = record { piece = []; grown = sym (append-nil text); received = silent ∙ sym (appended-nil s.before) }

-- behind a core without entries all better texts were to be put
pub told_better : (before after : CoreView) (s : Taken) (r : Result (Unit {0}) Stop) → before.history ≡ [] → TellsOn (betters_of before) (betters_of after) s r → TellsBetter after s r
told_better before after s r fresh told = by_result r told
  where
    none : betters_of before ≡ []
    none = ap (better_texts before.task 0 (opened before.start)) fresh

    same : (piece : List ℕ) → betters_of after ≡ betters_of before ++ piece → piece ≡ betters_of after
    same piece e = sym (e ∙ ap (λ z. z ++ piece) none)

    part : TellsPart (betters_of before) (betters_of after) s → ReceivesPart s (betters_of after)
    part h = subst (TakesPart s.before s.after) (same h.piece h.grown) h.received

    by_result : (r : Result (Unit {0}) Stop) → TellsOn (betters_of before) (betters_of after) s r → TellsBetter after s r
    by_result (Ok done) h = h.received ∙ ap (appended s.before) (same h.piece h.grown)
    by_result (Err stop.WriteFault) h = record { failed = h.1; part = part h.0 }
    by_result (Err stop.NoMemory) h = part h
