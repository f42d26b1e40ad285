use Rattle.command_words.specs.Asked.{names_of}
use Rattle.bd_top.proofs.CommandLemmas.{asked_bench, asked_check, asked_deorder, asked_improve, asked_nothing, asked_script}
use Rattle.bd_top.specs.declared.purpose.Purpose.TheVariants as purpose
use Rattle.bd_top.proofs.WordsLemmas.{asks_none, asks_this, errands_prepared, misused_prepared, no_check, no_deorder, ranges_this, script_prepared, texts_prepared, these_numbers}
use Rattle.bd_top.proofs.prepare.prepare_words.Goals as goal

pub returns-in-Ok-Some-Replay-clause-prepared : goal.returns-in-Ok-Some-Replay-clause-prepared
returns-in-Ok-Some-Replay-clause-prepared g c =
    script_prepared _ _ _ c.in-Ok-Some-Replay.script.now
    (asked_script _ _ (asks_this _ _ _ _ c.in-Ok-Some-Replay.field-0-is c.in-Ok-Some-Replay.field-0-0-is c.in-Ok-Some-Replay.ensures.asked)) _ c.prepare_named.ensures.prepared

pub returns-in-Ok-Some-Check-clause-prepared : goal.returns-in-Ok-Some-Check-clause-prepared
returns-in-Ok-Some-Check-clause-prepared g c =
    texts_prepared _ _ _ (names_of c.in-Ok-Some-Check.texts) purpose.Check
    (asked_check _ _ (asks_this _ _ _ _ c.in-Ok-Some-Check.field-0-is c.in-Ok-Some-Check.field-0-0-is c.in-Ok-Some-Check.ensures.asked)) no_check _ c.prepare_texts.ensures.prepared

pub returns-in-Ok-Some-Deorder-clause-prepared : goal.returns-in-Ok-Some-Deorder-clause-prepared
returns-in-Ok-Some-Deorder-clause-prepared g c =
    texts_prepared _ _ _ (names_of c.in-Ok-Some-Deorder.texts) (purpose.Deorder c.in-Ok-Some-Deorder.span)
    (asked_deorder _ _ _ (asks_this _ _ _ _ c.in-Ok-Some-Deorder.field-0-is c.in-Ok-Some-Deorder.field-0-0-is c.in-Ok-Some-Deorder.ensures.asked)) (no_deorder c.in-Ok-Some-Deorder.span) _ c.prepare_texts-in-Ok-Some-Deorder.ensures.prepared

pub returns-in-Ok-Some-Improve-clause-prepared : goal.returns-in-Ok-Some-Improve-clause-prepared
returns-in-Ok-Some-Improve-clause-prepared g c =
    texts_prepared _ _ _ (names_of c.in-Ok-Some-Improve.texts) (purpose.Improve c.in-Ok-Some-Improve.numbers)
    (asked_improve _ _ _ (asks_this _ _ _ _ c.in-Ok-Some-Improve.field-0-is c.in-Ok-Some-Improve.field-0-0-is c.in-Ok-Some-Improve.ensures.asked))
    (λ numbers e. these_numbers c.in-Ok-Some-Improve.numbers numbers (ranges_this _ _ _ c.in-Ok-Some-Improve.field-0-is c.in-Ok-Some-Improve.field-0-0-is c.in-Ok-Some-Improve.ensures.ranges) e)
    _ c.prepare_texts-in-Ok-Some-Improve.ensures.prepared

pub prepare_errands-requires : goal.prepare_errands-requires
prepare_errands-requires g c = ranges_this _ _ _ c.in-Ok-Some-Bench.field-0-is c.in-Ok-Some-Bench.field-0-0-is c.in-Ok-Some-Bench.ensures.ranges

pub returns-in-Ok-Some-Bench-clause-prepared : goal.returns-in-Ok-Some-Bench-clause-prepared
returns-in-Ok-Some-Bench-clause-prepared g c =
    errands_prepared _ _ _ c.in-Ok-Some-Bench.size
    (asked_bench _ _ (asks_this _ _ _ _ c.in-Ok-Some-Bench.field-0-is c.in-Ok-Some-Bench.field-0-0-is c.in-Ok-Some-Bench.ensures.asked))
    (ranges_this _ _ _ c.in-Ok-Some-Bench.field-0-is c.in-Ok-Some-Bench.field-0-0-is c.in-Ok-Some-Bench.ensures.ranges) _ c.prepare_errands.ensures

pub returns-in-Ok-None-clause-prepared : goal.returns-in-Ok-None-clause-prepared
returns-in-Ok-None-clause-prepared g c =
    misused_prepared _ _ _ (asked_nothing _ (asks_none _ _ c.in-Ok-None.field-0-is c.in-Ok-None.ensures.asked)) _ c.misused.ensures
