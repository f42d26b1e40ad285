use Rattle.plan_core.specs.Core.{is_tightening}
use Rattle.plan_rebuild.proofs.GrowLemmas.{adds_here, adds_then}
use Rattle.plan_rebuild.proofs.tightening.tighten.Goals as goal

pub loop-alloc-init : goal.loop-alloc-init
loop-alloc-init c = adds_here is_tightening c.take_pairs.new.core

pub loop-alloc-preserved : goal.loop-alloc-preserved
loop-alloc-preserved c =
    adds_then is_tightening _ c.loop-alloc.core _ c.loop-alloc.invariant
    (adds_then is_tightening _ c.take_gain.new.core _ c.take_gain.ensures.adds c.take_pairs-in-Some.ensures.adds)

pub returns-in_err-gain_of-clause-adds : goal.returns-in_err-gain_of-clause-adds
returns-in_err-gain_of-clause-adds c = adds_then is_tightening _ c.take_pairs.new.core _ c.take_pairs.ensures.adds c.loop-alloc.invariant

pub returns-in-None-clause-adds : goal.returns-in-None-clause-adds
returns-in-None-clause-adds c = adds_then is_tightening _ c.take_pairs.new.core _ c.take_pairs.ensures.adds c.loop-alloc.invariant

pub returns-in_err-take_gain-in-Some-clause-adds : goal.returns-in_err-take_gain-in-Some-clause-adds
returns-in_err-take_gain-in-Some-clause-adds c =
    adds_then is_tightening _ c.take_pairs.new.core _ c.take_pairs.ensures.adds
    (adds_then is_tightening _ c.loop-alloc.core _ c.loop-alloc.invariant c.take_gain.ensures.adds)

pub returns-in_err-take_pairs-in-Some-clause-adds : goal.returns-in_err-take_pairs-in-Some-clause-adds
returns-in_err-take_pairs-in-Some-clause-adds c =
    adds_then is_tightening _ c.take_pairs.new.core _ c.take_pairs.ensures.adds
    (adds_then is_tightening _ c.loop-alloc.core _ c.loop-alloc.invariant
    (adds_then is_tightening _ c.take_gain.new.core _ c.take_gain.ensures.adds c.take_pairs-in-Some.ensures.adds))

pub returns-clause-adds : goal.returns-clause-adds
returns-clause-adds c = adds_then is_tightening _ c.take_pairs.new.core _ c.take_pairs.ensures.adds c.loop-alloc.invariant
