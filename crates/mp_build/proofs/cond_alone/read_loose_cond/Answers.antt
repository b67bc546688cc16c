use Rattle.std.proofs.Common.{None}
use Rattle.mp_pattern.specs.CondView.{cond_tree}
use Rattle.mp_syntax.specs.Begins.{OfCondition}
use Rattle.mp_build.specs.AloneCondition.{IsPlacedConditionOf, condition_alone_faults, placed_cond_of}
use Rattle.mp_build.specs.PlacedReading.{placed_reading}
use Rattle.mp_build.proofs.AloneLaws.{answers-found, answers-only, answers-fault, answers-only_fault}
use Rattle.mp_build.proofs.FirstToken.{IsReading-placed_reading}
use Rattle.mp_build.proofs.cond_alone.read_loose_cond.Goals as goal

pub returns-clause-found : goal.returns-clause-found
returns-clause-found c =
    answers-found OfCondition IsPlacedConditionOf placed_reading IsReading-placed_reading
    (condition_alone_faults c.args.sig.now None)
    (placed_cond_of c.args.sig.now) cond_tree c.args.bytes.now c.cond_of_text.result
    c.cond_of_text.ensures

pub returns-clause-only : goal.returns-clause-only
returns-clause-only c =
    answers-only OfCondition IsPlacedConditionOf placed_reading IsReading-placed_reading
    (condition_alone_faults c.args.sig.now None)
    (placed_cond_of c.args.sig.now) cond_tree c.args.bytes.now c.cond_of_text.result
    c.cond_of_text.ensures

pub returns-clause-fault : goal.returns-clause-fault
returns-clause-fault c =
    answers-fault OfCondition IsPlacedConditionOf placed_reading IsReading-placed_reading
    (condition_alone_faults c.args.sig.now None)
    (placed_cond_of c.args.sig.now) cond_tree c.args.bytes.now c.cond_of_text.result
    c.cond_of_text.ensures

pub returns-clause-only_fault : goal.returns-clause-only_fault
returns-clause-only_fault c =
    answers-only_fault OfCondition IsPlacedConditionOf placed_reading IsReading-placed_reading
    (condition_alone_faults c.args.sig.now None)
    (placed_cond_of c.args.sig.now) cond_tree c.args.bytes.now c.cond_of_text.result
    c.cond_of_text.ensures
