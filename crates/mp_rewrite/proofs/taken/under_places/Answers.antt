use Rattle.std.proofs.Common.{refl, map, arith}
use Rattle.std.proofs.lemmas.List.{length-map}
use Rattle.std.proofs.lemmas.Option.{slice_get_within}
use Rattle.mp_term.specs.View.{tree}
use Rattle.mp_rewrite.proofs.FirstRedexes.{mapped-at}
use Rattle.mp_rewrite.proofs.CancellationSteps.{under-here, under-step}
use Rattle.mp_rewrite.proofs.taken.under_places.Goals as goal

pub returns-in-At : goal.returns-in-At
returns-in-At c =
    let xs = c.args.args.now in
    let i = c.loop-index.index in
    let a = c.index-args-index.result in
    under-here c.args.op.0 c.args.inner.0 (map tree xs) i c.in-At.found (tree a)
    (mapped-at tree xs (map tree xs) i a refl c.loop-index-test.true c.index-args-index.is) c.in-At.ensures
    c.loop-index.invariant

pub loop-index-preserved : goal.loop-index-preserved
loop-index-preserved c =
    let xs = c.args.args.now in
    let i = c.loop-index.index in
    let a = c.index-args-index.result in
    under-step c.args.op.0 c.args.inner.0 (map tree xs) i (tree a)
    (mapped-at tree xs (map tree xs) i a refl c.loop-index-test.true c.index-args-index.is) c.in-Nowhere.ensures
    c.loop-index.invariant

pub returns : goal.returns
returns c = λ i v e. c.loop-index.invariant i v (omega (
  arith,
  slice_get_within (map tree c.args.args.now) i _ e,
  length-map c.args.args.now tree,
  c.loop-index-test.false,
)) e
