use Rattle.std.proofs.Common.{◌+◌, refl, arith, map}
use Rattle.std.proofs.lemmas.List.{length-map}
use Rattle.mp_term.specs.View.{tree}
use Rattle.mp_rewrite.proofs.FirstRedexes.{mapped-at}
use Rattle.mp_rewrite.proofs.CancellationSteps.{pair-here, pair-step}
use Rattle.mp_rewrite.proofs.taken.pair_place.Goals as goal

pub returns-then-eq : goal.returns-then-eq
returns-then-eq c =
    let xs = c.args.args.now in
    let i = c.loop-place.place in
    let a = c.index-args-place.result in
    let b = c.index-args-place-in-loop-place.result in
    pair-here (map tree xs) i (tree a) (tree b) c.eq.result
    (mapped-at tree xs (map tree xs) i a refl (omega (arith, c.loop-place-test.true)) c.index-args-place.is)
    (mapped-at tree xs (map tree xs) (i + 1) b refl c.loop-place-test.true c.index-args-place-in-loop-place.is)
    c.eq.ensures c.if-eq.true c.loop-place.invariant

pub loop-place-preserved : goal.loop-place-preserved
loop-place-preserved c =
    let xs = c.args.args.now in
    let i = c.loop-place.place in
    let a = c.index-args-place.result in
    let b = c.index-args-place-in-loop-place.result in
    pair-step (map tree xs) i (tree a) (tree b) c.eq.result
    (mapped-at tree xs (map tree xs) i a refl (omega (arith, c.loop-place-test.true)) c.index-args-place.is)
    (mapped-at tree xs (map tree xs) (i + 1) b refl c.loop-place-test.true c.index-args-place-in-loop-place.is)
    c.eq.ensures c.if-eq.false c.loop-place.invariant

pub returns : goal.returns
returns c = λ k l e. c.loop-place.invariant k
    (omega (arith, l, length-map c.args.args.now tree, c.loop-place-test.false)) e
