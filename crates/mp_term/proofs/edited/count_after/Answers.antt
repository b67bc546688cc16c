use Rattle.std.proofs.Common.{◌≡◌, ap, length, map, arith}
use Rattle.mp_term.specs.View.{tree}
use Rattle.mp_term.specs.Tree.{trees}
use Rattle.mp_term.specs.Edited.{edited_args}
use Rattle.mp_term.proofs.EditWalkLaws.{length-next, length-passed, passed-to-end}
use Rattle.mp_term.proofs.edited.count_after.Goals as goal

pub loop-next-preserved : goal.loop-next-preserved
loop-next-preserved c =
    let next = c.in-Some.ensures.some in
    let step = length-next c.args.edits.now c.args.position.now tree c.deref-terms.result.now c.loop-next.index
    c.in-Some.next c.in-Some.inner.now next in
    record { fits = omega arith; within = omega (arith, next.high); rest = omega (arith, step) }

pub returns : goal.returns
returns c =
    let es = c.args.edits.now in
    let p = c.args.position.now in
    let terms = c.deref-terms.result.now in
    let i = c.loop-next.index in
    let all : map tree terms ≡ c.args.args.now = cc in
    omega (
      arith,
      ap length (passed-to-end es p tree terms i c.loop-next.invariant.within c.in_default.ensures.none),
      length-passed es p tree terms i (length terms) c.loop-next.invariant.within (omega arith),
      ap (λ ts. length (edited_args es p 0 (trees ts))) all,
    )
