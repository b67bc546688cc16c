use Rattle.std.proofs.Common.{◌≡◌, ◌+◌, ◌-◌, drop, sym, ap, ◌∙◌, arith}
use Rattle.mp_subst.specs.TrailView.{last_place}
use Rattle.mp_subst.proofs.TrailViewLaws.{last_place-here}
use Rattle.mp_subst.proofs.trail.place_on.Goals as goal

pub returns-then-entries-left-clause-place : goal.returns-then-entries-left-clause-place
returns-then-entries-left-clause-place c =
    let es = c.args.entries.now in
    let left = c.loop-left.left in
    let back : left - 1 + 1 ≡ left = omega (arith, c.loop-left-test.true) in
    sym (last_place-here es c.args.var (left - 1) _ (omega (arith, c.loop-left-test.true, c.loop-left.invariant.within))
    c.if-entries-left.true (ap (λ n. last_place (drop n es) c.args.var) back ∙ c.loop-left.invariant.none))
