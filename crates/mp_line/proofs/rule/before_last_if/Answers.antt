use Rattle.std.proofs.Common.{◌≡◌, ◌-◌, suc, false, drop, sym, ap, subst, ◌∙◌, arith}
use Rattle.std.proofs.lemmas.List.{take_rest}
use Rattle.std.proofs.Math.Seq.{drop-length}
use Rattle.mp_line.specs.Words.{has_if}
use Rattle.mp_line.proofs.IfLaws.{if-found, if-more}
use Rattle.mp_line.proofs.rule.before_last_if.Goals as goal

pub loop-at-init : goal.loop-at-init
loop-at-init c = record { within = omega arith; behind = ap has_if (drop-length c.args.text.now) }

pub returns-in-Some : goal.returns-in-Some
returns-in-Some c =
    let text = c.args.text.now in
    let at = c.loop-at.at in
    let e : at ≡ suc (at - 1) = omega (arith, c.loop-at-test.true) in (
      _,
      if-found text (at - 1) _ (omega (arith, c.loop-at-test.true, c.loop-at.invariant.within))
          (sym (take_rest text (at - 1)) ∙ c.in-Some.ensures.is)
          (subst (λ n. has_if (drop n text) ≡ false) e c.loop-at.invariant.behind),
    )

pub loop-at-preserved : goal.loop-at-preserved
loop-at-preserved c =
    let text = c.args.text.now in
    let at = c.loop-at.at in
    let e : at ≡ suc (at - 1) = omega (arith, c.loop-at-test.true) in
    record {
      within = omega (arith, c.loop-at.invariant.within);
      behind = if-more text (at - 1) (omega (arith, c.loop-at-test.true, c.loop-at.invariant.within))
          (λ rest h. c.in_default.ensures rest (take_rest text (at - 1) ∙ h))
          (subst (λ n. has_if (drop n text) ≡ false) e c.loop-at.invariant.behind);
    }

pub returns : goal.returns
returns c =
    let text = c.args.text.now in
    let end : c.loop-at.at ≡ 0 = omega (arith, c.loop-at-test.false) in
    subst (λ n. has_if (drop n text) ≡ false) end c.loop-at.invariant.behind
