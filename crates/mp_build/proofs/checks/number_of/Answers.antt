use Rattle.std.proofs.Common.{◌≡◌, ◌+◌, ◌-◌, ◌*◌, min, get_or, arith, ap, ◌∙◌}
use Rattle.std.proofs.lemmas.List.{drop_more}
use Rattle.mp_build.proofs.Numbers.{number_after-next}
use Rattle.mp_build.proofs.checks.number_of.Goals as goal

pub loop-digit-preserved : goal.loop-digit-preserved
loop-digit-preserved c =
    let digits = c.args.digits.now in
    let i = c.loop-digit.digit-index in
    let next : c.min-number.result ≡ min (10 * c.loop-digit.number + (get_or digits i 0 - 48)) (c.args.limit + 1) =
    c.min-number.ensures ∙ ap (λ d. min (10 * c.loop-digit.number + d) (c.args.limit + 1))
    (c.from.ensures ∙ c.saturating_sub.ensures) in
    record {
      small = omega arith;
      rest = rw next (number_after-next (c.args.limit + 1) c.loop-digit.number (get_or digits i 0) _ _ digits
          (drop_more digits i 0 (omega arith)) c.loop-digit.invariant.rest);
    }
