use Rattle.std.proofs.Common.{◌≡◌, ◌<◌, ◌+◌, ◌-◌, ◌*◌, ◌^◌, get_or, arith, ap, sym, ◌∙◌}
use Rattle.std.proofs.lemmas.List.{drop_more}
use Rattle.std.proofs.Math.Nat.{pow-le-pow_right}
use Rattle.mp_build.specs.Names.{number_after}
use Rattle.mp_line.proofs.NumberLaws.{number-below, first-digit}
use Rattle.mp_line.proofs.numbers.value_of.Goals as goal

pub loop-digit-preserved : goal.loop-digit-preserved
loop-digit-preserved c =
    let word = c.args.word.now in
    let i = c.loop-digit.digit-index in
    let digit = get_or word i 0 in
    let rest = drop_more word i 0 (omega arith) in
    let is = sym c.is_ascii_digit.ensures.value ∙ c.if-not-is_ascii_digit.false in
    let next : 10 * c.loop-digit.value + c.from.result ≡ 10 * c.loop-digit.value + (digit - 48) =
    ap (λ d. 10 * c.loop-digit.value + d) (c.from.ensures ∙ c.saturating_sub.ensures) in
    let below : 10 * c.loop-digit.value + (digit - 48) < 10 ^ (i + 1) =
    number-below c.loop-digit.value digit i is c.loop-digit.invariant.below in
    let most = pow-le-pow_right {n = 10} (omega arith) {i = i + 1} {j = 10} (omega arith) in
    record {
      below = rw next below;
      small = omega (arith, next, below, most);
      digits = first-digit digit _ _ rest is ∙ c.loop-digit.invariant.digits;
      rest = rw next (sym (ap (number_after c.loop-digit.value) rest) ∙ c.loop-digit.invariant.rest);
    }
