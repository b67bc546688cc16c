use Rattle.std.proofs.Common.{ap, ◌∙◌, arith}
use Rattle.std.specs.Prelude.{◌&&◌}
use Rattle.std.specs.List.{list_all}
use Rattle.std.specs.Char.{is_ascii_digit}
use Rattle.std.proofs.Math.Bool.{and-false}
use Rattle.mp_line.proofs.NumberLaws.{no-number, long-number, is-number, not-number}
use Rattle.mp_line.proofs.numbers.number.Goals as goal

pub returns-then-word-gt-MOST_DIGITS : goal.returns-then-word-gt-MOST_DIGITS
returns-then-word-gt-MOST_DIGITS c = long-number c.args.word.now (omega arith)

pub returns-then-not-begins_right : goal.returns-then-not-begins_right
returns-then-not-begins_right c =
    let digits = list_all is_ascii_digit c.args.word.now in
    not-number c.args.word.now (c.begins_right.ensures
    ∙ (ap (λ v. digits && v) c.if-not-begins_right.true ∙ and-false digits))

pub returns-in_default : goal.returns-in_default
returns-in_default c =
    not-number c.args.word.now (c.begins_right.ensures ∙ ap (λ v. v && c.begins_right.result) c.in_default.ensures)

pub returns-then-value-from : goal.returns-then-value-from
returns-then-value-from c = no-number c.args.word.now (omega (arith, c.in-Some.ensures.1))

pub returns : goal.returns
returns c =
    is-number c.args.word.now c.in-Some.value
    (c.begins_right.ensures ∙ (ap (λ v. v && c.begins_right.result) c.in-Some.ensures.0 ∙ c.if-not-begins_right.false))
    c.in-Some.ensures.1 (omega arith)
