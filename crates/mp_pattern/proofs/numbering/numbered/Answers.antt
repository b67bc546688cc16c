use Rattle.std.proofs.Common.{◌≡◌, ◌≤◌, ◌-◌, ◌∙◌, true, false, Err, sym, ap, true≢false, take, drop, length, arith}
use Rattle.std.proofs.Common.{rules}
use Rattle.std.specs.Prelude.{decimal}
use Rattle.mp_term.specs.Names.{is_name}
use Rattle.mp_pattern.specs.NetTokens.{numbered}
use Rattle.mp_pattern.proofs.NetTokenLists.{is_name-numbered, length-decimal-word, slice-numbered}
use Rattle.mp_pattern.proofs.numbering.numbered.Goals as goal

pub write_digits-start-requires : goal.write_digits-start-requires
write_digits-start-requires c = search (rules, length-decimal-word)

pub overflow_sub-start : goal.overflow_sub-start
overflow_sub-start c =
    let short : length (decimal c.args.number) ≤ 10 = length-decimal-word c.args.number c.ranges.number.fits in
    omega (arith, short, c.write_digits-start.ensures.start)

pub unreachable-requires : goal.unreachable-requires
unreachable-requires c =
    let start = c.write_digits-start.result in
    let bytes = c.write_digits-start.new.buf in
    let text : take (11 - (start - 1)) (drop (start - 1) bytes) ≡ numbered c.args.number =
    slice-numbered bytes start c.args.number c.ranges.number.fits (search rules) c.write_digits-start.ensures.start
    c.write_digits-start.ensures.before c.write_digits-start.ensures.written in
    let refused = c.new.ensures.spelling.0 (c.in-Err-Spelling.is ∙ ap Err c.in-Err-Spelling.field-0-is) in
    let named = is_name-numbered c.args.number c.ranges.number.fits in
    let no : true ≡ false = sym named ∙ ap is_name (sym text) ∙ refused in
    absurd (true≢false no)

pub returns-in-Ok : goal.returns-in-Ok
returns-in-Ok c =
    c.in-Ok.ensures.ok ∙ slice-numbered c.write_digits-start.new.buf c.write_digits-start.result c.args.number
    c.ranges.number.fits (search rules) c.write_digits-start.ensures.start
    c.write_digits-start.ensures.before c.write_digits-start.ensures.written
