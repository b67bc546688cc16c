use Rattle.std.proofs.Common.{sym, ◌∙◌, arith}
use Rattle.mp_line.specs.declared.names.TheConstants.{MAX_KEPT}
use Rattle.mp_line.specs.Finds.{Finds}
use Rattle.mp_line.specs.Lines.{IsCodeLine, IsLineText}
use Rattle.mp_line.specs.LineView.{line_view}
use Rattle.mp_line.proofs.FindsLaws.{IfOk-also}
use Rattle.mp_line.proofs.LineLaws.{code-line-through}
use Rattle.mp_line.proofs.line.read_line.Goals as goal

pub returns-then-begins_with_digit : goal.returns-then-begins_with_digit
returns-then-begins_with_digit c =
    let sig = c.args.sig.now in
    let text = c.args.text.now in
    IfOk-also c.code_line.result (λ o. Finds line_view (IsCodeLine sig c.args.format c.args.own text) o)
    (λ o. Finds line_view (IsLineText sig c.args.format MAX_KEPT c.args.own text) o)
    (λ o h. code-line-through sig c.args.format c.args.own c.requires.number (omega arith) text MAX_KEPT line_view o
    (sym c.begins_with_digit.ensures ∙ c.if-begins_with_digit.true) h)
    c.code_line.ensures

pub returns : goal.returns
returns c = c.word_line.ensures c.args.own c.requires.number (omega arith)
