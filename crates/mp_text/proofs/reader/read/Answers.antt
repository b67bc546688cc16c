use Rattle.std.proofs.Common.{map}
use Rattle.std.proofs.lemmas.Result.{err_from_is_err_and}
use Rattle.mp_parser.specs.View.{statement_tree}
use Rattle.mp_text.proofs.Whole.{ReadGives-statements, ReadGives-error}
use Rattle.mp_text.proofs.reader.read.Goals as goal

pub returns-in_err-statements : goal.returns-in_err-statements
returns-in_err-statements c =
    let p = err_from_is_err_and c.from_residual-in_err-statements.result c.from_residual-in_err-statements.ensures.1 in
    rw (p.1, p.2) (ReadGives-error c.args.bytes.now c.in_err-statements.field-0.0 c.in_err-statements.ensures.fault)

pub returns : goal.returns
returns c = ReadGives-statements c.args.bytes.now (map statement_tree c.in_ok-statements.statements.items)
    c.build_file.result c.in_ok-statements.ensures.found (rw c.deref.ensures.value at c.build_file.ensures)
