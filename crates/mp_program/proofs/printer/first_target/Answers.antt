use Rattle.std.proofs.Common.{length, sym, ◌∙◌}
use Rattle.std.proofs.lemmas.Bool.{eqb-true}
use Rattle.mp_walk.specs.InstrView.{plain_instr}
use Rattle.mp_program.proofs.PrintedLines.{first_target-none, first_target-some}
use Rattle.mp_program.proofs.printer.first_target.Goals as goal

pub returns-then-is_empty : goal.returns-then-is_empty
returns-then-is_empty c = first_target-none plain_instr c.args.code.now
    (eqb-true (length c.args.code.now) 0 (sym c.is_empty.ensures ∙ c.if-is_empty.true))

pub returns-else-is_empty : goal.returns-else-is_empty
returns-else-is_empty c = first_target-some plain_instr c.args.code.now (sym c.is_empty.ensures ∙ c.if-is_empty.false)
