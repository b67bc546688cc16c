use Rattle.std.proofs.Common.{◌++◌}
use Rattle.std.specs.Prelude.{codes}
use Rattle.mp_io.specs.Devices.{Text}
use Rattle.mp_print.proofs.Parts.{Puts-got}
use Rattle.mp_program.proofs.printer.put_names.Goals as goal

pub loop-index-preserved : goal.loop-index-preserved
loop-index-preserved g c =
    Puts-got g.K.Sink (λ (x : Text). codes " " ++ x) c.args.names.now c.loop-index.index _ _ _ c.loop-index.invariant
    c.put_name_of.ensures
