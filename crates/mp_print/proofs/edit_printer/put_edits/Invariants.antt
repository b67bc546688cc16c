use Rattle.std.proofs.Common.{map, take}
use Rattle.std.specs.Prelude.{codes}
use Rattle.mp_io.specs.Writing.{Puts}
use Rattle.mp_print.specs.Printing.{separated}
use Rattle.mp_print.specs.PrintedEdits.{edit_text}
use Rattle.mp_print.proofs.edit_printer.put_edits.Given as goal

-- the edits so far were put, with what stands between them
abbrev pub invariant-loop-index : goal.invariant-loop-index
invariant-loop-index g l =
    Puts g.K.Sink l.fn.out l.out (separated (codes ", ") (take l.index (map (edit_text l.sig) l.edits)))
