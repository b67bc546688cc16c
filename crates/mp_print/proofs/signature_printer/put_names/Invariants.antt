use Rattle.std.proofs.Common.{take}
use Rattle.std.specs.Prelude.{codes}
use Rattle.mp_io.specs.Writing.{Puts}
use Rattle.mp_print.specs.Printing.{separated}
use Rattle.mp_print.proofs.signature_printer.put_names.Given as goal

-- the names so far were put, with what stands between them
abbrev pub invariant-loop-index : goal.invariant-loop-index
invariant-loop-index g l = Puts g.K.Sink l.fn.out l.out (separated (codes " ") (take l.index l.names))
