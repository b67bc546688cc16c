use Rattle.std.proofs.Common.{map, take}
use Rattle.std.specs.Prelude.{codes, decimal}
use Rattle.mp_io.specs.Writing.{Puts}
use Rattle.mp_print.specs.Printing.{separated}
use Rattle.mp_print.proofs.edit_printer.put_indexes.Given as goal

-- the indexes so far were put, with what stands between them
abbrev pub invariant-loop-place : goal.invariant-loop-place
invariant-loop-place g l =
    Puts g.K.Sink l.fn.out l.out (separated (codes ".") (take l.place (map decimal l.indexes)))
