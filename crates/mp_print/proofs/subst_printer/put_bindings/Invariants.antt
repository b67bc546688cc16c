use Rattle.std.proofs.Common.{map, take}
use Rattle.std.specs.Prelude.{codes}
use Rattle.mp_io.specs.Writing.{Puts}
use Rattle.mp_subst.specs.View.{binding_of}
use Rattle.mp_print.specs.Printing.{binding_text, separated}
use Rattle.mp_print.proofs.subst_printer.put_bindings.Given as goal

-- the bindings so far were put, with what stands between them
abbrev pub invariant-loop-index : goal.invariant-loop-index
invariant-loop-index g l = Puts g.K.Sink l.fn.out l.out
    (separated (codes ", ") (take l.index (map (binding_text l.sig) (map binding_of l.bindings))))
