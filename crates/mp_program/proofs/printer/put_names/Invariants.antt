use Rattle.std.proofs.Common.{◌++◌, take}
use Rattle.std.specs.Prelude.{codes}
use Rattle.std.specs.List.{flat_map}
use Rattle.mp_io.specs.Writing.{Puts}
use Rattle.mp_program.proofs.printer.put_names.Given as goal

-- the names so far were put
abbrev pub invariant-loop-index : goal.invariant-loop-index
invariant-loop-index g l = Puts g.K.Sink l.fn.out l.out (flat_map (λ x. codes " " ++ x) (take l.index l.names))
