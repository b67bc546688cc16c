use Rattle.std.proofs.Common.{◌++◌, take}
use Rattle.std.specs.Prelude.{codes, decimal}
use Rattle.std.specs.List.{flat_map}
use Rattle.mp_io.specs.Writing.{Puts}
use Rattle.mp_program.proofs.printer.put_numbers.Given as goal

-- the numbers so far were put
abbrev pub invariant-loop-number : goal.invariant-loop-number
invariant-loop-number g l = Puts g.K.Sink l.fn.out l.out
    (flat_map (λ n. codes " " ++ decimal n) (take l.number-index l.numbers))
