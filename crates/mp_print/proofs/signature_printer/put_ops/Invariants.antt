use Rattle.std.proofs.Common.{take}
use Rattle.std.specs.List.{flat_map}
use Rattle.mp_io.specs.Writing.{Puts}
use Rattle.mp_print.specs.PrintedSignature.{op_text}
use Rattle.mp_print.proofs.signature_printer.put_ops.Given as goal

-- the declarations of the operations so far were put
abbrev pub invariant-loop-number : goal.invariant-loop-number
invariant-loop-number g l = Puts g.K.Sink l.fn.out l.out (flat_map op_text (take l.number l.sig.ops))
