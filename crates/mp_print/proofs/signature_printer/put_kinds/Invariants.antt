use Rattle.std.proofs.Common.{◌-◌, take}
use Rattle.std.specs.List.{flat_map}
use Rattle.mp_io.specs.Writing.{Puts}
use Rattle.mp_print.specs.PrintedSignature.{kind_text}
use Rattle.mp_print.proofs.signature_printer.put_kinds.Given as goal

-- the declarations of the kinds so far were put
abbrev pub invariant-loop-number : goal.invariant-loop-number
invariant-loop-number g l = Puts g.K.Sink l.fn.out l.out (flat_map kind_text (take (l.number - 1) l.sig.kinds))
