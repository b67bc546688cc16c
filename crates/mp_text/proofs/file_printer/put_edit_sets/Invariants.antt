use Rattle.std.proofs.Common.{take}
use Rattle.std.specs.List.{flat_map}
use Rattle.mp_io.specs.Writing.{Puts}
use Rattle.mp_text.specs.PrintedFile.{edit_set_text}
use Rattle.mp_text.proofs.file_printer.put_edit_sets.Given as goal

-- the edit statements so far were put
abbrev pub invariant-loop-set : goal.invariant-loop-set
invariant-loop-set g l = Puts g.K.Sink l.fn.out l.out
    (flat_map (edit_set_text l.sig l.subjects) (take l.set-index l.sets))
