use Rattle.std.proofs.Common.{map, take}
use Rattle.std.specs.List.{flat_map}
use Rattle.mp_io.specs.Writing.{Puts}
use Rattle.mp_text.specs.File.{subject_tree}
use Rattle.mp_text.specs.PrintedFile.{subject_text}
use Rattle.mp_text.proofs.file_printer.put_subjects.Given as goal

-- the subjects so far were put
abbrev pub invariant-loop-subject : goal.invariant-loop-subject
invariant-loop-subject g l = Puts g.K.Sink l.fn.out l.out
    (flat_map (subject_text l.sig) (map subject_tree (take l.subject-index l.subjects)))
