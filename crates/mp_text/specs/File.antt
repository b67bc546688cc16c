-- A rule file as plain data.
use Rattle.std.specs.Prelude.{List}
use Rattle.mp_term.specs.View.{tree}
use Rattle.mp_term.specs.Signature.{Sig}
use Rattle.mp_pattern.specs.Admission.{Rule}
use Rattle.mp_text.specs.declared.file.Subject as code_subject
use Rattle.mp_text.specs.declared.file.EditSet.{EditSet}
use Rattle.mp_text.specs.declared.file.File as code_file
pub use Rattle.mp_text.specs.Subject.{Subject}

-- the subject as plain data
abbrev pub subject_tree : code_subject.Subject → Subject
subject_tree s = record { name = s.name; term = tree s.term }

-- a file: its operations and kinds, its rules, its subjects, and its edit statements
pub record FileTree : Type 0 where
  pub sig : Sig
  pub rules : List Rule
  pub subjects : List Subject
  pub edits : List EditSet

-- the file as plain data
abbrev pub file_tree : code_file.File → FileTree
file_tree f = record { sig = f.sig; rules = f.rules; subjects = f.subjects; edits = f.edits }
