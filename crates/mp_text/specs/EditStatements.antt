-- Edit statements: the edits of a subject that one stands for, and its faults.
use Rattle.std.specs.Prelude.{ℕ, ◌||◌, not, List, [], ◌∷◌, ◌++◌, length, map, flat_map, nat_le}
use Rattle.std.specs.Prelude.{Option, Some, None, option_and_then, slice_get, position}
use Rattle.std.specs.Str.{bytes_eq}
use Rattle.mp_term.specs.Signature.{Sig}
use Rattle.mp_term.specs.EditFault.{edit_fault}
use Rattle.mp_pattern.specs.declared.limits.TheConstants.{MAX_EDIT_STATEMENTS}
use Rattle.mp_parser.specs.Syntax.{Spot, Change, Statement, OpOf, KindOf, RuleOf, SubjectOf, EditOf}
use Rattle.mp_build.specs.declared.fault.TextKind.TheVariants.{TooMany, UnknownSubject}
use Rattle.mp_build.specs.declared.fault.TextFault.{TextFault}
use Rattle.mp_build.specs.Names.{is_among, subject_names}
use Rattle.mp_build.specs.Build.{head_number}
use Rattle.mp_build.specs.Checks.{fault_if}
use Rattle.mp_build.specs.Edits.{edit_of, is_large_edit, made_faults, new_term_faults}
use Rattle.mp_text.specs.declared.file.EditSet.{EditSet}
use Rattle.mp_text.specs.Subject.{Subject}
use Rattle.mp_text.specs.Subjects.{subjects_of}

-- ---- edit statements

-- the number of the first subject of the name, where there is one
abbrev pub subject_number : List Statement → Spot → Option ℕ
subject_number earlier name = position (bytes_eq name.text) (subject_names earlier)

-- what a statement behind earlier ones adds to the edit statements of the file
abbrev pub edit_sets_of : Sig → List Statement → Statement → List EditSet
edit_sets_of sig earlier (OpOf name least more flags) = []
edit_sets_of sig earlier (KindOf name members) = []
edit_sets_of sig earlier (RuleOf name p x c) = []
edit_sets_of sig earlier (SubjectOf name t) = []
edit_sets_of sig earlier (EditOf name changes) =
    record { subject = head_number (subject_number earlier name); edits = map (edit_of sig) changes } ∷ []

-- the edit statements among these, behind earlier ones
abbrev pub edit_sets_behind : Sig → List Statement → List Statement → List EditSet
edit_sets_behind sig earlier [] = []
edit_sets_behind sig earlier (s ∷ ss) = edit_sets_of sig earlier s ++ edit_sets_behind sig (earlier ++ s ∷ []) ss

-- the edit statements among these
abbrev pub edit_sets : Sig → List Statement → List EditSet
edit_sets sig = edit_sets_behind sig []

-- ---- faults

module _ (sig : Sig) where
  -- what hinders the edits of the subject, where there is one
  abbrev pub edit_faults_on : List Change → Option Subject → List TextFault
  edit_faults_on cs None = []
  edit_faults_on cs (Some s) = made_faults cs (edit_fault sig s.term (map (edit_of sig) cs))

  -- The faults of an edit statement behind earlier statements: at the name of its subject, there are as many edit
  -- statements as may be, or it is too large; no earlier subject has the name; then those of the new terms; and then
  -- what hinders its edits of the subject.
  abbrev pub edit_statement_faults : List Statement → Spot → List Change → List TextFault
  edit_statement_faults earlier name cs =
      fault_if (nat_le MAX_EDIT_STATEMENTS (length (edit_sets sig earlier)) || is_large_edit cs) TooMany name.place
      ++ (fault_if (not (is_among name.text (subject_names earlier))) UnknownSubject name.place
      ++ (flat_map (new_term_faults sig) cs
      ++ edit_faults_on cs (option_and_then (slice_get (subjects_of sig earlier)) (subject_number earlier name))))
