-- The printed text of rules, subjects, edit statements and whole files.
use Rattle.std.specs.Prelude.{List, [], ◌++◌, Option, Some, None, slice_get, codes}
use Rattle.std.specs.List.{flat_map}
use Rattle.std.specs.Option.{option_map_or}
use Rattle.mp_io.specs.Devices.{Text}
use Rattle.mp_term.specs.Signature.{Sig}
use Rattle.mp_pattern.specs.TemplateTree.{Template}
use Rattle.mp_pattern.specs.CondTree.{Cond}
use Rattle.mp_pattern.specs.Admission.{Rule}
use Rattle.mp_print.specs.Printing.{term_text}
use Rattle.mp_print.specs.PrintedCond.{cond_text}
use Rattle.mp_print.specs.PrintedPattern.{pattern_text}
use Rattle.mp_print.specs.PrintedTemplate.{template_text}
use Rattle.mp_print.specs.PrintedEdits.{edits_text}
use Rattle.mp_print.specs.PrintedSignature.{head_text, statement_text, signature_text}
use Rattle.mp_text.specs.declared.file.EditSet.{EditSet}
use Rattle.mp_text.specs.Subject.{Subject}
use Rattle.mp_text.specs.File.{FileTree}

-- ---- statements

module _ (sig : Sig) where
  -- what stands behind the pattern of a rule: [ -> TEMPLATE]
  abbrev pub result_text : Option Template → Text
  result_text None = []
  result_text (Some x) = codes " -> " ++ template_text sig x

  -- and then: [ if CONDITION];
  abbrev pub ending_text : Option Cond → Text
  ending_text None = codes ";\n"
  ending_text (Some c) = codes " if " ++ (cond_text sig c ++ codes ";\n")

  -- rule NAME: PATTERN[ -> TEMPLATE][ if CONDITION];
  abbrev pub rule_text : Rule → Text
  rule_text r = head_text (codes "rule") r.name
      ++ (pattern_text sig r.pattern ++ (result_text r.template ++ ending_text r.condition))

  -- subject NAME: TERM;
  abbrev pub subject_text : Subject → Text
  subject_text s = statement_text (codes "subject") s.name (term_text sig s.term)

  -- edit NAME: EDIT, EDIT; of the subject of that number; one that isn't there has no name
  abbrev pub edit_set_text : List Subject → EditSet → Text
  edit_set_text ss e =
      statement_text (codes "edit") (option_map_or (λ s. s.name) (slice_get ss e.subject) []) (edits_text sig e.edits)

-- ---- files

-- the operations, the declared kinds, the rules, the subjects and the edit statements, each on a line of its own
abbrev pub file_text : FileTree → Text
file_text f = signature_text f.sig ++ (flat_map (rule_text f.sig) f.rules
    ++ (flat_map (subject_text f.sig) f.subjects ++ flat_map (edit_set_text f.sig f.subjects) f.edits))
