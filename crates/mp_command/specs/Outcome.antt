-- What a run writes and answers, for these words and these files, memory and faults aside.
use Rattle.std.specs.Prelude.{◌≡◌, ◌⊎◌, ◌<◌, ◌≤◌, ℕ, List, [], ◌∷◌, ◌++◌, length, map, Option, Some, None, is_none}
use Rattle.std.specs.Prelude.{find, not, slice_get, codes, decimal, if◌then◌else◌}
use Rattle.mp_io.specs.Devices.{Files, Text, held}
use Rattle.mp_term.specs.declared.edit.Edit.{Edit}
use Rattle.mp_term.specs.declared.edit_fault.EditFault.{EditFault}
use Rattle.mp_term.specs.declared.edit_fault.EditFault.TheVariants.{TooLarge, TooDeep}
use Rattle.mp_term.specs.Tree.{Tree}
use Rattle.mp_term.specs.Signature.{Sig}
use Rattle.mp_term.specs.Normal.{normal}
use Rattle.mp_term.specs.Edited.{edited}
use Rattle.mp_term.specs.EditFault.{edit_fault}
use Rattle.mp_pattern.specs.Admission.{Rule}
use Rattle.mp_pattern.specs.Syntactic.{is_syntactic}
use Rattle.mp_print.specs.Printing.{term_text}
use Rattle.mp_rewrite.specs.Rewriting.{Rewriting, done, more, exceeded, IsRewriting}
use Rattle.mp_text.specs.declared.file.EditSet.{EditSet}
use Rattle.mp_text.specs.File.{FileTree, Subject}
use Rattle.mp_text.specs.PrintedFile.{file_text}
use Rattle.mp_text.specs.Reading.{IsFaultOf, IsFileOf}
use Rattle.mp_build.specs.declared.fault.TextFault.{TextFault}
use Rattle.mp_program.specs.declared.fault.ProgramError.{ProgramError}
use Rattle.mp_program.specs.FormText.{program_text}
use Rattle.mp_program.specs.Program.{Program}
use Rattle.mp_program.specs.Reading.{IsProgramFaultOf, IsProgramOf}
use Rattle.mp_gen.specs.Generated.{generated}
use Rattle.mp_vm.specs.ProgramList.{IsProgramList}
use Rattle.mp_command.specs.Messages.{deep_line, excess_line, fault_line, large_line, limit_line, long_line}
use Rattle.mp_command.specs.Messages.{no_item_line, no_template_line, not_syntactic_line, open_line, spelling_line}
use Rattle.mp_command.specs.Messages.{program_fault_line, usage_line}
use Rattle.mp_matches.specs.AllListed.{IsAllListed}
use Rattle.mp_matches.specs.PairsListed.{IsPairsListed}
use Rattle.mp_matches.specs.Listed.{IsListed, Listed, lines, misspelt, no_match}
use Rattle.mp_matches.specs.Printed.{has_some}
use Rattle.mp_words.specs.Words.{Request, request_of}
use Rattle.mp_words.specs.declared.request.Action.{Action}
use Rattle.mp_words.specs.declared.request.Action.TheVariants as action
use Rattle.mp_words.specs.declared.request.Engine.{Engine}
use Rattle.mp_words.specs.declared.request.Engine.TheVariants as engine

-- what a run writes, and what it answers
pub record Outcome : Type 0 where
  -- the text for standard output, the text for standard error, and the status
  pub out : Text
  pub err : Text
  pub status : ℕ

-- nothing is written but a line
abbrev pub refused : ℕ → Text → Outcome
refused status line = record { out = []; err = line; status = status }

-- all is done, and no more is written
abbrev pub finished : Outcome
finished = record { out = []; err = []; status = 0 }

-- the text is written, and then what else comes
abbrev pub written_before : Text → Outcome → Outcome
written_before text o = record { out = text ++ o.out; err = o.err; status = o.status }

-- a file of rules has at most so many bytes
abbrev pub file_limit : ℕ
file_limit = 1048576

-- and a file with a program so many
abbrev pub program_limit : ℕ
program_limit = 33554432

-- ---- matches, and the file

-- the lines of the matches, where the status tells whether there is one; or a token that is that of no match
abbrev pub matched : Listed → Outcome
matched (lines text) = record { out = text; err = []; status = if has_some text then 0 else 1 }
matched (misspelt at) = refused 9 (spelling_line at)
matched no_match = refused 9 no_item_line

-- the first rule that isn't syntactic
abbrev pub first_not_syntactic : Sig → List Rule → Option Rule
first_not_syntactic sig = find (λ r. not (is_syntactic sig r.pattern))

-- where a rule isn't syntactic, the first one is told, and else it is so
abbrev pub IsOverSyntactic : (Outcome → Type 0) → Option Rule → Outcome → Type 0
IsOverSyntactic over None o = over o
IsOverSyntactic over (Some rule) o = o ≡ refused 10 (not_syntactic_line rule.name)

-- the lines of the all-lists of a file, all or so many
abbrev pub IsMatchedWhole : FileTree → Option ℕ → Outcome → Type 0
IsMatchedWhole file limit o = (text : Text) × IsAllListed file limit text × (o ≡ matched (lines text))

-- What the matches of a file come to by an engine: rule by rule, all or so many, from the first or from behind a token
-- on; or of all rules together, all or so many, by nets where each rule is syntactic, or by the program of the rules.
abbrev pub IsMatchedBy : Engine → Request → FileTree → Outcome → Type 0
IsMatchedBy engine.One request file o =
    (l : Listed) × IsListed file request.resume request.limit l × (o ≡ matched l)
IsMatchedBy engine.Many request file o = IsMatchedWhole file request.limit o
IsMatchedBy engine.Net request file o =
    IsOverSyntactic (IsMatchedWhole file request.limit) (first_not_syntactic file.sig file.rules) o
IsMatchedBy engine.Program request file o = IsMatchedWhole file request.limit o

-- the printed file
abbrev pub shown : FileTree → Outcome
shown file = record { out = file_text file; err = []; status = 0 }

-- ---- rewriting

-- the first rule that has no template
abbrev pub first_without_template : List Rule → Option Rule
first_without_template = find (λ r. is_none r.template)

-- where a rule has no template, the first one is told, and else it is so
abbrev pub IsOverTemplates : (Outcome → Type 0) → Option Rule → Outcome → Type 0
IsOverTemplates over None o = over o
IsOverTemplates over (Some rule) o = o ≡ refused 11 (no_template_line rule.name)

-- NAME: TERM after TURNS
abbrev pub rewritten_line : Sig → Text → Tree → ℕ → Text
rewritten_line sig name t turns =
    name ++ (codes ": " ++ (term_text sig t ++ (codes " after " ++ (decimal turns ++ 10 ∷ []))))

module _ (sig : Sig) (limit : ℕ) where
  -- A subject's rewriting ends so, and the subjects behind it come to `rest`. Behind a term of which no position is
  -- live it goes on, and else no more is done; a step that exceeds a size has no line.
  abbrev pub rewritten_before : Text → Rewriting → Outcome → Outcome
  rewritten_before name (done t turns) rest = written_before (rewritten_line sig name t turns) rest
  rewritten_before name (more t turns) rest =
      written_before (rewritten_line sig name t turns) (refused 6 (limit_line name limit))
  rewritten_before name (exceeded e turns) rest = refused 7 (excess_line name e)

  -- the rewriting of subjects, in order
  abbrev pub AreRewritten : List Rule → List Subject → Outcome → Type 0
  AreRewritten rules [] o = o ≡ finished
  AreRewritten rules (s ∷ ss) o =
      (w : Rewriting) × (rest : Outcome) × IsRewriting sig rules limit s.term w × AreRewritten rules ss rest
      × (o ≡ rewritten_before s.name w rest)

-- ---- edits

module _ (sig : Sig) where
  -- NAME: TERM
  abbrev pub edited_line : Text → Tree → Text
  edited_line name t = name ++ (codes ": " ++ (term_text sig t ++ 10 ∷ []))

  -- The edits of a subject have this fault, if they have one, they make these terms of it, and the statements behind
  -- come to `rest`. Edits that exceed a size end it, without a line. No other fault is one of a file that was read, and
  -- without a fault it is one term.
  abbrev pub edited_before : Text → Option EditFault → List Tree → Outcome → Outcome
  edited_before name None (t ∷ []) rest = written_before (edited_line name t) rest
  edited_before name (Some (TooLarge nodes)) ts rest = refused 7 (large_line name nodes)
  edited_before name (Some (TooDeep depth)) ts rest = refused 7 (deep_line name depth)
  edited_before name _ ts rest = rest

  -- an edit statement of a subject, where it is there, before what the statements behind come to
  abbrev pub statement_before : List Edit → Option Subject → Outcome → Outcome
  statement_before es None rest = rest
  statement_before es (Some s) rest =
      edited_before s.name (edit_fault sig s.term es) (map (normal sig) (edited es s.term)) rest

  -- edit statements of these subjects, in order
  abbrev pub edits_made : List Subject → List EditSet → Outcome
  edits_made subjects [] = finished
  edits_made subjects (e ∷ es) =
      statement_before e.edits (slice_get subjects e.subject) (edits_made subjects es)

-- ---- programs

-- the printed program
abbrev pub printed_program : Sig → Program → Outcome
printed_program sig p = record { out = program_text sig p; err = []; status = 0 }

-- the names of a program's rules
abbrev pub program_names : Program → List Text
program_names p = map (λ r. r.name) p.rules

-- the lines of what a program accepts on the subjects of a file
abbrev pub IsAccepted : FileTree → Program → Outcome → Type 0
IsAccepted file p o = (text : Text)
    × IsPairsListed file (program_names p) (IsProgramList file.sig p) None text × (o ≡ matched (lines text))

-- what a program that is run accepts; nothing where none is given, though the words of `run` always name one
abbrev pub IsRun : FileTree → Option Program → Outcome → Type 0
IsRun file None o = o ≡ finished
IsRun file (Some p) o = IsAccepted file p o

-- the program that is given, or else that of the rules of the file
abbrev pub program_or_rules : FileTree → Option Program → Program
program_or_rules file None = generated file.sig file.rules
program_or_rules file (Some p) = p

-- ---- the actions

-- What an action of a request comes to over a file, and over a program, where one is given: the matches of the file are
-- printed, as the engine finds them; or the file, or its subjects after rewriting with a limit, or after its edits; or
-- the program, or what it accepts on the subjects of the file.
abbrev pub IsDone : Request → FileTree → Option Program → Action → Outcome → Type 0
IsDone request file program action.Match o = IsMatchedBy request.engine request file o
IsDone request file program action.Show o = o ≡ shown file
IsDone request file program action.Rewrite o =
    IsOverTemplates (AreRewritten file.sig request.max file.rules file.subjects) (first_without_template file.rules) o
IsDone request file program action.Edit o = o ≡ edits_made file.sig file.subjects file.edits
IsDone request file program action.Compile o = o ≡ printed_program file.sig (program_or_rules file program)
IsDone request file program action.Run o = IsRun file program o

-- ---- the run

-- a file's name and its bytes
pub record Named : Type 0 where
  pub name : Text
  pub bytes : Text

-- Over a file, and the bytes of a program file, where one is given: what the action comes to with the program that they
-- are over the file's signature, or the fault that they have.
abbrev pub IsDoneWith : Request → FileTree → Option Named → Outcome → Type 0
IsDoneWith request file None o = IsDone request file None request.action o
IsDoneWith request file (Some named) o =
    ((p : Program) × IsProgramOf file.sig named.bytes p × IsDone request file (Some p) request.action o)
    ⊎ ((fault : ProgramError) × IsProgramFaultOf file.sig named.bytes fault
    × (o ≡ refused 12 (program_fault_line named.name fault)))

-- over the bytes of a file, and a program file, where one is given: what the action comes to with the file that the
-- bytes are, or the fault that they have
abbrev pub IsOutcomeOver : Request → Option Named → Text → Outcome → Type 0
IsOutcomeOver request program bytes o =
    ((file : FileTree) × IsFileOf bytes file × IsDoneWith request file program o)
    ⊎ ((fault : TextFault) × IsFaultOf bytes fault × (o ≡ refused 3 (fault_line request.file fault)))

-- a named file is held and not too long, and over its bytes the outcome is as told; or it is refused
abbrev pub IsOver : ℕ → Text → (Text → Outcome → Type 0) → Option Text → Outcome → Type 0
IsOver limit name over None o = o ≡ refused 4 (open_line name)
IsOver limit name over (Some bytes) o =
    ((limit < length bytes) × (o ≡ refused 4 (long_line name))) ⊎ ((length bytes ≤ limit) × over bytes o)

-- over the bytes of a file: the outcome is that over them alone, or over them and the program file of this name
abbrev pub IsOutcomeWith : Files → Request → Option Text → Text → Outcome → Type 0
IsOutcomeWith files request None bytes o = IsOutcomeOver request None bytes o
IsOutcomeWith files request (Some name) bytes o =
    IsOver program_limit name (λ program. IsOutcomeOver request (Some (record { name = name; bytes = program })) bytes)
    (held files name) o

-- words that make no request are refused; else the outcome is that of the request over the file that it names, and over
-- the program file, where it names one
abbrev pub IsOutcomeAt : Files → Option Request → Outcome → Type 0
IsOutcomeAt files None o = o ≡ refused 2 usage_line
IsOutcomeAt files (Some request) o =
    IsOver file_limit request.file (IsOutcomeWith files request request.program) (held files request.file) o

-- o is the outcome of these words over these files
abbrev pub IsOutcome : List Text → Files → Outcome → Type 0
IsOutcome words files o = IsOutcomeAt files (request_of words) o
