-- A request has an outcome over the files.
use Rattle.std.proofs.Common.{◌≡◌, ◌<◌, ◌≤◌, ◌⊎◌, ℕ, List, length, inl, inr, refl}
use Rattle.std.specs.Prelude.{Option, Some, None, IfSome}
use Rattle.std.proofs.lemmas.Bool.{cases_lt}
use Rattle.mp_io.specs.Devices.{Files, Text, held}
use Rattle.mp_term.specs.Signature.{IsSignature, Sig}
use Rattle.mp_term.proofs.ListLaws.{all-also}
use Rattle.mp_pattern.specs.Lists.{Pair}
use Rattle.mp_text.specs.Computed.{fault_of}
use Rattle.mp_text.specs.File.{FileTree}
use Rattle.mp_text.specs.Sound.{IsSoundFile, IsSoundSubject}
use Rattle.mp_text.proofs.SoundFile.{IsSoundFile-IsFileOf}
use Rattle.mp_text.proofs.Whole.{fault_of-exact, no_fault-of}
use Rattle.mp_build.specs.declared.fault.TextFault.{TextFault}
use Rattle.mp_matches.specs.Listed.{lines}
use Rattle.mp_matches.proofs.PairsListedLaws.{IsPairsListed-there}
use Rattle.mp_program.specs.Program.{Program}
use Rattle.mp_program.specs.Reading.{IsProgramFaultOf, IsProgramOf, IsValid}
use Rattle.mp_program.specs.declared.fault.ProgramError.{ProgramError}
use Rattle.mp_vm.specs.ProgramList.{IsProgramList}
use Rattle.mp_vm.proofs.ProgramLists.{program_list}
use Rattle.mp_words.specs.Words.{Request}
use Rattle.mp_words.specs.declared.request.Action.{Action}
use Rattle.mp_words.specs.declared.request.Action.TheVariants as action
use Rattle.mp_command.specs.Computed.{matches_by, over_templates, rewritten}
use Rattle.mp_command.specs.Messages.{fault_line, long_line, open_line, program_fault_line, usage_line}
use Rattle.mp_command.specs.Outcome.{IsDone, IsDoneWith, IsOutcomeAt, IsOutcomeOver, IsOutcomeWith, IsOver, IsRun}
use Rattle.mp_command.specs.Outcome.{Named, Outcome, edits_made, file_limit, finished, first_without_template, matched}
use Rattle.mp_command.specs.Outcome.{printed_program, program_limit, program_names, program_or_rules, refused, shown}
use Rattle.mp_command.proofs.Matched.{matches_by-exact}
use Rattle.mp_command.proofs.Rewrites.{over_templates-exact}

-- there is an outcome that is such
abbrev pub IsThere : (Outcome → Type 0) → Type 0
IsThere P = (o : Outcome) × P o

-- ---- over a file

run-there : (file : FileTree) (program : Option Program) → IfSome program (IsValid file.sig) → IsSoundFile file
    → IsThere (IsRun file program)
run-there file None valid sound = (finished, refl)
run-there file (Some p) valid sound =
    let told = IsPairsListed-there file (program_names p) (IsProgramList file.sig p)
    (all-also (IsSoundSubject file.sig) (λ s. (ps : List Pair) × IsProgramList file.sig p s.term ps)
    (λ s h. program_list file.sig p s.term valid h.term.normal) file.subjects sound.subjects) None in
    (matched (lines told.0), (told.0, told.1, refl))

done-there : (request : Request) (file : FileTree) (program : Option Program) (a : Action)
    → IfSome program (IsValid file.sig) → IsSoundFile file → IsThere (IsDone request file program a)
done-there request file program action.Match valid sound =
    let o = matches_by request.engine request file in
    (o, (matches_by-exact request.engine request file o sound).1 refl)
done-there request file program action.Show valid sound = (shown file, refl)
done-there request file program action.Rewrite valid sound =
    let o = over_templates (rewritten file.sig request.max file.rules file.subjects)
    (first_without_template file.rules) in
    (o, (over_templates-exact request.max file o sound).1 refl)
done-there request file program action.Edit valid sound = (edits_made file.sig file.subjects file.edits, refl)
done-there request file program action.Compile valid sound =
    (printed_program file.sig (program_or_rules file program), refl)
done-there request file program action.Run valid sound = run-there file program valid sound

-- ---- over the bytes of files

module _ (settled : (sig : Sig) (bytes : Text) → IsSignature sig
    → ((p : Program) × IsProgramOf sig bytes p) ⊎ ((f : ProgramError) × IsProgramFaultOf sig bytes f)) where
  with-there : (request : Request) (file : FileTree) (program : Option Named) → IsSoundFile file
      → IsThere (IsDoneWith request file program)
  with-there request file None sound = done-there request file None request.action tt sound
  with-there request file (Some named) sound = go (settled file.sig named.bytes sound.signature)
    where
      go : ((p : Program) × IsProgramOf file.sig named.bytes p)
          ⊎ ((f : ProgramError) × IsProgramFaultOf file.sig named.bytes f)
          → IsThere (IsDoneWith request file (Some named))
      go (inl k) =
          let done = done-there request file (Some k.0) request.action (named.bytes, k.1) sound in
          (done.0, inl (k.0, k.1, done.1))
      go (inr k) = (refused 12 (program_fault_line named.name k.0), inr (k.0, k.1, refl))

  bytes-there : (request : Request) (program : Option Named) (bytes : Text)
      → IsThere (IsOutcomeOver request program bytes)
  bytes-there request program bytes = go (fault_of bytes) refl
    where
      go : (fault : Option TextFault) → fault_of bytes ≡ fault → IsThere (IsOutcomeOver request program bytes)
      go (Some fault) e =
          (refused 3 (fault_line request.file fault), inr (fault, (fault_of-exact bytes fault).1 e, refl))
      go None e =
          let read = no_fault-of bytes e in
          let done = with-there request read.0 program (IsSoundFile-IsFileOf bytes read.0 read.1) in
          (done.0, inl (read.0, read.1, done.1))

  -- ---- over the files

  over-there : (limit : ℕ) (name : Text) (With : Text → Outcome → Type 0) → ((bytes : Text) → IsThere (With bytes))
      → (found : Option Text) → IsThere (IsOver limit name With found)
  over-there limit name With each None = (refused 4 (open_line name), refl)
  over-there limit name With each (Some bytes) = go (cases_lt limit (length bytes))
    where
      go : (limit < length bytes) ⊎ (length bytes ≤ limit) → IsThere (IsOver limit name With (Some bytes))
      go (inl long) = (refused 4 (long_line name), inl (long, refl))
      go (inr short) = (let own = each bytes in (own.0, inr (short, own.1)))

  behind-there : (files : Files) (request : Request) (program : Option Text) (bytes : Text)
      → IsThere (IsOutcomeWith files request program bytes)
  behind-there files request None bytes = bytes-there request None bytes
  behind-there files request (Some name) bytes =
      over-there program_limit name
      (λ text. IsOutcomeOver request (Some (record { name = name; bytes = text })) bytes)
      (λ text. bytes-there request (Some (record { name = name; bytes = text })) bytes) (held files name)

  pub outcome-there : (files : Files) (request : Option Request) → IsThere (IsOutcomeAt files request)
  outcome-there files None = (refused 2 usage_line, refl)
  outcome-there files (Some request) =
      over-there file_limit request.file (IsOutcomeWith files request request.program)
      (λ bytes. behind-there files request request.program bytes) (held files request.file)
