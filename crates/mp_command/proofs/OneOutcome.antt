-- A request has one outcome at most over the files.
use Rattle.std.proofs.Common.{◌≡◌, ℕ, inl, inr, ap, sym, ◌∙◌, subst, arith}
use Rattle.std.specs.Prelude.{Option, Some, None}
use Rattle.mp_io.specs.Devices.{Files, Text, held}
use Rattle.mp_term.specs.Signature.{IsSignature, Sig}
use Rattle.mp_text.specs.File.{FileTree}
use Rattle.mp_text.specs.Sound.{IsSoundFile}
use Rattle.mp_text.proofs.SoundFile.{IsSoundFile-IsFileOf}
use Rattle.mp_text.proofs.Whole.{fault_of-exact, file_of-exact, file-no_fault}
use Rattle.mp_matches.specs.Listed.{lines}
use Rattle.mp_matches.proofs.PairsListedLaws.{IsPairsListed-same}
use Rattle.mp_program.specs.Program.{Program}
use Rattle.mp_program.specs.Reading.{IsProgramFaultOf, IsProgramOf}
use Rattle.mp_program.specs.declared.fault.ProgramError.{ProgramError}
use Rattle.mp_vm.specs.ProgramList.{IsProgramList}
use Rattle.mp_vm.proofs.ProgramLists.{IsProgramList-unique}
use Rattle.mp_words.specs.Words.{Request}
use Rattle.mp_words.specs.declared.request.Action.{Action}
use Rattle.mp_words.specs.declared.request.Action.TheVariants as action
use Rattle.mp_command.specs.Messages.{fault_line, program_fault_line}
use Rattle.mp_command.specs.Outcome.{IsDone, IsDoneWith, IsOutcomeAt, IsOutcomeOver, IsOutcomeWith, IsOver, Named}
use Rattle.mp_command.specs.Outcome.{Outcome, file_limit, matched, program_limit, program_names, refused}
use Rattle.mp_command.proofs.Matched.{matches_by-exact}
use Rattle.mp_command.proofs.Rewrites.{over_templates-exact}

-- two outcomes that are such are one
abbrev pub IsSingle : (Outcome → Type 0) → Type 0
IsSingle P = (o p : Outcome) → P o → P p → o ≡ p

-- ---- over a file

done-single : (request : Request) (file : FileTree) (program : Option Program) (a : Action) → IsSoundFile file
    → IsSingle (IsDone request file program a)
done-single request file program action.Match sound o p h k =
    (matches_by-exact request.engine request file o sound).0 h
    ∙ sym ((matches_by-exact request.engine request file p sound).0 k)
done-single request file program action.Show sound o p h k = h ∙ sym k
done-single request file program action.Rewrite sound o p h k =
    (over_templates-exact request.max file o sound).0 h ∙ sym ((over_templates-exact request.max file p sound).0 k)
done-single request file program action.Edit sound o p h k = h ∙ sym k
done-single request file program action.Compile sound o p h k = h ∙ sym k
done-single request file None action.Run sound o p h k = h ∙ sym k
done-single request file (Some q) action.Run sound o p h k =
    h.2 ∙ ap (λ text. matched (lines text)) (IsPairsListed-same file (program_names q) (IsProgramList file.sig q)
    (λ t. IsProgramList-unique file.sig q t) None h.0 k.0 h.1 k.1) ∙ sym k.2

-- ---- over the bytes of files

module _ (program_same : (sig : Sig) (bytes : Text) (p q : Program) → IsSignature sig → IsProgramOf sig bytes p
    → IsProgramOf sig bytes q → p ≡ q)
    (faultless : (sig : Sig) (bytes : Text) (p : Program) (e : ProgramError) → IsSignature sig
    → IsProgramOf sig bytes p → IsProgramFaultOf sig bytes e → ⊥)
    (fault_same : (sig : Sig) (bytes : Text) (e f : ProgramError) → IsSignature sig → IsProgramFaultOf sig bytes e
    → IsProgramFaultOf sig bytes f → e ≡ f) where
  with-single : (request : Request) (file : FileTree) (program : Option Named) → IsSoundFile file
      → IsSingle (IsDoneWith request file program)
  with-single request file None sound o p h k = done-single request file None request.action sound o p h k
  with-single request file (Some named) sound o p (inl h) (inl k) =
      let same = program_same file.sig named.bytes k.0 h.0 sound.signature k.1 h.1 in
      done-single request file (Some h.0) request.action sound o p h.2
      (subst (λ q. IsDone request file (Some q) request.action p) same k.2)
  with-single request file (Some named) sound o p (inl h) (inr k) =
      absurd (faultless file.sig named.bytes h.0 k.0 sound.signature h.1 k.1)
  with-single request file (Some named) sound o p (inr h) (inl k) =
      absurd (faultless file.sig named.bytes k.0 h.0 sound.signature k.1 h.1)
  with-single request file (Some named) sound o p (inr h) (inr k) =
      h.2 ∙ ap (λ f. refused 12 (program_fault_line named.name f))
      (fault_same file.sig named.bytes h.0 k.0 sound.signature h.1 k.1) ∙ sym k.2

  bytes-single : (request : Request) (program : Option Named) (bytes : Text)
      → IsSingle (IsOutcomeOver request program bytes)
  bytes-single request program bytes o p (inl h) (inl k) =
      let both : Some k.0 ≡ Some h.0 =
      sym ((file_of-exact bytes k.0).0 k.1) ∙ (file_of-exact bytes h.0).0 h.1 in
      let same : k.0 ≡ h.0 = cc in
      with-single request h.0 program (IsSoundFile-IsFileOf bytes h.0 h.1) o p h.2
      (subst (λ f. IsDoneWith request f program p) same k.2)
  bytes-single request program bytes o p (inl h) (inr k) =
      let both : Some k.0 ≡ None = sym ((fault_of-exact bytes k.0).0 k.1) ∙ file-no_fault bytes h.0 h.1 in
      absurd cc
  bytes-single request program bytes o p (inr h) (inl k) =
      let both : Some h.0 ≡ None = sym ((fault_of-exact bytes h.0).0 h.1) ∙ file-no_fault bytes k.0 k.1 in
      absurd cc
  bytes-single request program bytes o p (inr h) (inr k) =
      let both : Some h.0 ≡ Some k.0 =
      sym ((fault_of-exact bytes h.0).0 h.1) ∙ (fault_of-exact bytes k.0).0 k.1 in
      let same : h.0 ≡ k.0 = cc in
      h.2 ∙ ap (λ f. refused 3 (fault_line request.file f)) same ∙ sym k.2

  -- ---- over the files

  over-single : (limit : ℕ) (name : Text) (With : Text → Outcome → Type 0)
      → ((bytes : Text) → IsSingle (With bytes)) → (found : Option Text) → IsSingle (IsOver limit name With found)
  over-single limit name With each None o p h k = h ∙ sym k
  over-single limit name With each (Some bytes) o p (inl h) (inl k) = h.1 ∙ sym k.1
  over-single limit name With each (Some bytes) o p (inl h) (inr k) = absurd (omega (arith, h.0, k.0))
  over-single limit name With each (Some bytes) o p (inr h) (inl k) = absurd (omega (arith, h.0, k.0))
  over-single limit name With each (Some bytes) o p (inr h) (inr k) = each bytes o p h.1 k.1

  behind-single : (files : Files) (request : Request) (program : Option Text) (bytes : Text)
      → IsSingle (IsOutcomeWith files request program bytes)
  behind-single files request None bytes = bytes-single request None bytes
  behind-single files request (Some name) bytes =
      over-single program_limit name _
      (λ text. bytes-single request (Some (record { name = name; bytes = text })) bytes) (held files name)

  pub outcome-single : (files : Files) (request : Option Request) → IsSingle (IsOutcomeAt files request)
  outcome-single files None o p h k = h ∙ sym k
  outcome-single files (Some request) o p h k =
      over-single file_limit request.file (IsOutcomeWith files request request.program)
      (λ bytes. behind-single files request request.program bytes) (held files request.file) o p h k
