-- What an action comes to over the programs and files that were read.
use Rattle.std.proofs.Common.{◌≡◌, ℕ, List, inl, inr, map, refl, ap, sym, subst}
use Rattle.std.specs.Prelude.{◌↔◌, ◌≢◌, ◌∷◌, [], Option, Some, None, Err}
use Rattle.std.specs.Borrow.{Bor}
use Rattle.mp_io.specs.Devices.{Text}
use Rattle.mp_io.specs.Moments.{Sunk}
use Rattle.mp_term.specs.Normal.{IsNormal}
use Rattle.mp_term.specs.Signature.{Sig}
use Rattle.mp_term.specs.Tree.{Tree}
use Rattle.mp_term.proofs.ListLaws.{all-also}
use Rattle.mp_pattern.specs.Lists.{Pair, IsAllList}
use Rattle.mp_pattern.specs.Admission.{Rule}
use Rattle.mp_pattern.specs.CondTree.{Cond}
use Rattle.mp_text.specs.File.{FileTree, Subject}
use Rattle.mp_text.specs.Reading.{IsFaultOf, IsFileOf}
use Rattle.mp_text.specs.Sound.{IsSoundFile, IsSoundSubject}
use Rattle.mp_build.specs.declared.fault.TextFault.{TextFault}
use Rattle.mp_matches.specs.AllListed.{names_of}
use Rattle.mp_matches.specs.Listed.{lines}
use Rattle.mp_matches.specs.PairsListed.{IsPairsListed}
use Rattle.mp_matches.proofs.PairsListedLaws.{IsPairsListed-same, IsPairsListed-there, IsPairsListed-under}
use Rattle.mp_program.specs.Program.{Program}
use Rattle.mp_program.specs.ProgramOf.{rule_of, tests_of}
use Rattle.mp_program.specs.Reading.{IsProgramFaultOf, IsProgramOf, IsValid}
use Rattle.mp_program.specs.declared.fault.ProgramError.{ProgramError}
use Rattle.mp_program.specs.declared.fault.ProgramError.TheVariants as errors
use Rattle.mp_gen.specs.Generated.{generated, rules_form, spelled_rule}
use Rattle.mp_vm.specs.ProgramAnswers.{IsFaultOrMemory, IsProgramOrMemory}
use Rattle.mp_vm.specs.ProgramList.{IsProgramList}
use Rattle.mp_vm.proofs.ProgramLists.{IsProgramList-unique, program_list}
use Rattle.mp_words.specs.Words.{Request}
use Rattle.mp_words.specs.declared.request.Action.{Action}
use Rattle.mp_command.specs.Answers.{Acts, ActsAs}
use Rattle.mp_command.specs.Messages.{fault_line, program_fault_line}
use Rattle.mp_command.specs.Outcome.{IsAccepted, IsDone, IsDoneWith, IsOutcomeOver, Named, Outcome, matched}
use Rattle.mp_command.specs.Outcome.{program_names}
use Rattle.mp_command.specs.Outcome.{refused}
use Rattle.mp_command.specs.Programs.{IsOnlyFault, IsOnlyProgram, IsReadAs}
use Rattle.mp_command.specs.declared.ending.Told.TheVariants as told
use Rattle.mp_command.specs.declared.ending.Ending.{Ending}
use Rattle.mp_command.specs.declared.ending.Ending.TheVariants as ending
use Rattle.mp_command.proofs.Chain.{ActsAs-exact, Appends-nothing, AppendsFront-nothing}
use Rattle.mp_command.proofs.Matched.{all_listed, all_text}

-- ---- what a program accepts

module _ (file : FileTree) (sound : IsSoundFile file) (p : Program) (valid : IsValid file.sig p) where
  -- something is printed
  pub accepted-listed : (text : Text)
      × IsPairsListed file (program_names p) (IsProgramList file.sig p) None text
  accepted-listed =
      IsPairsListed-there file (program_names p) (IsProgramList file.sig p)
      (all-also (IsSoundSubject file.sig) (λ (s : Subject). (qs : List Pair) × IsProgramList file.sig p s.term qs)
      (λ s h. program_list file.sig p s.term valid h.term.normal) file.subjects sound.subjects) None

  -- and one thing only
  pub accepted-exact : (o : Outcome) → IsAccepted file p o ↔ (o ≡ matched (lines accepted-listed.0))
  accepted-exact o = (
    λ h. subst (λ text. o ≡ matched (lines text))
        (IsPairsListed-same file (program_names p) (IsProgramList file.sig p)
        (λ t. IsProgramList-unique file.sig p t) None h.0 accepted-listed.0 h.1 accepted-listed.1) h.2,
    λ e. (accepted-listed.0, accepted-listed.1, e),
  )

-- ---- the program of rules

-- its rules have the names of the rules
names-generated : (sig : Sig) (tests : List Cond) (rules : List Rule)
    → map (λ r. r.name) (map (rule_of sig tests) (map spelled_rule rules)) ≡ names_of rules
names-generated sig tests [] = refl
names-generated sig tests (r ∷ rules) = ap (λ ns. r.name ∷ ns) (names-generated sig tests rules)

-- it accepts what the rules admit
pub generated-listed : (file : FileTree) (sound : IsSoundFile file) (limit : Option ℕ)
    → ((t : Tree) → IsNormal file.sig t → (ps : List Pair) → IsAllList file.sig file.rules t ps
    → IsProgramList file.sig (generated file.sig file.rules) t ps)
    → let p = generated file.sig file.rules in
    IsPairsListed file (program_names p) (IsProgramList file.sig p) limit (all_text file sound limit)
generated-listed file sound limit each =
    let p = generated file.sig file.rules in
    subst (λ ns. IsPairsListed file ns (IsProgramList file.sig p) limit (all_text file sound limit))
    (sym (names-generated file.sig (tests_of file.sig (rules_form file.sig file.rules)) file.rules))
    (IsPairsListed-under file (names_of file.rules) (IsAllList file.sig file.rules) (IsProgramList file.sig p)
    (all-also (IsSoundSubject file.sig)
    (λ (s : Subject). (ps : List Pair) → IsAllList file.sig file.rules s.term ps → IsProgramList file.sig p s.term ps)
    (λ s h. each s.term h.term.normal) file.subjects sound.subjects)
    limit (all_text file sound limit) (all_listed file sound limit))

-- ---- an action

-- the outcome of the action that is asked for is determined
pub done-exact : (request : Request) (file : FileTree) (program : Option Program) (out : Sunk) (e : Ending)
    (action : Action) → request.action ≡ action → (o : Outcome)
    → ((p : Outcome) → IsDone request file program action p ↔ (p ≡ o)) → Acts o out e
    → ActsAs (IsDone request file program request.action) out e
done-exact request file program out e action is o exact acts =
    subst (λ a. ActsAs (IsDone request file program a) out e) (sym is)
    (ActsAs-exact (IsDone request file program action) out e o exact acts)

-- ---- the text of a program

module _ (request : Request) (file : FileTree) (named : Named) (out : Sunk) where
  pub acted-program : (p : Program) (e : Ending) → IsOnlyProgram file.sig named.bytes p
      → ActsAs (IsDone request file (Some p) request.action) out e
      → ActsAs (IsDoneWith request file (Some named)) out e
  acted-program p e only acts = record {
    each = each;
    some = λ t. let found = acts.some t in (found.0, inl (p, only.is, found.1));
    failed = acts.failed;
  }
    where
      each : (o : Outcome) → IsDoneWith request file (Some named) o → Acts o out e
      each o (inl h) =
          acts.each o (subst (λ q. IsDone request file (Some q) request.action o) (only.only h.0 h.1) h.2)
      each o (inr h) = absurd (only.faultless h.0 h.1)

  pub acted-fault : (f : ProgramError) → IsOnlyFault file.sig named.bytes f → out.new ≡ out.old
      → out.faults_after ≡ out.faults → (name : Bor Text) → name.now ≡ named.name
      → ActsAs (IsDoneWith request file (Some named)) out (ending.Told (told.BadProgram name f))
  acted-fault f only same stays name is =
      ActsAs-exact (IsDoneWith request file (Some named)) out (ending.Told (told.BadProgram name f))
      (refused 12 (program_fault_line named.name f)) exact
      (record {
        status = refl;
        line = ap (λ n. program_fault_line n f) is;
        text = Appends-nothing out same;
        stays = stays;
      })
    where
      exact : (o : Outcome) → IsDoneWith request file (Some named) o
          ↔ (o ≡ refused 12 (program_fault_line named.name f))
      exact o = (
        λ h. elim h [
          | inl k ↦ absurd (only.none k.0 k.1)
          | inr k ↦ subst (λ g. o ≡ refused 12 (program_fault_line named.name g)) (only.only k.0 k.1) k.2
        ],
        λ e. inr (f, only.is, e),
      )

-- an answer that isn't want of memory is the fault
module _ (sig : Sig) (bytes : Text) where
  pub only-fault : (e : ProgramError) → (e ≢ errors.Memory → IsProgramFaultOf sig bytes e)
      → ((p : Program) → IsProgramOf sig bytes p → IsProgramOrMemory (Err e) (λ q. q ≡ p))
      → ((f : ProgramError) → IsProgramFaultOf sig bytes f → IsFaultOrMemory (Err e) (λ g. g ≡ f))
      → e ≢ errors.Memory → IsOnlyFault sig bytes e
  only-fault errors.WrongVersion is none only other =
      record { is = is other; only = λ f h. sym (only f h); none = none }
  only-fault (errors.BadLine n) is none only other =
      record { is = is other; only = λ f h. sym (only f h); none = none }
  only-fault (errors.BackwardTarget n) is none only other =
      record { is = is other; only = λ f h. sym (only f h); none = none }
  only-fault (errors.BadReference n) is none only other =
      record { is = is other; only = λ f h. sym (only f h); none = none }
  only-fault (errors.Unbalanced n) is none only other =
      record { is = is other; only = λ f h. sym (only f h); none = none }
  only-fault errors.Memory is none only other = absurd (other refl)

-- ---- the text of a file

module _ (request : Request) (program : Option Named) (bytes : Text) (out : Sunk) where
  pub acted-file : (file : FileTree) (e : Ending) → IsFileOf bytes file
      → ((f : FileTree) → IsFileOf bytes f → file ≡ f) → ((f : TextFault) → IsFaultOf bytes f → ⊥)
      → ActsAs (IsDoneWith request file program) out e → ActsAs (IsOutcomeOver request program bytes) out e
  acted-file file e is only faultless acts = record {
    each = each;
    some = λ t. let found = acts.some t in (found.0, inl (file, is, found.1));
    failed = acts.failed;
  }
    where
      each : (o : Outcome) → IsOutcomeOver request program bytes o → Acts o out e
      each o (inl h) = acts.each o (subst (λ f. IsDoneWith request f program o) (sym (only h.0 h.1)) h.2)
      each o (inr h) = absurd (faultless h.0 h.1)

  pub acted-text_fault : (f : TextFault) (name : Bor Text) → IsFaultOf bytes f
      → ((g : TextFault) → IsFaultOf bytes g → f ≡ g) → ((g : FileTree) → IsFileOf bytes g → ⊥)
      → name.now ≡ request.file → out.new ≡ out.old → out.faults_after ≡ out.faults
      → ActsAs (IsOutcomeOver request program bytes) out (ending.Told (told.BadText name f))
  acted-text_fault f name is only none named same stays =
      ActsAs-exact (IsOutcomeOver request program bytes) out (ending.Told (told.BadText name f))
      (refused 3 (fault_line request.file f)) exact
      (record {
        status = refl;
        line = ap (λ n. fault_line n f) named;
        text = Appends-nothing out same;
        stays = stays;
      })
    where
      exact : (o : Outcome) → IsOutcomeOver request program bytes o ↔ (o ≡ refused 3 (fault_line request.file f))
      exact o = (
        λ h. elim h [
          | inl k ↦ absurd (none k.0 k.1)
          | inr k ↦ subst (λ g. o ≡ refused 3 (fault_line request.file g)) (sym (only k.0 k.1)) k.2
        ],
        λ e. inr (f, is, e),
      )

-- there was no memory, and nothing was written
pub acted-nothing : (IsOne : Outcome → Type 0) (out : Sunk) → out.new ≡ out.old → ActsAs IsOne out ending.Memory
acted-nothing IsOne out same =
    record { each = λ o h. AppendsFront-nothing out o.out same; some = λ t. absurd t; failed = tt }

-- a program file that wasn't read as a program
pub acted-unread : (request : Request) (file : FileTree) (named : Named) (out : Sunk) (e : Ending)
    → IsReadAs file.sig named (Err e) → out.new ≡ out.old → out.faults_after ≡ out.faults
    → ActsAs (IsDoneWith request file (Some named)) out e
acted-unread request file named out (ending.Told (told.BadProgram name f)) h same stays =
    acted-fault request file named out f h.1 same stays name h.0
acted-unread request file named out ending.Memory h same stays =
    acted-nothing (IsDoneWith request file (Some named)) out same
acted-unread request file named out (ending.Told told.Done) h same stays = absurd h
acted-unread request file named out (ending.Told told.Empty) h same stays = absurd h
acted-unread request file named out (ending.Told told.Usage) h same stays = absurd h
acted-unread request file named out (ending.Told (told.BadText name f)) h same stays = absurd h
acted-unread request file named out (ending.Told (told.TooLong name)) h same stays = absurd h
acted-unread request file named out (ending.Told (told.Misspelt at)) h same stays = absurd h
acted-unread request file named out (ending.Told told.NoItem) h same stays = absurd h
acted-unread request file named out (ending.Told (told.NotSyntactic rule)) h same stays = absurd h
acted-unread request file named out (ending.Told (told.NoTemplate rule)) h same stays = absurd h
acted-unread request file named out (ending.Told (told.TurnLimit subject max)) h same stays = absurd h
acted-unread request file named out (ending.Told (told.TooLarge subject nodes)) h same stays = absurd h
acted-unread request file named out (ending.Told (told.TooDeep subject depth)) h same stays = absurd h
acted-unread request file named out ending.CannotWrite h same stays = absurd h
acted-unread request file named out (ending.CannotOpen name) h same stays = absurd h
acted-unread request file named out (ending.CannotRead name) h same stays = absurd h
