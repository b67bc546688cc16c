-- Bytes are a program, or they have a fault.
use Rattle.std.proofs.Common.{◌≡◌, ◌^◌, ℕ, suc, true, List, [], ◌∷◌, ◌++◌, length, inl, inr, refl, ap, sym}
use Rattle.std.proofs.Common.{◌∙◌, subst, append_assoc, append-nil}
use Rattle.std.specs.Prelude.{◌≢◌, ◌⊎◌, codes}
use Rattle.mp_io.specs.Devices.{Text}
use Rattle.mp_term.specs.Signature.{Sig, IsSignature}
use Rattle.mp_pattern.specs.declared.limits.TheConstants.{MAX_RULES}
use Rattle.mp_program.specs.declared.fault.ProgramError.{ProgramError}
use Rattle.mp_program.specs.declared.fault.ProgramError.TheVariants.{WrongVersion, BadLine}
use Rattle.mp_program.specs.declared.format.Format.{Format}
use Rattle.mp_program.specs.declared.format.Format.TheVariants.{One, Two}
use Rattle.mp_program.specs.Form.{Form}
use Rattle.mp_program.specs.FormFaults.{form_faults}
use Rattle.mp_program.specs.FormText.{lines_of, lines_text}
use Rattle.mp_program.specs.Program.{Program}
use Rattle.mp_program.specs.ProgramOf.{program_of}
use Rattle.mp_program.specs.Reading as reading
use Rattle.mp_program.specs.Reading.{is_numeral, IsFormOf, IsBadLine, IsOtherVersion, IsProgramOf, IsProgramFaultOf}
use Rattle.mp_program.specs.Reading.{first_fault}
use Rattle.mp_program.proofs.ListLaws.{first-same}
use Rattle.mp_line.specs.Lines.{Line, op_line, kind_line, test_line, rule_line, code_line, begin_line, instr_line}
use Rattle.mp_line.specs.Lines.{stop_line}
use Rattle.mp_vm.specs.declared.stage.Stage.{Stage}
use Rattle.mp_vm.specs.declared.stage.Stage.TheVariants.{Ops, Kinds, Tests, Rules, Code, Begin, Instrs, Stop}
use Rattle.mp_vm.specs.FormRead.{first_line}
use Rattle.mp_vm.specs.Kept.{IsOnlyState}
use Rattle.mp_vm.specs.Machine.{State, start, IsState, may_follow, HasRoom, MayCome, IsNextText, step}
use Rattle.mp_vm.proofs.BadLines.{bad-next, bad-open, bad-unended, bad-first, bad-empty}
use Rattle.mp_vm.proofs.Decisions.{Decided, decided-by, decided-both, decided-not, decided-true, decided-less}
use Rattle.mp_vm.proofs.Decisions.{decided-text, decided-behind}
use Rattle.mp_vm.proofs.DraftLaws.{comes-kept, kept-comes}
use Rattle.mp_vm.proofs.LineDecisions.{decided-line}
use Rattle.mp_vm.proofs.OneForm.{next-one}
use Rattle.mp_vm.proofs.ReadingLaws.{start-only, next-only, whole-form}
use Rattle.mp_vm.proofs.ValueDecisions.{decided-format}

-- ---- the next line

decided-room : (f : Form) (l : Line) → Decided (HasRoom f l)
decided-room f op_line = inl tt
decided-room f kind_line = inl tt
decided-room f (test_line c) = decided-both (decided-format f.format Two) (decided-less (length f.tests) MAX_RULES)
decided-room f (rule_line r) = decided-less (length f.rules) MAX_RULES
decided-room f code_line = inl tt
decided-room f (begin_line d) = inl tt
decided-room f (instr_line i) = decided-less (suc (suc (length f.code))) (2 ^ 32)
decided-room f stop_line = inl tt

decided-comes : (s : State) (l : Line) → Decided (MayCome s l)
decided-comes s l = decided-by (λ h. record { follows = h.0; room = h.1 }) (λ h. (h.follows, h.room))
    (decided-both (decided-true (may_follow l s.stage s.form.begin)) (decided-room s.form l))

decided-stop : (st : Stage) → Decided (st ≡ Stop)
decided-stop Ops = inr (λ e. cc)
decided-stop Kinds = inr (λ e. cc)
decided-stop Tests = inr (λ e. cc)
decided-stop Rules = inr (λ e. cc)
decided-stop Code = inr (λ e. cc)
decided-stop Begin = inr (λ e. cc)
decided-stop Instrs = inr (λ e. cc)
decided-stop Stop = inl refl

-- ---- the format

-- the number of another format
abbrev IsOther : Text → Type 0
IsOther number = (is_numeral number ≡ true) × ((number ≢ codes "1") × (number ≢ codes "2"))

decided-other : (number : Text) → Decided (IsOther number)
decided-other number =
    decided-both (decided-true (is_numeral number))
    (decided-both (decided-not (decided-text number (codes "1"))) (decided-not (decided-text number (codes "2"))))

decided-version : (bytes : Text) → Decided (IsOtherVersion bytes)
decided-version bytes = go (lines_of bytes) refl
  where
    go : (ls : List Text) → lines_of bytes ≡ ls → Decided (IsOtherVersion bytes)
    go [] e = inr (λ v. (let first = sym e ∙ v.first in absurd cc))
    go (line ∷ rest) e =
        decided-by
        (λ h. record {
          number = h.0;
          rest = rest;
          first = e ∙ ap (λ l. l ∷ rest) h.1;
          numeral = h.2.0;
          not_one = h.2.1.0;
          not_two = h.2.1.1;
        })
        (λ v. (
          v.number,
          first-same line (codes "matchpy program " ++ v.number) rest v.rest (sym e ∙ v.first),
          (v.numeral, (v.not_one, v.not_two)),
        ))
        (decided-behind (codes "matchpy program ") IsOther line (λ number _. decided-other number))

module _ (sig : Sig) (held : IsSignature sig) where
  -- a line may come next, as what it is read as, or none that it is read as may
  abbrev IsNext : State → Text → Type 0
  IsNext s line = (l : Line) × IsNextText sig s.form line l × MayCome s l

  decided-next : (s : State) → IsState sig s → (line : Text) → Decided (IsNext s line)
  decided-next s is line = go (decided-line sig held s.form line)
    where
      by_kept : (l : Line) → IsNextText sig s.form line l → Decided (MayCome s l) → Decided (IsNext s line)
      by_kept l t (inl comes) = inl (l, t, comes)
      by_kept l t (inr never) = inr (λ h. never (kept-comes 0 s l
          (subst (MayCome s) ((next-one sig held 0 s line l is t).only h.0 h.1) (comes-kept 0 s h.0 h.2))))

      go : Decided ((l : Line) × IsNextText sig s.form line l) → Decided (IsNext s line)
      go (inl h) = by_kept h.0 h.1 (decided-comes s h.0)
      go (inr never) = inr (λ h. never (h.0, h.1))

  -- ---- all lines

  module _ (bytes : Text) where
    -- the bytes are a form, or one of their lines is the first bad one
    abbrev IsRead : Type 0
    IsRead = ((f : Form) × IsFormOf sig bytes f) ⊎ ((n : ℕ) × IsBadLine sig bytes n)

    at_end : (s : State) → IsOnlyState sig 0 (lines_of bytes) s → Decided (s.stage ≡ Stop)
        → Decided (lines_text (lines_of bytes) ≡ bytes) → IsRead
    at_end s h (inl stop) (inl ended) = inl (s.form, whole-form sig 0 bytes s h stop ended)
    at_end s h (inl stop) (inr unended) = inr (suc (length (lines_of bytes)), bad-unended sig 0 bytes s h unended)
    at_end s h (inr early) d = inr (suc (length (lines_of bytes)), bad-open sig 0 bytes s h early)

    longer-some : (read : List Text) (line : Text) → read ++ line ∷ [] ≢ []
    longer-some [] line e = cc
    longer-some (x ∷ read) line e = cc

    by_next : (read rest : List Text) (line : Text) (s : State) → lines_of bytes ≡ read ++ line ∷ rest → read ≢ []
        → IsOnlyState sig 0 read s → Decided (IsNext s line) → (IsNext s line → IsRead) → IsRead
    by_next read rest line s e some h (inl k) go = go k
    by_next read rest line s e some h (inr never) go =
        inr (suc (length read), bad-next sig 0 bytes read rest line s e some h (λ l t comes. never (l, t, comes)))

    walk : (read rest : List Text) → lines_of bytes ≡ read ++ rest → read ≢ [] → (s : State)
        → IsOnlyState sig 0 read s → IsRead
    walk read [] e some s h = at_end s (subst (λ r. IsOnlyState sig 0 r s) (sym (e ∙ append-nil read)) h)
        (decided-stop s.stage) (decided-text (lines_text (lines_of bytes)) bytes)
    walk read (line ∷ rest) e some s h =
        by_next read rest line s e some h (decided-next s h.is.is line)
        (λ k. walk (read ++ line ∷ []) rest (e ∙ sym (append_assoc read (line ∷ []) rest)) (longer-some read line)
        (step line k.0 s)
        (next-only sig 0 read line s k.0 some h k.2 (next-one sig held 0 s line k.0 h.is.is k.1)))

    from_first : (lines : List Text) → lines_of bytes ≡ lines → IsRead
    from_first [] e = inr (1, bad-empty sig 0 bytes e)
    from_first (line ∷ rest) e = go (decided-text (first_line One) line) (decided-text (first_line Two) line)
      where
        named : (f : Format) → first_line f ≡ line → IsRead
        named f same = walk (line ∷ []) rest e (λ none. cc) (start f)
            (subst (λ l. IsOnlyState sig 0 (l ∷ []) (start f)) same (start-only sig 0 f))

        neither : (first_line One ≡ line → ⊥) → (first_line Two ≡ line → ⊥) → (f : Format) → line ≡ first_line f → ⊥
        neither one two One same = one (sym same)
        neither one two Two same = two (sym same)

        go : Decided (first_line One ≡ line) → Decided (first_line Two ≡ line) → IsRead
        go (inl one) d = named One one
        go (inr never) (inl two) = named Two two
        go (inr never) (inr none) = inr (1, bad-first sig 0 bytes line rest e (neither never none))

    -- ---- the program or its fault

    abbrev IsSettled : Type 0
    IsSettled = ((p : Program) × IsProgramOf sig bytes p) ⊎ ((f : ProgramError) × IsProgramFaultOf sig bytes f)

    by_faults : (form : Form) → IsFormOf sig bytes form → (fs : List ProgramError) → form_faults sig form ≡ fs
        → IsSettled
    by_faults form is [] e =
        inl (program_of sig form, record { form = form; is_form = is; faultless = e; program = refl })
    by_faults form is (f ∷ fs) e = inr (f, reading.content form is (ap first_fault e))

    settled : Decided (IsOtherVersion bytes) → IsRead → IsSettled
    settled (inl v) r = inr (WrongVersion, reading.version v refl)
    settled (inr never) (inl h) = by_faults h.0 h.1 (form_faults sig h.0) refl
    settled (inr never) (inr h) = inr (BadLine h.0, reading.line h.0 never h.1 refl)

    pub program-or-fault : IsSettled
    program-or-fault = settled (decided-version bytes) (from_first (lines_of bytes) refl)
