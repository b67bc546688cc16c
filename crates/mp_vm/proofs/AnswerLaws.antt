-- What reading a program answers: the program of the bytes or their fault, and no other.
use Rattle.std.proofs.Common.{◌≡◌, ◌<◌, ◌≤◌, ℕ, zero, suc, List, [], ◌∷◌, ◌++◌, map, length, take, Some, None, inl, inr}
use Rattle.std.proofs.Common.{refl, ap, sym, ◌∙◌, arith, subst, append_assoc}
use Rattle.std.specs.Prelude.{◌≢◌, ◌⊎◌, Result, Ok, Err, IfOk, IfErr, IsErrAnd}
use Rattle.std.proofs.lemmas.Bool.{cases_lt}
use Rattle.mp_io.specs.Devices.{Text}
use Rattle.mp_term.specs.Signature.{Sig}
use Rattle.mp_term.proofs.ListLaws.{both-empty}
use Rattle.mp_pattern.specs.declared.limits.TheConstants.{MAX_VARIABLES}
use Rattle.mp_program.specs.declared.fault.ProgramError.{ProgramError}
use Rattle.mp_program.specs.declared.fault.ProgramError.TheVariants.{WrongVersion, BadLine, BackwardTarget}
use Rattle.mp_program.specs.declared.fault.ProgramError.TheVariants.{BadReference, Unbalanced, Memory}
use Rattle.mp_program.specs.declared.program.Program as code
use Rattle.mp_program.specs.Form.{Form}
use Rattle.mp_program.specs.FormFaults.{form_faults, faults_of_declarations, faults_of_tests, faults_of_rules}
use Rattle.mp_program.specs.FormFaults.{faults_of_unused, faults_of_begin, faults_of_code, first_rule_line}
use Rattle.mp_program.specs.FormText.{lines_of}
use Rattle.mp_program.specs.Program.{Program}
use Rattle.mp_program.specs.ProgramOf.{program_of}
use Rattle.mp_program.specs.ProgramView.{program_view}
use Rattle.mp_program.specs.Reading as reading
use Rattle.mp_program.specs.Reading.{IsFormOf, Begins, IsBadLine, IsProgramOf, IsProgramFaultOf, first_fault}
use Rattle.mp_line.specs.LineTexts.{kept_line}
use Rattle.mp_vm.specs.FormRead.{IsFormFault}
use Rattle.mp_vm.specs.ProgramAnswers.{IsMade, IsProgramOrMemory, IsFaultOrMemory}
use Rattle.mp_vm.proofs.CheckedLaws.{first_fault-behind, first_fault-before}
use Rattle.mp_vm.proofs.FormReading.{other-formless}
use Rattle.mp_vm.proofs.ProgramReading.{kept-whole}

-- ---- one line is the first bad one

-- a shorter front of a list begins a longer one
take-split : {X : Type 0} (m n : ℕ) (xs : List X) → m ≤ n → (rest : List X) × (take n xs ≡ take m xs ++ rest)
take-split zero n xs h = (take n xs, refl)
take-split (suc m) zero xs h = absurd (omega (arith, h))
take-split (suc m) (suc n) [] h = ([], refl)
take-split (suc m) (suc n) (x ∷ xs) h =
    let r = take-split m n xs (omega (arith, h)) in
    (r.0, ap (λ l. x ∷ l) r.1)

module _ (sig : Sig) (bytes : Text) where
  begins-front : (m n : ℕ) (ls : List Text) → m ≤ n → Begins sig (take n ls) → Begins sig (take m ls)
  begins-front m n ls h b =
      let r = take-split m n ls h in
      record {
        form = b.form;
        rest = r.0 ++ b.rest;
        right = b.right;
        split = b.split ∙ ap (λ l. l ++ b.rest) r.1 ∙ append_assoc (take m ls) r.0 b.rest;
      }

  not-before : (m n : ℕ) (h : IsBadLine sig bytes m) (k : IsBadLine sig bytes n) → h.before < k.before → ⊥
  not-before m n h k less =
      let w = k.within in
      h.stops (omega (arith, less, w))
      (begins-front (suc h.before) k.before (lines_of bytes) (omega (arith, less)) k.begins)

  one-bad : (m n : ℕ) → IsBadLine sig bytes m → IsBadLine sig bytes n → m ≡ n
  one-bad m n h k = go (cases_lt h.before k.before) (cases_lt k.before h.before)
    where
      go : (h.before < k.before) ⊎ (k.before ≤ h.before) → (k.before < h.before) ⊎ (h.before ≤ k.before) → m ≡ n
      go (inl less) other = absurd (not-before m n h k less)
      go (inr most) (inl less) = absurd (not-before n m k h less)
      go (inr most) (inr least) = omega (arith, h.number, k.number, most, least)

  -- ---- the bytes have one fault

  pub formless-one : (e f : ProgramError) → IsFormFault sig bytes e → IsProgramFaultOf sig bytes f → e ≡ f
  formless-one e f h k = go h.fault k
    where
      go : IsProgramFaultOf sig bytes e → IsProgramFaultOf sig bytes f → e ≡ f
      go (reading.version v p) (reading.version w q) = p ∙ sym q
      go (reading.version v p) (reading.line n same bad q) = absurd (same v)
      go (reading.version v p) (reading.content form is q) = absurd (h.formless form is)
      go (reading.line m same bad p) (reading.version w q) = absurd (same w)
      go (reading.line m same bad p) (reading.line n other wrong q) = p ∙ ap BadLine (one-bad m n bad wrong) ∙ sym q
      go (reading.line m same bad p) (reading.content form is q) = absurd (h.formless form is)
      go (reading.content form is p) k = absurd (h.formless form is)

  -- ---- answers

  -- the fault of bytes that are no form, or the first fault of each form that they are
  pub data IsErrorOf (e : ProgramError) : Type 0 where
    formless : IsFormFault sig bytes e → IsErrorOf e
    faulty : (form : Form) → IsFormOf sig bytes form
        → ((f : Form) → IsFormOf sig bytes f → first_fault (form_faults sig f) ≡ Some e) → IsErrorOf e

  -- the bytes are a form, and the program is that of each form that they are; or it is their fault, or want of memory
  abbrev pub IsAnswer : Result code.Program ProgramError → Type 0
  IsAnswer (Ok p) = (form : Form) × IsFormOf sig bytes form × ((f : Form) → IsFormOf sig bytes f
      → (form_faults sig f ≡ []) × (program_view p ≡ program_of sig f))
  IsAnswer (Err e) = e ≢ Memory → IsErrorOf e

  pub answer-found : (r : Result code.Program ProgramError) → IsAnswer r
      → IfOk r (λ p. IsProgramOf sig bytes (program_view p))
  answer-found (Ok p) h =
      let k = h.2 h.0 h.1 in
      record { form = h.0; is_form = h.1; faultless = k.0; program = k.1 }
  answer-found (Err e) h = tt

  pub answer-fault : (r : Result code.Program ProgramError) → IsAnswer r
      → IfErr r (λ e. e ≢ Memory → IsProgramFaultOf sig bytes e)
  answer-fault (Ok p) h = tt
  answer-fault (Err e) h = λ other. go (h other)
    where
      go : IsErrorOf e → IsProgramFaultOf sig bytes e
      go (formless k) = k.fault
      go (faulty form is each) = reading.content form is (each form is)

  -- bytes that are a program have no error
  no-error : (p : Program) (e : ProgramError) → IsProgramOf sig bytes p → IsErrorOf e → ⊥
  no-error p e k (formless h) = h.formless k.form k.is_form
  no-error p e k (faulty form is each) =
      (let wrong : None ≡ Some e = ap first_fault (sym k.faultless) ∙ each k.form k.is_form in cc)

  pub answer-only : (r : Result code.Program ProgramError) → IsAnswer r → (p : Program) → IsProgramOf sig bytes p
      → IsProgramOrMemory r (λ q. q ≡ p)
  answer-only (Ok q) h p k = (h.2 k.form k.is_form).1 ∙ sym k.program
  answer-only (Err WrongVersion) h p k = no-error p WrongVersion k (h (λ e. cc))
  answer-only (Err (BadLine n)) h p k = no-error p (BadLine n) k (h (λ e. cc))
  answer-only (Err (BackwardTarget n)) h p k = no-error p (BackwardTarget n) k (h (λ e. cc))
  answer-only (Err (BadReference n)) h p k = no-error p (BadReference n) k (h (λ e. cc))
  answer-only (Err (Unbalanced n)) h p k = no-error p (Unbalanced n) k (h (λ e. cc))
  answer-only (Err Memory) h p k = tt

  -- bytes with a fault have no other error
  one-error : (e f : ProgramError) → IsErrorOf e → IsProgramFaultOf sig bytes f → e ≡ f
  one-error e f (formless h) k = formless-one e f h k
  one-error e f (faulty form is each) (reading.version v q) = absurd (other-formless sig bytes v form is)
  one-error e f (faulty form is each) (reading.line n same bad q) = absurd (bad.formless form is)
  one-error e f (faulty form is each) (reading.content own k q) =
      (let same : Some e ≡ Some f = sym (each own k) ∙ q in cc)

  pub answer-only_fault : (r : Result code.Program ProgramError) → IsAnswer r → (f : ProgramError)
      → IsProgramFaultOf sig bytes f → IsFaultOrMemory r (λ g. g ≡ f)
  answer-only_fault (Ok p) h f k = go k
    where
      go : IsProgramFaultOf sig bytes f → ⊥
      go (reading.version v q) = other-formless sig bytes v h.0 h.1
      go (reading.line n same bad q) = bad.formless h.0 h.1
      go (reading.content form is q) = (let wrong : None ≡ Some f = ap first_fault (sym (h.2 form is).0) ∙ q in cc)
  answer-only_fault (Err WrongVersion) h f k = one-error WrongVersion f (h (λ e. cc)) k
  answer-only_fault (Err (BadLine n)) h f k = one-error (BadLine n) f (h (λ e. cc)) k
  answer-only_fault (Err (BackwardTarget n)) h f k = one-error (BackwardTarget n) f (h (λ e. cc)) k
  answer-only_fault (Err (BadReference n)) h f k = one-error (BadReference n) f (h (λ e. cc)) k
  answer-only_fault (Err (Unbalanced n)) h f k = one-error (Unbalanced n) f (h (λ e. cc)) k
  answer-only_fault (Err Memory) h f k = tt

  -- ---- the parts

  -- an error that is passed on
  answer-passed : (r : Result code.Program ProgramError) (e : ProgramError) → IsErrAnd r (λ x. x ≡ e)
      → (e ≢ Memory → IsErrorOf e) → IsAnswer r
  answer-passed (Ok p) e same h = absurd same
  answer-passed (Err x) e same h = subst (λ y. y ≢ Memory → IsErrorOf y) (sym same) h

  -- the bytes are no form
  pub answer-formless : (r : Result code.Program ProgramError) (e : ProgramError) → IsErrAnd r (λ x. x ≡ e)
      → (e ≢ Memory → IsFormFault sig bytes e) → IsAnswer r
  answer-formless r e same h = answer-passed r e same (λ other. formless (h other))

  -- the faults that are looked for before the instructions
  abbrev pub faults_before : Form → List ProgramError
  faults_before f = faults_of_declarations sig f
      ++ (faults_of_tests sig f ++ (faults_of_rules sig f ++ faults_of_unused sig f))

  faults-parts : (f : Form) → form_faults sig f ≡ faults_before f ++ (faults_of_begin sig f ++ faults_of_code sig f)
  faults-parts f = sym (five (faults_of_declarations sig f) (faults_of_tests sig f) (faults_of_rules sig f)
      (faults_of_unused sig f) (faults_of_begin sig f ++ faults_of_code sig f))
    where
      five : (a b c d e : List ProgramError) → (a ++ (b ++ (c ++ d))) ++ e ≡ a ++ (b ++ (c ++ (d ++ e)))
      five a b c d e =
          append_assoc a (b ++ (c ++ d)) e
          ∙ ap (λ l. a ++ l) (append_assoc b (c ++ d) e ∙ ap (λ l. b ++ l) (append_assoc c d e))

  module _ (form : Form) (is : IsFormOf sig bytes form) where
    -- the declarations, the tests or the rules are wrong
    pub answer-lines : (r : Result code.Program ProgramError) (e : ProgramError) → IsErrAnd r (λ x. x ≡ e)
        → ((f : Form) → IsFormOf sig bytes f → e ≢ Memory → first_fault (faults_before f) ≡ Some e) → IsAnswer r
    answer-lines r e same h = answer-passed r e same (λ other. faulty form is (λ f k.
        ap first_fault (faults-parts f)
        ∙ first_fault-before (faults_before f) (faults_of_begin sig f ++ faults_of_code sig f) e (h f k other)))

    -- they are right
    pub answer-made : (r : Result code.Program ProgramError)
        → ((f : Form) → IsFormOf sig bytes f → faults_before f ≡ [])
        → ((f : Form) → IsFormOf sig bytes f → IsMade sig f r) → IsAnswer r
    answer-made (Ok p) none made = (
      form,
      is,
      λ f k. (
        faults-parts f ∙ ap (λ l. l ++ (faults_of_begin sig f
            ++ faults_of_code sig f)) (none f k) ∙ (made f k).0,
        (made f k).1,
      ),
    )
    answer-made (Err e) none made = λ other. faulty form is (λ f k. ap first_fault (faults-parts f)
        ∙ first_fault-behind (faults_before f) (faults_of_begin sig f ++ faults_of_code sig f) (none f k)
        ∙ made f k other)

  -- and so the rules are kept whole
  pub whole-rules : (most : ℕ) → MAX_VARIABLES ≤ most → (f : Form) → faults_before f ≡ []
      → map (kept_line most) f.rules ≡ f.rules
  whole-rules most enough f none =
      let a = both-empty (faults_of_declarations sig f) _ none in
      let b = both-empty (faults_of_tests sig f) _ a.1 in
      let c = both-empty (faults_of_rules sig f) _ b.1 in
      kept-whole most (length f.tests) enough [] (first_rule_line f) f.rules c.0
