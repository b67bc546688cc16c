-- Bytes are one form and one program at most, and have one fault at most.
use Rattle.std.proofs.Common.{◌≡◌, ◌≤◌, ℕ, zero, suc, ◌+◌, List, [], ◌∷◌, ◌++◌, map, length, Some, None, refl, ap, sym}
use Rattle.std.proofs.Common.{◌∙◌, subst, arith, length-append}
use Rattle.std.specs.Prelude.{◌≢◌}
use Rattle.std.proofs.lemmas.List.{take_all}
use Rattle.mp_io.specs.Devices.{Text}
use Rattle.mp_term.specs.Signature.{Sig, IsSignature}
use Rattle.mp_program.specs.declared.fault.ProgramError.{ProgramError}
use Rattle.mp_program.specs.Form.{RuleLine, Form}
use Rattle.mp_program.specs.FormFaults.{form_faults}
use Rattle.mp_program.specs.FormText.{form_lines}
use Rattle.mp_program.specs.Program.{Program}
use Rattle.mp_program.specs.ProgramOf.{program_of}
use Rattle.mp_program.specs.Reading as reading
use Rattle.mp_program.specs.Reading.{IsFormOf, IsProgramOf, IsProgramFaultOf, first_fault}
use Rattle.mp_program.proofs.ListLaws.{first-same}
use Rattle.mp_line.specs.Lines.{Line}
use Rattle.mp_line.specs.LineTexts.{kept_line}
use Rattle.mp_vm.specs.declared.stage.Stage.TheVariants.{Stop}
use Rattle.mp_vm.specs.FormRead.{first_line}
use Rattle.mp_vm.specs.Kept.{kept, kept_form, IsOnlyState, IsOnlyNext}
use Rattle.mp_vm.specs.Machine.{State, start, IsState, IsStateOf, IsNextText}
use Rattle.mp_vm.proofs.AnswerLaws.{formless-one}
use Rattle.mp_vm.proofs.BackLaws.{state-back}
use Rattle.mp_vm.proofs.DraftLaws.{few-code}
use Rattle.mp_vm.proofs.FormReading.{other-formless}
use Rattle.mp_vm.proofs.MachineLaws.{At, form-state}
use Rattle.mp_vm.proofs.NextLines.{kept-line}
use Rattle.mp_vm.proofs.OneReading.{line-one}
use Rattle.mp_vm.proofs.ReadingLaws.{start-only, next-only}

-- ---- rule lines of which all is kept

-- how many variables rule lines have
abbrev variables_of : List RuleLine → ℕ
variables_of [] = 0
variables_of (r ∷ rs) = length r.vars + variables_of rs

kept-all : (most : ℕ) (rs : List RuleLine) → variables_of rs ≤ most → map (kept_line most) rs ≡ rs
kept-all most [] h = refl
kept-all most (r ∷ rs) h =
    let one : kept_line most r ≡ r = ap (λ vars. record { name = r.name; vars = vars; test = r.test })
    (take_all most r.vars (omega (arith, h))) in
    let rest = kept-all most rs (omega (arith, h)) in
    λ i. one i ∷ rest i

kept-form-all : (most : ℕ) (f : Form) → variables_of f.rules ≤ most → kept_form most f ≡ f
kept-form-all most f h = ap (λ rs. record f { rules = rs }) (kept-all most f.rules h)

-- ---- states

-- a list is a front and its last item
unsnoc : {X : Type 0} (x : X) (xs : List X) → (front : List X) × (last : X) × (x ∷ xs ≡ front ++ last ∷ [])
unsnoc x [] = ([], x, refl)
unsnoc x (y ∷ xs) = (let r = unsnoc y xs in (x ∷ r.0, r.1, ap (λ l. x ∷ l) r.2))

module _ (sig : Sig) (held : IsSignature sig) (most : ℕ) where
  -- the next line is read in one way
  pub next-one : (s : State) (line : Text) (l : Line) → IsState sig s → IsNextText sig s.form line l
      → IsOnlyNext sig most s.form line l
  next-one s line l h t = record {
    is = t;
    only = λ m k.
        let short = few-code sig s h in
        line-one sig held s.form.format (suc (length s.form.code)) (omega arith) short line most (kept most m)
        (kept most l) (kept-line sig most s.form line m k) (kept-line sig most s.form line l t);
  }

  -- lines lead to one state
  state-only : (k : ℕ) (read : List Text) → length read ≡ suc k → (s : State) → IsStateOf sig read s
      → IsOnlyState sig most read s
  state-only zero [] n s h = absurd (omega (arith, n))
  state-only zero (x ∷ []) n s h =
      let format = s.form.format in
      let same : (first_line format ∷ []) ≡ (x ∷ []) =
      ap (λ l. l ∷ []) (first-same (first_line format) x _ [] h.lines) in
      let first = subst (λ ls. IsOnlyState sig most ls (start format)) same (start-only sig most format) in
      record { is = h; only = λ z m. first.only z m ∙ sym (first.only s h) }
  state-only zero (x ∷ y ∷ read) n s h = absurd (omega (arith, n))
  state-only (suc k) [] n s h = absurd (omega (arith, n))
  state-only (suc k) (x ∷ read) n s h =
      let r = unsnoc x read in
      let long : length r.0 ≡ suc k =
      (let a = ap length r.2 in let b = length-append r.0 (r.1 ∷ []) in omega (arith, a, b, n)) in
      let some : r.0 ≢ [] = λ e. (let a = ap length e in omega (arith, a, long)) in
      let back = state-back sig s r.0 r.1 some (subst (λ ls. IsStateOf sig ls s) r.2 h) in
      let before = state-only k r.0 long back.before back.is in
      let next = next-only sig most r.0 r.1 back.before back.last some before back.comes
      (next-one back.before r.1 back.last back.is.is back.text) in
      subst (λ ls. IsOnlyState sig most ls s) (sym r.2)
      (subst (IsOnlyState sig most (r.0 ++ r.1 ∷ [])) (sym back.same) next)

module _ (sig : Sig) (held : IsSignature sig) (bytes : Text) where
  -- bytes are one form at most
  pub form-one : (f g : Form) → IsFormOf sig bytes f → IsFormOf sig bytes g → f ≡ g
  form-one f g h k =
      let most = variables_of f.rules + variables_of g.rules in
      let own = state-only sig held most _ (form_lines sig f) refl (At sig Stop f) (form-state sig f h.right) in
      let other = subst (λ ls. IsStateOf sig ls (At sig Stop g)) (sym k.lines ∙ h.lines) (form-state sig g k.right) in
      sym (kept-form-all most f (omega arith))
      ∙ ap (λ (q : State). q.form) (sym (own.only (At sig Stop g) other)) ∙ kept-form-all most g (omega arith)

  -- and so one program
  pub program-one : (p q : Program) → IsProgramOf sig bytes p → IsProgramOf sig bytes q → p ≡ q
  program-one p q h k = h.program ∙ ap (program_of sig) (form-one h.form k.form h.is_form k.is_form) ∙ sym k.program

  -- a program has no fault
  pub program-faultless : (p : Program) (e : ProgramError) → IsProgramOf sig bytes p → IsProgramFaultOf sig bytes e → ⊥
  program-faultless p e h (reading.version v q) = other-formless sig bytes v h.form h.is_form
  program-faultless p e h (reading.line n same bad q) = bad.formless h.form h.is_form
  program-faultless p e h (reading.content form is q) =
      (let none = sym h.faultless ∙ ap (form_faults sig) (form-one h.form form h.is_form is) in
      let wrong : None ≡ Some e = ap first_fault none ∙ q in cc)

  -- bytes have one fault at most
  pub fault-one : (e f : ProgramError) → IsProgramFaultOf sig bytes e → IsProgramFaultOf sig bytes f → e ≡ f
  fault-one e f (reading.version v p) k = formless-one sig bytes e f
      (record { fault = reading.version v p; formless = other-formless sig bytes v }) k
  fault-one e f (reading.line n same bad p) k = formless-one sig bytes e f
      (record { fault = reading.line n same bad p; formless = bad.formless }) k
  fault-one e f (reading.content form is p) (reading.version w q) = absurd (other-formless sig bytes w form is)
  fault-one e f (reading.content form is p) (reading.line n same bad q) = absurd (bad.formless form is)
  fault-one e f (reading.content form is p) (reading.content own k q) =
      (let same : Some e ≡ Some f = sym p ∙ ap (λ g. first_fault (form_faults sig g)) (form-one form own is k) ∙ q in
      cc)
