-- Reading the lines of bytes: the first line, the lines behind it one after another, and the end.
use Rattle.std.proofs.Common.{◌≡◌, ◌<◌, ◌≤◌, ℕ, suc, ◌+◌, ◌-◌, List, [], ◌∷◌, ◌++◌, length, take, true, refl, ap, sym}
use Rattle.std.proofs.Common.{◌∙◌}
use Rattle.std.proofs.Common.{arith, subst, length-append, append_assoc, append-nil}
use Rattle.std.specs.Prelude.{◌^◌, ◌≢◌, min, nat_eq, codes, decimal, Err}
use Rattle.std.specs.Fmt.{digits}
use Rattle.std.proofs.lemmas.Bool.{eqb-true}
use Rattle.std.proofs.lemmas.List.{append_cancel_left}
use Rattle.std.proofs.Math.Seq.{take-append_seam}
use Rattle.std.proofs.lemmas.List.{nil_from_length}
use Rattle.mp_io.specs.Devices.{Text}
use Rattle.mp_term.specs.Signature.{Sig}
use Rattle.mp_build.proofs.Faultless.{some-behind}
use Rattle.mp_program.specs.declared.fault.ProgramError.{ProgramError}
use Rattle.mp_program.specs.declared.fault.ProgramError.TheVariants.{WrongVersion, BadLine, BackwardTarget}
use Rattle.mp_program.specs.declared.fault.ProgramError.TheVariants.{BadReference, Unbalanced, Memory}
use Rattle.mp_program.specs.declared.format.Format.{Format}
use Rattle.mp_program.specs.declared.format.Format.TheVariants.{One, Two}
use Rattle.mp_program.specs.Form.{format_number, Form}
use Rattle.mp_program.specs.FormText.{lines_of, lines_text}
use Rattle.mp_program.specs.Reading as reading
use Rattle.mp_program.specs.Reading.{is_numeral, IsFormOf, Begins, IsOtherVersion, IsBadLine}
use Rattle.mp_program.proofs.LineLaws.{lines_text-append}
use Rattle.mp_program.proofs.ListLaws.{first-same}
use Rattle.mp_vm.specs.declared.draft.Draft.{Draft}
use Rattle.mp_vm.specs.declared.stage.Stage.TheVariants.{Stop}
use Rattle.mp_vm.specs.Machine.{State, IsStateOf, start}
use Rattle.mp_vm.specs.Kept.{kept_state, IsOnlyState}
use Rattle.mp_vm.specs.DraftView.{IsDraftOf, HasRead}
use Rattle.mp_vm.specs.FirstLine.{IsFirstLine}
use Rattle.mp_vm.specs.FormRead.{first_line, NamesOther, NamesNone, IsNamed, IsDraftOfBytes, IsFormFault}
use Rattle.mp_vm.proofs.MachineLaws.{At, form-state}
use Rattle.mp_vm.proofs.ReadingLaws.{start-only, whole-form, only-begins}
use Rattle.mp_vm.proofs.BadLines.{take-further, form-begins, bad-open, bad-unended, bad-first, bad-empty}
use Rattle.mp_vm.proofs.DraftLaws.{lines-within}

pub empty-text : (t : Text) → nat_eq (length t) 0 ≡ true → t ≡ []
empty-text [] e = refl
empty-text (c ∷ t) e = (let n = eqb-true (length (c ∷ t)) 0 e in absurd (omega (arith, n)))

-- ---- the first line

pub decimal-one : decimal 1 ≡ codes "1"
unfolding digits
decimal-one = refl

pub decimal-two : decimal 2 ≡ codes "2"
unfolding digits
decimal-two = refl

-- the line of a format names a number
numeral-format : (f : Format) → is_numeral (decimal (format_number f)) ≡ true
numeral-format One = ap is_numeral decimal-one
numeral-format Two = ap is_numeral decimal-two

-- and no other format
not-other : (f : Format) (number : Text) → first_line f ≡ codes "matchpy program " ++ number → number ≢ codes "1"
    → number ≢ codes "2" → ⊥
not-other One number e one two =
    one (sym (append_cancel_left (codes "matchpy program ") (decimal 1) number e) ∙ decimal-one)
not-other Two number e one two =
    two (sym (append_cancel_left (codes "matchpy program ") (decimal 2) number e) ∙ decimal-two)

-- bytes whose first line names a format name no other one
format-version : (bytes : Text) (f : Format) (rest : List Text) → lines_of bytes ≡ first_line f ∷ rest
    → IsOtherVersion bytes → ⊥
format-version bytes f rest e v =
    not-other f v.number (first-same _ (codes "matchpy program " ++ v.number) rest v.rest (sym e ∙ v.first)) v.not_one
    v.not_two

module _ (sig : Sig) where
  -- bytes that name another format are no form
  pub other-formless : (bytes : Text) → IsOtherVersion bytes → (f : Form) → IsFormOf sig bytes f → ⊥
  other-formless bytes v f h = format-version bytes f.format _ h.lines v

  pub first-empty : (bytes : Text) → lines_of bytes ≡ [] → IsFormFault sig bytes (BadLine 1)
  first-empty bytes e =
      let bad = bad-empty sig 0 bytes e in
      record {
        fault = reading.line 1
            (λ v. let wrong : [] ≡ (codes "matchpy program " ++ v.number) ∷ v.rest = sym e ∙ v.first in cc) bad refl;
        formless = bad.formless;
      }

  first-other : (bytes line rest : Text) → IsFirstLine bytes line rest → NamesOther line
      → IsFormFault sig bytes WrongVersion
  first-other bytes line rest h n =
      let v : IsOtherVersion bytes = record {
        number = n.number;
        rest = lines_of rest;
        first = h.lines ∙ ap (λ l. l ∷ lines_of rest) n.text;
        numeral = n.numeral;
        not_one = n.not_one;
        not_two = n.not_two;
      } in
      record { fault = reading.version v refl; formless = other-formless bytes v }

  first-none : (bytes line rest : Text) → IsFirstLine bytes line rest → NamesNone line
      → IsFormFault sig bytes (BadLine 1)
  first-none bytes line rest h none =
      let bad = bad-first sig 0 bytes line (lines_of rest) h.lines
      (λ f e. none (decimal (format_number f)) e (numeral-format f)) in
      record {
        fault = reading.line 1
            (λ v. none v.number (first-same line _ (lines_of rest) v.rest (sym h.lines ∙ v.first)) v.numeral) bad refl;
        formless = bad.formless;
      }

  -- the fault of a first line
  pub first-fault : (bytes line rest : Text) → IsFirstLine bytes line rest → (e : ProgramError) → IsNamed line (Err e)
      → IsFormFault sig bytes e
  first-fault bytes line rest h WrongVersion n = first-other bytes line rest h n
  first-fault bytes line rest h (BadLine m) n =
      subst (λ k. IsFormFault sig bytes (BadLine k)) (sym n.0) (first-none bytes line rest h n.1)
  first-fault bytes line rest h (BackwardTarget m) n = absurd n
  first-fault bytes line rest h (BadReference m) n = absurd n
  first-fault bytes line rest h (Unbalanced m) n = absurd n
  first-fault bytes line rest h Memory n = absurd n

  module _ (most : ℕ) (bytes : Text) where
    -- lines of the bytes are read, the rest is left, and the next line has the number
    pub record IsReading (d : Draft) (rest : Text) (line : ℕ) : Type 0 where
      pub read : List Text
      pub some : read ≢ []
      pub has : HasRead sig most d read
      pub parts : bytes ≡ lines_text read ++ rest
      pub lines : lines_of bytes ≡ read ++ lines_of rest
      pub number : line ≡ suc (length read)

    pub reading-start : (line rest : Text) (f : Format) (d : Draft) → IsFirstLine bytes line rest → line ≡ first_line f
        → IsDraftOf most d (start f) → IsReading d rest 2
    reading-start line rest f d h e own = record {
      read = line ∷ [];
      some = λ n. cc;
      has = record {
        state = start f;
        only = subst (λ l. IsOnlyState sig most (l ∷ []) (start f)) (sym e) (start-only sig most f);
        draft = own;
      };
      parts = h.parts ∙ sym (ap (λ t. t ++ rest) (append-nil (line ++ 10 ∷ [])) ∙ append_assoc line (10 ∷ []) rest);
      lines = h.lines;
      number = refl;
    }

    -- the first line of what is read names a format
    reading-version : (d : Draft) (rest : Text) (number : ℕ) → IsReading d rest number → IsOtherVersion bytes → ⊥
    reading-version d rest number h v =
        let s = h.has.state in
        let e = h.lines ∙ ap (λ ls. ls ++ lines_of rest) (sym h.has.only.is.lines) in
        format-version bytes s.form.format _ e v

    module _ (d : Draft) (rest text behind : Text) (number : ℕ) (h : IsReading d rest number)
        (first : IsFirstLine rest text behind) where
      -- the bytes in two parts behind the next line
      next-parts : bytes ≡ lines_text (h.read ++ text ∷ []) ++ behind
      next-parts =
          let one : lines_text (text ∷ []) ≡ text ++ 10 ∷ [] = append-nil (text ++ 10 ∷ []) in
          h.parts ∙ ap (λ t. lines_text h.read ++ t) (first.parts ∙ sym (append_assoc text (10 ∷ []) behind)
          ∙ ap (λ t. t ++ behind) (sym one)) ∙ sym (append_assoc (lines_text h.read) (lines_text (text ∷ [])) behind)
          ∙ ap (λ t. t ++ behind) (sym (lines_text-append h.read (text ∷ [])))

      next-lines : lines_of bytes ≡ (h.read ++ text ∷ []) ++ lines_of behind
      next-lines = h.lines ∙ ap (λ ls. h.read ++ ls) first.lines
          ∙ sym (append_assoc h.read (text ∷ []) (lines_of behind))

      -- the lines that are read with the next one are no longer than the bytes
      pub next-few : length (lines_text (h.read ++ text ∷ [])) ≤ length bytes
      next-few =
          let e = ap length next-parts in
          let n = length-append (lines_text (h.read ++ text ∷ [])) behind in
          omega (arith, e, n)

      pub reading-next : (new : Draft) (line : ℕ) → length bytes < 2 ^ 32 - 1
          → HasRead sig most new (h.read ++ text ∷ []) → line ≡ min (number + 1) (2 ^ 32 - 1)
          → IsReading new behind line
      reading-next new line few has e = record {
        read = h.read ++ text ∷ [];
        some = some-behind h.read text;
        has = has;
        parts = next-parts;
        lines = next-lines;
        number =
            let n = length-append h.read (text ∷ []) in
            let w = lines-within (h.read ++ text ∷ []) in
            omega (arith, few, next-few, n, w, h.number, e);
      }

      -- right lines do not begin with the next one too
      pub reading-bad : (Begins sig (h.read ++ text ∷ []) → ⊥) → IsFormFault sig bytes (BadLine number)
      reading-bad refused =
          let e = h.lines ∙ ap (λ ls. h.read ++ ls) first.lines in
          let bad : IsBadLine sig bytes (suc (length h.read)) = record {
            before = length h.read;
            number = refl;
            within = (let n = ap length e in omega (arith, n, length-append h.read (text ∷ lines_of behind)));
            begins = subst (Begins sig)
                (sym (ap (take (length h.read)) e ∙ take-append_seam h.read (text ∷ lines_of behind)))
                (only-begins sig most h.read h.has.state h.has.only);
            stops = λ _ b. refused (subst (Begins sig) (ap (take (suc (length h.read))) e
                ∙ take-further h.read (lines_of behind) text) b);
            formless = λ f k. refused
                (form-begins sig most f bytes (h.read ++ text ∷ []) (lines_of behind) k next-lines);
          } in
          subst (λ n. IsFormFault sig bytes (BadLine n)) (sym h.number) (record {
            fault = reading.line (suc (length h.read)) (reading-version d rest number h) bad refl;
            formless = bad.formless;
          })

    -- the draft of a state is that of each state of which the same is kept
    draft-same : (d : Draft) (s z : State) → kept_state most z ≡ kept_state most s → IsDraftOf most d s
        → IsDraftOf most d z
    draft-same d s z e h = record {
      stage = h.stage ∙ sym (ap (λ (q : State). q.stage) e);
      format = h.format ∙ sym (ap (λ (q : State). q.form.format) e);
      declarations = h.declarations ∙ sym (ap (λ (q : State). length q.form.ops + length q.form.kinds) e);
      declared = h.declared
          ∙ sym (ap (λ (q : State). length (lines_text q.form.ops) + length (lines_text q.form.kinds)) e);
      tests = h.tests ∙ sym (ap (λ (q : State). q.form.tests) e);
      rules = h.rules ∙ sym (ap (λ (q : State). q.form.rules) e);
      begin = h.begin ∙ sym (ap (λ (q : State). q.form.begin) e);
      code = h.code ∙ sym (ap (λ (q : State). q.form.code) e);
    }

    module _ (d : Draft) (rest : Text) (number : ℕ) (h : IsReading d rest number) (none : lines_of rest ≡ []) where
      all-read : lines_of bytes ≡ h.read
      all-read = h.lines ∙ ap (λ ls. h.read ++ ls) none ∙ append-nil h.read

      all-only : IsOnlyState sig most (lines_of bytes) h.has.state
      all-only = subst (λ ls. IsOnlyState sig most ls h.has.state) (sym all-read) h.has.only

      end-fault : IsBadLine sig bytes (suc (length (lines_of bytes))) → IsFormFault sig bytes (BadLine number)
      end-fault bad =
          let same : number ≡ suc (length (lines_of bytes)) = h.number ∙ ap (λ (ls : List Text). suc (length ls))
          (sym all-read) in
          subst (λ n. IsFormFault sig bytes (BadLine n)) (sym same) (record {
            fault = reading.line (suc (length (lines_of bytes))) (reading-version d rest number h) bad refl;
            formless = bad.formless;
          })

      -- the lines end too early
      pub reading-open : (d.stage ≡ Stop → ⊥) → IsFormFault sig bytes (BadLine number)
      reading-open early = end-fault
          (bad-open sig most bytes h.has.state all-only (λ e. early (h.has.draft.stage ∙ e)))

      -- the last one has no line feed
      pub reading-unended : (rest ≡ [] → ⊥) → IsFormFault sig bytes (BadLine number)
      reading-unended some = end-fault (bad-unended sig most bytes h.has.state all-only (λ e. some (nil_from_length rest
          (let w = sym (ap lines_text all-read) ∙ e ∙ h.parts in
          let n = ap length w in
          let m = length-append (lines_text h.read) rest in omega (arith, n, m)))))

      -- they are a form
      pub reading-whole : d.stage ≡ Stop → rest ≡ [] → IsDraftOfBytes sig most bytes d
      reading-whole stop e =
          let s = h.has.state in
          let ended : lines_text (lines_of bytes) ≡ bytes = ap lines_text all-read
          ∙ sym (append-nil (lines_text h.read)) ∙ ap (λ t. lines_text h.read ++ t) (sym e) ∙ sym h.parts in
          record {
            form = s.form;
            is_form = whole-form sig most bytes s all-only (sym h.has.draft.stage ∙ stop) ended;
            each = λ f k. draft-same d s (At sig Stop f) (all-only.only (At sig Stop f)
                (subst (λ r. IsStateOf sig r (At sig Stop f)) (sym k.lines) (form-state sig f k.right))) h.has.draft;
          }
