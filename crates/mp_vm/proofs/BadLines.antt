-- Reading line by line: which line is bad.
use Rattle.std.proofs.Common.{◌≡◌, ℕ, suc, List, [], ◌∷◌, ◌++◌, length, take, refl, ap, sym, ◌∙◌, subst, arith}
use Rattle.std.proofs.Common.{length-append, append_assoc}
use Rattle.std.specs.Prelude.{◌≢◌, codes, decimal}
use Rattle.std.proofs.Math.Seq.{take-length, take-append_seam}
use Rattle.mp_io.specs.Devices.{Text}
use Rattle.mp_term.specs.Signature.{Sig}
use Rattle.mp_program.specs.declared.format.Format.{Format}
use Rattle.mp_program.specs.declared.format.Format.TheVariants.{Two}
use Rattle.mp_program.specs.Form.{format_number, Form}
use Rattle.mp_program.specs.FormText.{lines_of, lines_text, form_lines}
use Rattle.mp_program.specs.Reading.{IsFormOf, Begins, IsBadLine}
use Rattle.mp_program.proofs.ListLaws.{first-same}
use Rattle.mp_line.specs.Lines.{Line}
use Rattle.mp_vm.specs.declared.stage.Stage.TheVariants.{Stop}
use Rattle.mp_vm.specs.Machine.{State, start, MayCome, IsNextText}
use Rattle.mp_vm.proofs.MachineLaws.{start-state, state-begins}
use Rattle.mp_vm.specs.Kept.{IsOnlyState}
use Rattle.mp_vm.proofs.ReadingLaws.{no_next, only-begins, not_whole-form}

pub take-further : {X : Type 0} (a b : List X) (x : X) → take (suc (length a)) (a ++ x ∷ b) ≡ a ++ x ∷ []
take-further [] b x = refl
take-further (y ∷ a) b x = ap (λ l. y ∷ l) (take-further a b x)

module _ (sig : Sig) (most : ℕ) where
  -- right lines begin with a part of what they begin with
  pub form-begins : (f : Form) (bytes : Text) (read rest : List Text) → IsFormOf sig bytes f
      → lines_of bytes ≡ read ++ rest → Begins sig read
  form-begins f bytes read rest h e = record { form = f; rest = rest; right = h.right; split = sym h.lines ∙ e }

  -- a line that may not come next is bad
  pub bad-next : (bytes : Text) (read rest : List Text) (line : Text) (s : State)
      → lines_of bytes ≡ read ++ line ∷ rest → read ≢ [] → IsOnlyState sig most read s
      → ((l : Line) → IsNextText sig s.form line l → MayCome s l → ⊥) → IsBadLine sig bytes (suc (length read))
  bad-next bytes read rest line s e some h refused = record {
    before = length read;
    number = refl;
    within = (let n = ap length e in omega (arith, n, length-append read (line ∷ rest)));
    begins = subst (Begins sig) (sym (ap (take (length read)) e ∙ take-append_seam read (line ∷ rest)))
        (only-begins sig most read s h);
    stops = λ _ b. no_next sig most read line s some h refused
        (subst (Begins sig) (ap (take (suc (length read))) e ∙ take-further read rest line) b);
    formless = λ f k. no_next sig most read line s some h refused
        (form-begins f bytes (read ++ line ∷ []) rest k (e ∙ sym (append_assoc read (line ∷ []) rest)));
  }

  -- so is the line behind the last one, where there is no form
  pub bad-end : (bytes : Text) (s : State) → IsOnlyState sig most (lines_of bytes) s
      → ((f : Form) → IsFormOf sig bytes f → ⊥) → IsBadLine sig bytes (suc (length (lines_of bytes)))
  bad-end bytes s h formless = record {
    before = length (lines_of bytes);
    number = refl;
    within = omega arith;
    begins = subst (Begins sig) (sym (take-length (lines_of bytes))) (only-begins sig most (lines_of bytes) s h);
    stops = λ more _. absurd (omega (arith, more));
    formless = formless;
  }

  pub bad-open : (bytes : Text) (s : State) → IsOnlyState sig most (lines_of bytes) s → (s.stage ≡ Stop → ⊥)
      → IsBadLine sig bytes (suc (length (lines_of bytes)))
  bad-open bytes s h early = bad-end bytes s h (not_whole-form sig most bytes s h early)

  pub bad-unended : (bytes : Text) (s : State) → IsOnlyState sig most (lines_of bytes) s
      → (lines_text (lines_of bytes) ≡ bytes → ⊥) → IsBadLine sig bytes (suc (length (lines_of bytes)))
  bad-unended bytes s h unended = bad-end bytes s h (λ f k. unended k.ended)

  -- ---- the first line

  begins-none : Begins sig []
  begins-none =
      let h = state-begins sig (start Two) (start-state sig Two).is in
      record { form = h.form; rest = form_lines sig h.form; right = h.right; split = refl }

  -- a first line that names no format is bad
  pub bad-first : (bytes : Text) (line : Text) (rest : List Text) → lines_of bytes ≡ line ∷ rest
      → ((f : Format) → line ≡ codes "matchpy program " ++ decimal (format_number f) → ⊥) → IsBadLine sig bytes 1
  bad-first bytes line rest e refused = record {
    before = 0;
    number = refl;
    within = omega arith;
    begins = begins-none;
    stops = λ _ b. refused b.form.format (sym (first b.form b.rest
        (b.split ∙ ap (λ l. take 1 l ++ b.rest) e)));
    formless = λ f k. refused f.format (sym (first f rest (sym k.lines ∙ e)));
  }
    where
      first : (f : Form) (more : List Text) → form_lines sig f ≡ line ∷ more
          → codes "matchpy program " ++ decimal (format_number f.format) ≡ line
      first f more e = first-same _ line _ more e

  -- a missing one is bad too
  pub bad-empty : (bytes : Text) → lines_of bytes ≡ [] → IsBadLine sig bytes 1
  bad-empty bytes e = record {
    before = 0;
    number = refl;
    within = omega arith;
    begins = begins-none;
    stops = λ more _. let n = ap length e in absurd (omega (arith, more, n));
    formless = λ f k. let none : form_lines sig f ≡ [] = sym k.lines ∙ e in cc;
  }
