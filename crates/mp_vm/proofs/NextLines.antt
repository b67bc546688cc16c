-- The line that a text is read as is what is kept of the line that it is.
use Rattle.std.proofs.Common.{◌≡◌, ℕ, suc, length, refl, ap, sym, ◌∙◌}
use Rattle.mp_io.specs.Devices.{Text}
use Rattle.mp_term.specs.Signature.{Sig}
use Rattle.mp_program.specs.Form.{Form}
use Rattle.mp_line.specs.Finds.{IsOnly}
use Rattle.mp_line.specs.Lines.{Line, op_line, kind_line, test_line, rule_line, code_line, begin_line, instr_line}
use Rattle.mp_line.specs.Lines.{stop_line, IsLineText}
use Rattle.mp_vm.specs.Machine.{IsNextText}
use Rattle.mp_vm.specs.Kept.{kept, IsOnlyNext}

module _ (sig : Sig) (most : ℕ) (f : Form) (text : Text) where
  -- the text of the line where the lines of the form are read
  abbrev pub IsReadText : Line → Type 0
  IsReadText = IsLineText sig f.format most (suc (length f.code)) text

  -- a line of the text of which this is kept
  pub record Whole (k : Line) : Type 0 where
    pub line : Line
    pub is : IsNextText sig f text line
    pub same : kept most line ≡ k

  pub line-whole : (k : Line) → IsReadText k → Whole k
  line-whole op_line h = record { line = op_line; is = h; same = refl }
  line-whole kind_line h = record { line = kind_line; is = h; same = refl }
  line-whole (test_line c) h = record { line = test_line c; is = (h.right, h.text); same = refl }
  line-whole (rule_line r) h = record {
    line = rule_line h.whole;
    is = (h.right, h.text);
    same = ap rule_line (sym h.front);
  }
  line-whole code_line h = record { line = code_line; is = h; same = refl }
  line-whole (begin_line d) h = record { line = begin_line d; is = h; same = refl }
  line-whole (instr_line i) h = record { line = instr_line i; is = (h.right, h.text); same = refl }
  line-whole stop_line h = record { line = stop_line; is = h; same = refl }

  pub kept-line : (l : Line) → IsNextText sig f text l → IsReadText (kept most l)
  kept-line op_line h = h
  kept-line kind_line h = h
  kept-line (test_line c) h = record { right = h.0; text = h.1 }
  kept-line (rule_line r) h = record { whole = r; right = h.0; text = h.1; front = refl }
  kept-line code_line h = h
  kept-line (begin_line d) h = h
  kept-line (instr_line i) h = record { right = h.0; text = h.1 }
  kept-line stop_line h = h

  -- the only line as which the text is read
  pub only-next : (k : Line) → IsOnly IsReadText k → (w : Whole k) → IsOnlyNext sig most f text w.line
  only-next k h w = record { is = w.is; only = λ m t. h.only (kept most m) (kept-line m t) ∙ sym w.same }

  -- where it is read as none it is the text of none
  pub none-next : ((k : Line) → IsReadText k → ⊥) → (l : Line) → IsNextText sig f text l → ⊥
  none-next h l t = h (kept most l) (kept-line l t)
