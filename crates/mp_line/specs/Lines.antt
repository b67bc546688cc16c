-- The lines behind the first one, each with its text.
use Rattle.std.specs.Prelude.{◌≡◌, ℕ, ◌++◌, Option, codes, decimal}
use Rattle.mp_io.specs.Devices.{Text}
use Rattle.mp_term.specs.Signature.{Sig}
use Rattle.mp_pattern.specs.CondTree.{Cond}
use Rattle.mp_walk.specs.Instrs.{Instr}
use Rattle.mp_program.specs.declared.format.Format.{Format}
use Rattle.mp_program.specs.Form.{RuleLine}
use Rattle.mp_program.specs.FormText.{target_text}
use Rattle.mp_program.specs.RightForm.{IsShortTarget, IsDeclaration}
use Rattle.mp_line.specs.LineTexts.{IsTestText, IsRuleText, IsInstrText}

-- the line of what declares something isn't kept
pub data Line : Type 0 where
  op_line : Line
  kind_line : Line
  test_line : Cond → Line
  rule_line : RuleLine → Line
  code_line : Line
  begin_line : Option ℕ → Line
  instr_line : Instr → Line
  stop_line : Line

-- the text is that of the line in the format, where the next instruction has the number n and so many names of a rule
-- line are kept
abbrev pub IsLineText : Sig → Format → ℕ → ℕ → Text → Line → Type 0
IsLineText sig format most n text op_line = IsDeclaration (codes "op ") text
IsLineText sig format most n text kind_line = IsDeclaration (codes "kind ") text
IsLineText sig format most n text (test_line c) = IsTestText sig text c
IsLineText sig format most n text (rule_line r) = IsRuleText sig format most text r
IsLineText sig format most n text code_line = text ≡ codes "code"
IsLineText sig format most n text (begin_line d) = IsShortTarget d × (text ≡ codes "0 begin down " ++ target_text d)
IsLineText sig format most n text (instr_line i) = IsInstrText sig format n text i
IsLineText sig format most n text stop_line = text ≡ decimal n ++ codes " stop"

-- so of the lines of instructions, `begin` and `stop` alone
abbrev pub IsCodeLine : Sig → Format → ℕ → Text → Line → Type 0
IsCodeLine sig format n text op_line = ⊥
IsCodeLine sig format n text kind_line = ⊥
IsCodeLine sig format n text (test_line c) = ⊥
IsCodeLine sig format n text (rule_line r) = ⊥
IsCodeLine sig format n text code_line = ⊥
IsCodeLine sig format n text (begin_line d) = IsShortTarget d × (text ≡ codes "0 begin down " ++ target_text d)
IsCodeLine sig format n text (instr_line i) = IsInstrText sig format n text i
IsCodeLine sig format n text stop_line = text ≡ decimal n ++ codes " stop"
