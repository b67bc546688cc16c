-- What contracts see of a table of instructions.
use Rattle.std.specs.Prelude.{ℕ, zero, suc, List, [], ◌++◌, Option, None, Some, option_to_list, slice_get}
use Rattle.mp_pattern.specs.NetTokens.{NetToken}

-- a token; the instruction that reads what comes after it, the instruction that reads another token in its place, and
-- the rules that are accepted after it
pub record Instr : Type 0 where
  pub token : NetToken
  pub down : Option ℕ
  pub over : Option ℕ
  pub accepts : List ℕ

-- the instruction of the number, from 1
abbrev pub instr_at : List Instr → ℕ → Option Instr
instr_at code zero = None
instr_at code (suc n) = slice_get code n

-- the rules that the instruction of the number accepts
abbrev pub accepts_at : List Instr → ℕ → List ℕ
accepts_at code n = elim (instr_at code n) [ None ↦ [] | Some i ↦ i.accepts ]

-- the instructions to which it leads
abbrev pub targets : Instr → List ℕ
targets i = option_to_list i.down ++ option_to_list i.over
