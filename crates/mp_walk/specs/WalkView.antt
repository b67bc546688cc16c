-- What contracts see of a walk.
use Rattle.std.specs.Prelude.{◌≡◌, ◌≤◌, length, MatchOption, ℕ, Bool, List, [], drop, slice_get}
use Rattle.std.specs.Prelude.{Option}
use Rattle.mp_term.specs.Signature.{Sig}
use Rattle.mp_pattern.specs.Fits as fits
use Rattle.mp_table.specs.Table.{Table}
use Rattle.mp_walk.specs.Instrs.{Instr}

-- the signature, the table of instructions, and the table with the subject; the item at which it stands, if it stands
-- at one; the items still to come; and whether memory ran out
pub record WalkView : Type 0 where
  pub sig : Sig
  pub code : List Instr
  pub table : Table
  pub item : Option (ℕ × fits.Table)
  pub to_come : List (ℕ × fits.Table)
  pub failed : Bool

-- one step on
abbrev pub advanced : WalkView → WalkView
advanced w = record w { item = slice_get w.to_come 0; to_come = drop 1 w.to_come }

-- the target is the first instruction, where there is one
abbrev pub IsFirstTarget : List Instr → Option ℕ → Type 0
IsFirstTarget code o = MatchOption o (code ≡ []) (λ n. (n ≡ 1) × (1 ≤ length code))
