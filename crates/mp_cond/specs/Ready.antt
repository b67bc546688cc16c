-- Which conditions a substitution is ready for.
use Rattle.std.specs.Prelude.{◌<◌, ◌^◌, IsSomeAnd}
use Rattle.std.specs.List.{AllByRecursion}
use Rattle.mp_term.specs.Size.{all_nodes}
use Rattle.mp_pattern.specs.CondTree.{Operand, Cond}
use Rattle.mp_pattern.specs.Value.{Value, terms_of, Subst}
use Rattle.mp_pattern.specs.Holds.{value_at}
use Rattle.mp_pattern.specs.Operands.{operands}

-- the terms of the value have fewer than 2 ^ 64 nodes together
abbrev pub IsCountable : Value → Type 0
IsCountable v = all_nodes (terms_of v) < 2 ^ 64

-- the operand has such a value: a variable is bound
abbrev pub IsOperandReady : Subst → Operand → Type 0
IsOperandReady s a = IsSomeAnd (value_at s a) IsCountable

-- so has each operand of the condition
abbrev pub IsReady : Subst → Cond → Type 0
IsReady s c = AllByRecursion (IsOperandReady s) (operands c)

-- each value of the substitution is countable
abbrev pub AreCountable : Subst → Type 0
AreCountable s = AllByRecursion (λ b. IsCountable b.value) s
