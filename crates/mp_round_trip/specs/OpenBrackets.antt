-- How many brackets stand open at once in the printed text of a condition.
use Rattle.std.specs.Prelude.{◌≤◌, ℕ, suc, max, Option, Some, None, ⊤}
use Rattle.mp_term.specs.Size.{depth}
use Rattle.mp_pattern.specs.declared.limits.TheConstants.{MAX_DEPTH}
use Rattle.mp_pattern.specs.CondTree as cond
use Rattle.mp_pattern.specs.CondTree.{Operand, var, ground, fixed, count, size, Cond, amounts, less, free, of_kind}
use Rattle.mp_pattern.specs.CondTree.{headed, negation, all_of, any_of, Conds, no_conds, more_conds}

-- in an operand and in an amount
abbrev pub operand_depth : Operand → ℕ
operand_depth (var x) = 0
operand_depth (ground t) = depth t

abbrev pub amount_depth : cond.Amount → ℕ
amount_depth (fixed n) = 0
amount_depth (count a) = suc (operand_depth a)
amount_depth (size a) = suc (operand_depth a)

-- a second `not` stands before a bracket
abbrev pub negated_depth : Cond → ℕ → ℕ
negated_depth (negation c) n = suc n
negated_depth _ n = n

abbrev mutual
  -- in a part of a conjunction
  pub literal_depth : Cond → ℕ
  literal_depth (amounts m s n) = max (amount_depth m) (amount_depth n)
  literal_depth (cond.same a b) = suc (max (operand_depth a) (operand_depth b))
  literal_depth (less a b) = suc (max (operand_depth a) (operand_depth b))
  literal_depth (free a b) = suc (max (operand_depth a) (operand_depth b))
  literal_depth (of_kind a k) = suc (operand_depth a)
  literal_depth (headed a f) = suc (operand_depth a)
  literal_depth (negation c) = negated_depth c (literal_depth c)
  literal_depth (all_of cs) = suc (literals_depth cs)
  literal_depth (any_of cs) = suc (alternatives_depth cs)

  pub literals_depth : Conds → ℕ
  literals_depth no_conds = 0
  literals_depth (more_conds c cs) = max (literal_depth c) (literals_depth cs)

  -- in the parts of a disjunction: a conjunction stands without its brackets
  pub alternatives_depth : Conds → ℕ
  alternatives_depth no_conds = 0
  alternatives_depth (more_conds (all_of bs) cs) = max (literals_depth bs) (alternatives_depth cs)
  alternatives_depth (more_conds c cs) = max (literal_depth c) (alternatives_depth cs)

-- in a whole condition
abbrev pub condition_depth : Cond → ℕ
condition_depth (all_of cs) = literals_depth cs
condition_depth (any_of cs) = alternatives_depth cs
condition_depth c = literal_depth c

-- at most MAX_DEPTH in a condition, where there is one
abbrev pub IsShallowIf : Option Cond → Type 0
IsShallowIf None = ⊤
IsShallowIf (Some c) = condition_depth c ≤ MAX_DEPTH
