-- The operands of a condition, and which of them a pattern's variables and the limits allow.
use Rattle.std.specs.Prelude.{◌≡◌, ◌≤◌, ℕ, true, List, [], ◌∷◌, ◌++◌, Option, Some, None, ⊤}
use Rattle.std.specs.List.{AllByRecursion}
use Rattle.mp_term.specs.Size.{node_count}
use Rattle.mp_pattern.specs.declared.limits.TheConstants.{MAX_OPERAND_NODES}
use Rattle.mp_pattern.specs.CondTree.{Operand, var, ground, Amount, fixed, count, size, Cond, amounts, same, less, free}
use Rattle.mp_pattern.specs.CondTree.{of_kind, headed, negation, all_of, any_of, Conds, no_conds, more_conds}
use Rattle.mp_pattern.specs.Value.{same_name}
use Rattle.mp_pattern.specs.Firsts.{is_known}

-- the operand of an amount, if it has one
abbrev pub amount_operands : Amount → List Operand
amount_operands (fixed n) = []
amount_operands (count a) = a ∷ []
amount_operands (size a) = a ∷ []

abbrev mutual
  -- the operands of a condition, in order, each as often as it stands there
  pub operands : Cond → List Operand
  operands (amounts m c n) = amount_operands m ++ amount_operands n
  operands (same a b) = a ∷ b ∷ []
  operands (less a b) = a ∷ b ∷ []
  operands (free a b) = a ∷ b ∷ []
  operands (of_kind a k) = a ∷ []
  operands (headed a f) = a ∷ []
  operands (negation c) = operands c
  operands (all_of cs) = all_operands cs
  operands (any_of cs) = all_operands cs

  -- those of each condition of a list
  pub all_operands : Conds → List Operand
  all_operands no_conds = []
  all_operands (more_conds c cs) = operands c ++ all_operands cs

-- the operand is one of the variables xs, or a ground term of at most MAX_OPERAND_NODES nodes
abbrev pub IsOperandOver : List (List ℕ) → Operand → Type 0
IsOperandOver xs (var x) = is_known same_name xs x ≡ true
IsOperandOver xs (ground t) = node_count t ≤ MAX_OPERAND_NODES

-- each operand of the condition is one of the variables xs, or a ground term of at most MAX_OPERAND_NODES nodes
abbrev pub IsConditionOver : List (List ℕ) → Cond → Type 0
IsConditionOver xs c = AllByRecursion (IsOperandOver xs) (operands c)

-- so is that of each condition that there is
abbrev pub HasConditionOver : List (List ℕ) → Option Cond → Type 0
HasConditionOver xs None = ⊤
HasConditionOver xs (Some c) = IsConditionOver xs c
