-- What holds of every condition that is read over the variables that it may name.
use Rattle.std.specs.Prelude.{◌≡◌, ◌≤◌, ℕ, true, false, List, Some, None, ⊤}
use Rattle.mp_term.specs.Names.{is_name}
use Rattle.mp_term.specs.Signature.{Sig}
use Rattle.mp_pattern.specs.declared.limits.TheConstants.{MAX_OPERAND_NODES, MAX_ATOMS, MAX_NUMBER}
use Rattle.mp_pattern.specs.CondTree.{Operand, var, ground, Amount, fixed, count, size, Cond, amounts, same, less, free}
use Rattle.mp_pattern.specs.CondTree.{of_kind, headed, negation, all_of, any_of, Conds, no_conds, more_conds}
use Rattle.mp_pattern.specs.SoundRule.{IsSoundTerm, HoldsKind, HoldsOp, AreSeveral, atom_count}
use Rattle.mp_build.specs.Scope.{Scope, is_bound, is_bound_sequence}

-- a word that may be named: a name, and one of the variables where that is checked
abbrev pub MayBeNamed : Scope → List ℕ → Type 0
MayBeNamed None x = is_name x ≡ true
MayBeNamed (Some vs) x = (is_name x ≡ true) × (is_bound vs x ≡ true)

-- a variable that stands for one term, where that is checked
abbrev pub StandsForOne : Scope → List ℕ → Type 0
StandsForOne None x = ⊤
StandsForOne (Some vs) x = is_bound_sequence vs x ≡ false

module _ (sig : Sig) (scope : Scope) where
  -- an operand: a variable that may be named, or a sound term
  abbrev pub IsScopedOperand : Operand → Type 0
  IsScopedOperand (var x) = MayBeNamed scope x
  IsScopedOperand (ground t) = IsSoundTerm sig MAX_OPERAND_NODES t

  -- an operand that stands for one term
  abbrev pub IsScopedSingle : Operand → Type 0
  IsScopedSingle (var x) = StandsForOne scope x
  IsScopedSingle (ground t) = ⊤

  -- an amount: a number of at most MAX_NUMBER, or one of an operand
  abbrev pub IsScopedAmount : Amount → Type 0
  IsScopedAmount (fixed n) = n ≤ MAX_NUMBER
  IsScopedAmount (count a) = IsScopedOperand a
  IsScopedAmount (size a) = IsScopedOperand a

  abbrev mutual
    -- a condition: its operands and amounts are such, those of `less` stand for one term, its kinds and operations are
    -- held, and each conjunction and disjunction is of several parts
    pub IsScoped : Cond → Type 0
    IsScoped (amounts m c n) = IsScopedAmount m × IsScopedAmount n
    IsScoped (same a b) = IsScopedOperand a × IsScopedOperand b
    IsScoped (less a b) = (IsScopedOperand a × IsScopedSingle a) × (IsScopedOperand b × IsScopedSingle b)
    IsScoped (free a b) = IsScopedOperand a × IsScopedOperand b
    IsScoped (of_kind a k) = IsScopedOperand a × HoldsKind sig k
    IsScoped (headed a f) = IsScopedOperand a × HoldsOp sig f
    IsScoped (negation c) = IsScoped c
    IsScoped (all_of cs) = AreSeveral cs × AreScoped cs
    IsScoped (any_of cs) = AreSeveral cs × AreScoped cs

    -- so is each condition of a list
    pub AreScoped : Conds → Type 0
    AreScoped no_conds = ⊤
    AreScoped (more_conds c cs) = IsScoped c × AreScoped cs

  -- a whole condition: it is such, and has at most MAX_ATOMS atoms
  pub record IsScopedCondition (c : Cond) : Type 0 where
    pub checked : IsScoped c
    pub few_atoms : atom_count c ≤ MAX_ATOMS
