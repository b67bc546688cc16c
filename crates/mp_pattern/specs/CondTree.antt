-- The plain trees that contracts see in place of conditions.
use Rattle.std.specs.Prelude.{ℕ, List, [], ◌∷◌}
use Rattle.mp_term.specs.Tree.{Tree}
use Rattle.mp_pattern.specs.declared.condition.Sense.{Sense}

-- a variable by its name, or a ground term
pub data Operand : Type 0 where
  var : List ℕ → Operand
  ground : Tree → Operand

-- a number as written, how many terms an operand has, or how many nodes they have together
pub data Amount : Type 0 where
  fixed : ℕ → Amount
  count : Operand → Amount
  size : Operand → Amount

mutual
  -- an atom: two amounts compared, two operands that are the same, in order, or free of one another, an operand of a
  -- kind, or one headed by an operation; or a negation, a conjunction or a disjunction
  pub data Cond : Type 0 where
    amounts : Amount → Sense → Amount → Cond
    same : Operand → Operand → Cond
    less : Operand → Operand → Cond
    free : Operand → Operand → Cond
    of_kind : Operand → ℕ → Cond
    headed : Operand → ℕ → Cond
    negation : Cond → Cond
    all_of : Conds → Cond
    any_of : Conds → Cond

  -- a list of conditions, which stands here since a type can't hold itself inside `List`
  pub data Conds : Type 0 where
    no_conds : Conds
    more_conds : Cond → Conds → Conds

-- the same as a `List`
abbrev pub cond_list : Conds → List Cond
cond_list no_conds = []
cond_list (more_conds c cs) = c ∷ cond_list cs

-- and back
abbrev pub conds : List Cond → Conds
conds [] = no_conds
conds (c ∷ cs) = more_conds c (conds cs)
