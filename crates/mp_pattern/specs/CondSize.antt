-- How many nodes a condition has.
use Rattle.std.specs.Prelude.{ℕ, ◌+◌, List}
use Rattle.mp_pattern.specs.CondTree.{Cond, amounts, same, less, free, of_kind, headed, negation, all_of, any_of, Conds}
use Rattle.mp_pattern.specs.CondTree.{no_conds, more_conds, conds}

abbrev mutual
  -- its atoms, negations, conjunctions and disjunctions
  pub cond_nodes : Cond → ℕ
  cond_nodes (amounts m c n) = 1
  cond_nodes (same a b) = 1
  cond_nodes (less a b) = 1
  cond_nodes (free a b) = 1
  cond_nodes (of_kind a k) = 1
  cond_nodes (headed a f) = 1
  cond_nodes (negation c) = cond_nodes c + 1
  cond_nodes (all_of cs) = all_cond_nodes cs + 1
  cond_nodes (any_of cs) = all_cond_nodes cs + 1

  -- those of all conditions of a list
  pub all_cond_nodes : Conds → ℕ
  all_cond_nodes no_conds = 0
  all_cond_nodes (more_conds c cs) = cond_nodes c + all_cond_nodes cs

-- the same of a `List`
abbrev pub cond_list_nodes : List Cond → ℕ
cond_list_nodes cs = all_cond_nodes (conds cs)
