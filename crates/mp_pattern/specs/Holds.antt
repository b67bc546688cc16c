-- When a condition holds of a substitution.
use Rattle.std.specs.Prelude.{ℕ, Bool, true, false, ◌&&◌, ◌||◌, not, List, [], length, sum_by, Option, Some, None}
use Rattle.std.specs.Prelude.{nat_eq, nat_lt, nat_le, if◌then◌else◌}
use Rattle.std.specs.Ordering.{is_lt, eq_by_cmp}
use Rattle.std.specs.List.{list_all}
use Rattle.mp_term.specs.Tree.{Tree, symbol, app, Trees, no_trees, more_trees}
use Rattle.mp_term.specs.Order.{tree_cmp}
use Rattle.mp_term.specs.Size.{node_count}
use Rattle.mp_term.specs.Sorting.{sorted}
use Rattle.mp_term.specs.Signature.{Sig, in_kind}
use Rattle.mp_term.specs.NormalTest.{has_head}
use Rattle.mp_pattern.specs.declared.condition.Sense.{Sense}
use Rattle.mp_pattern.specs.declared.condition.Sense.TheVariants.{Lt, Le, Gt, Ge, Eq, Ne}
use Rattle.mp_pattern.specs.CondTree.{Operand, var, ground, Amount, fixed, count, size, Cond, amounts, same, less, free}
use Rattle.mp_pattern.specs.CondTree.{of_kind, headed, negation, all_of, any_of, Conds, no_conds, more_conds}
use Rattle.mp_pattern.specs.Value.{Value, one, bag, terms_of, Subst, value_of, same_terms}

-- the value of an operand: that of the variable, or the ground term
abbrev pub value_at : Subst → Operand → Option Value
value_at s (var x) = value_of s x
value_at s (ground t) = Some (one t)

-- the terms of a value, and none where there is no value
abbrev pub listed : Option Value → List Tree
listed None = []
listed (Some v) = terms_of v

-- the list of an operand: the terms of its value
abbrev pub list_of : Subst → Operand → List Tree
list_of s a = listed (value_at s a)

-- it is a multiset
abbrev pub is_bag : Option Value → Bool
is_bag (Some (bag ts)) = true
is_bag _ = false

-- both are single terms, and the first comes before the second in the term order
abbrev pub comes_before : Option Value → Option Value → Bool
comes_before (Some (one t)) (Some (one u)) = is_lt (tree_cmp t u)
comes_before _ _ = false

-- the number itself, how many terms the operand's list has, or how many nodes they have together
abbrev pub amount_of : Subst → Amount → ℕ
amount_of s (fixed n) = n
amount_of s (count a) = length (list_of s a)
amount_of s (size a) = sum_by node_count (list_of s a)

-- the comparison of two numbers
abbrev pub compares : Sense → ℕ → ℕ → Bool
compares Lt m n = nat_lt m n
compares Le m n = nat_le m n
compares Gt m n = nat_lt n m
compares Ge m n = nat_le n m
compares Eq m n = nat_eq m n
compares Ne m n = not (nat_eq m n)

-- the terms are equal
abbrev pub same_term : Tree → Tree → Bool
same_term = eq_by_cmp tree_cmp

abbrev mutual
  -- t is u or a subterm of it
  pub occurs : Tree → Tree → Bool
  occurs t (symbol n) = same_term t (symbol n)
  occurs t (app f us) = same_term t (app f us) || occurs_in t us

  -- t is one of the terms or a subterm of one
  pub occurs_in : Tree → Trees → Bool
  occurs_in t no_trees = false
  occurs_in t (more_trees u us) = occurs t u || occurs_in t us

module _ (sig : Sig) (s : Subst) where
  abbrev mutual
    -- the condition holds of s: each atom by its kind, and the connectives as usual
    pub holds : Cond → Bool
    holds (amounts m c n) = compares c (amount_of s m) (amount_of s n)
    holds (same a b) = if is_bag (value_at s a)
        || is_bag (value_at s b) then same_terms (sorted tree_cmp (list_of s a))
        (sorted tree_cmp (list_of s b)) else same_terms (list_of s a) (list_of s b)
    holds (less a b) = comes_before (value_at s a) (value_at s b)
    holds (free a b) = list_all (λ t. list_all (λ u. not (occurs t u)) (list_of s b)) (list_of s a)
    holds (of_kind a k) = list_all (in_kind sig k) (list_of s a)
    holds (headed a f) = list_all (has_head f) (list_of s a)
    holds (negation c) = not (holds c)
    holds (all_of cs) = all_hold cs
    holds (any_of cs) = some_holds cs

    -- each condition of the list holds
    pub all_hold : Conds → Bool
    all_hold no_conds = true
    all_hold (more_conds c cs) = holds c && all_hold cs

    -- some condition of the list holds
    pub some_holds : Conds → Bool
    some_holds no_conds = false
    some_holds (more_conds c cs) = holds c || some_holds cs
