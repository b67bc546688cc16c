-- A condition as a term that gives it back.
use Rattle.std.specs.Prelude.{◌≡◌, ℕ, zero, suc, [], ◌∷◌, refl, nat_eq, if◌then◌else◌}
use Rattle.std.proofs.Common.{ap, get_or}
use Rattle.std.specs.Coded.{Coded, code_by}
use Rattle.mp_term.specs.Tree.{Tree, symbol, app, Trees, no_trees, more_trees, tree_list, trees}
use Rattle.mp_term.specs.Code.{coded_tree}
use Rattle.mp_pattern.specs.declared.condition.Sense.{Sense}
use Rattle.mp_pattern.specs.declared.condition.Sense.TheVariants.{Lt, Le, Gt, Ge, Eq, Ne}
use Rattle.mp_pattern.specs.CondTree.{Operand, var, ground, Amount, fixed, count, size, Cond, amounts, same, less, free}
use Rattle.mp_pattern.specs.CondTree.{of_kind, headed, negation, all_of, any_of, Conds, no_conds, more_conds}

-- a number as a symbol of one byte
abbrev number_tree : ℕ → Tree
number_tree n = symbol (n ∷ [])

-- and back
abbrev to_number : Tree → ℕ
to_number (symbol (n ∷ ns)) = n
to_number _ = 0

-- an operand as a symbol, or as an application to a term
abbrev operand_tree : Operand → Tree
operand_tree (var x) = symbol x
operand_tree (ground t) = app 0 (more_trees t no_trees)

-- and back
abbrev to_operand : Tree → Operand
to_operand (app f (more_trees t ts)) = ground t
to_operand (symbol x) = var x
to_operand _ = var []

-- an amount as a number, or as an application to an operand
abbrev amount_tree : Amount → Tree
amount_tree (fixed n) = number_tree n
amount_tree (count a) = app 0 (more_trees (operand_tree a) no_trees)
amount_tree (size a) = app 1 (more_trees (operand_tree a) no_trees)

-- and back
abbrev to_amount : Tree → Amount
to_amount (app zero (more_trees t ts)) = count (to_operand t)
to_amount (app (suc f) (more_trees t ts)) = size (to_operand t)
to_amount t = fixed (to_number t)

-- a sense as a number from 0
abbrev sense_number : Sense → ℕ
sense_number Lt = 0
sense_number Le = 1
sense_number Gt = 2
sense_number Ge = 3
sense_number Eq = 4
sense_number Ne = 5

-- and back
abbrev to_sense : ℕ → Sense
to_sense n =
    if nat_eq n 0 then Lt
    else if nat_eq n 1 then Le
    else if nat_eq n 2 then Gt
    else if nat_eq n 3 then Ge
    else if nat_eq n 4 then Eq
    else Ne

abbrev mutual
  -- a condition as an application to its parts
  as_tree : Cond → Tree
  as_tree (amounts m c n) = app 0 (trees (amount_tree m ∷ number_tree (sense_number c) ∷ amount_tree n ∷ []))
  as_tree (same a b) = app 1 (trees (operand_tree a ∷ operand_tree b ∷ []))
  as_tree (less a b) = app 2 (trees (operand_tree a ∷ operand_tree b ∷ []))
  as_tree (free a b) = app 3 (trees (operand_tree a ∷ operand_tree b ∷ []))
  as_tree (of_kind a k) = app 4 (trees (operand_tree a ∷ number_tree k ∷ []))
  as_tree (headed a f) = app 5 (trees (operand_tree a ∷ number_tree f ∷ []))
  as_tree (negation c) = app 6 (more_trees (as_tree c) no_trees)
  as_tree (all_of cs) = app 7 (as_trees cs)
  as_tree (any_of cs) = app 8 (as_trees cs)

  -- those of a list
  as_trees : Conds → Trees
  as_trees no_conds = no_trees
  as_trees (more_conds c cs) = more_trees (as_tree c) (as_trees cs)

-- the negation of the first condition
abbrev negated : Conds → Cond
negated no_conds = all_of no_conds
negated (more_conds c cs) = negation c

-- the condition of an application, by the arguments as they stand and as conditions
abbrev cond_at : ℕ → Trees → Conds → Cond
cond_at k ts cs =
    let at : ℕ → Tree = λ i. get_or (tree_list ts) i (symbol []) in
    if nat_eq k 0 then amounts (to_amount (at 0)) (to_sense (to_number (at 1))) (to_amount (at 2))
    else if nat_eq k 1 then same (to_operand (at 0)) (to_operand (at 1))
    else if nat_eq k 2 then less (to_operand (at 0)) (to_operand (at 1))
    else if nat_eq k 3 then free (to_operand (at 0)) (to_operand (at 1))
    else if nat_eq k 4 then of_kind (to_operand (at 0)) (to_number (at 1))
    else if nat_eq k 5 then headed (to_operand (at 0)) (to_number (at 1))
    else if nat_eq k 6 then negated cs
    else if nat_eq k 7 then all_of cs
    else any_of cs

abbrev mutual
  -- the condition of a term
  to_cond : Tree → Cond
  to_cond (symbol n) = all_of no_conds
  to_cond (app k ts) = cond_at k ts (to_conds ts)

  -- those of a list
  to_conds : Trees → Conds
  to_conds no_trees = no_conds
  to_conds (more_trees t ts) = more_conds (to_cond t) (to_conds ts)

to_operand-tree : (a : Operand) → to_operand (operand_tree a) ≡ a
to_operand-tree (var x) = refl
to_operand-tree (ground t) = refl

to_amount-tree : (m : Amount) → to_amount (amount_tree m) ≡ m
to_amount-tree (fixed n) = refl
to_amount-tree (count a) = ap count (to_operand-tree a)
to_amount-tree (size a) = ap size (to_operand-tree a)

to_sense-number : (c : Sense) → to_sense (sense_number c) ≡ c
to_sense-number Lt = refl
to_sense-number c = refl

mutual
  pub to_cond-as_tree : (c : Cond) → to_cond (as_tree c) ≡ c
  to_cond-as_tree (amounts m c n) = λ i. amounts (to_amount-tree m i) (to_sense-number c i) (to_amount-tree n i)
  to_cond-as_tree (same a b) = λ i. same (to_operand-tree a i) (to_operand-tree b i)
  to_cond-as_tree (less a b) = λ i. less (to_operand-tree a i) (to_operand-tree b i)
  to_cond-as_tree (free a b) = λ i. free (to_operand-tree a i) (to_operand-tree b i)
  to_cond-as_tree (of_kind a k) = ap (λ o. of_kind o k) (to_operand-tree a)
  to_cond-as_tree (headed a f) = ap (λ o. headed o f) (to_operand-tree a)
  to_cond-as_tree (negation c) = ap negation (to_cond-as_tree c)
  to_cond-as_tree (all_of cs) = ap all_of (to_conds-as_trees cs)
  to_cond-as_tree (any_of cs) = ap any_of (to_conds-as_trees cs)

  to_conds-as_trees : (cs : Conds) → to_conds (as_trees cs) ≡ cs
  to_conds-as_trees no_conds = refl
  to_conds-as_trees (more_conds c cs) = λ i. more_conds (to_cond-as_tree c i) (to_conds-as_trees cs i)

-- the code of conditions
abbrev pub coded_cond : Coded Cond
coded_cond = code_by Tree coded_tree as_tree to_cond to_cond-as_tree
