-- The tree that a condition is read as.
use Rattle.mp_term.specs.View.{tree}
use Rattle.mp_pattern.specs.CondTree as plain
use Rattle.mp_pattern.specs.CondTree.{conds}
use Rattle.mp_pattern.specs.declared.condition.Operand.{Operand}
use Rattle.mp_pattern.specs.declared.condition.Operand.TheVariants.{Var, Ground}
use Rattle.mp_pattern.specs.declared.condition.Amount.{Amount}
use Rattle.mp_pattern.specs.declared.condition.Amount.TheVariants.{Fixed, Count, Size}
use Rattle.mp_pattern.specs.declared.condition.Cond.{Cond}
use Rattle.mp_pattern.specs.declared.condition.Cond.TheVariants.{Amounts, Same, Less, Free, OfKind, Headed, Not, All}
use Rattle.mp_pattern.specs.declared.condition.Cond.TheVariants.{Any}

-- an operand with the tree of its term
abbrev pub operand : Operand → plain.Operand
operand (Var x) = plain.var x
operand (Ground t) = plain.ground (tree t)

-- an amount with its operand's
abbrev pub amount : Amount → plain.Amount
amount (Fixed n) = plain.fixed n
amount (Count a) = plain.count (operand a)
amount (Size a) = plain.size (operand a)

-- a condition with the numbers of its kinds and operations and the trees of its parts
abbrev pub cond_tree : Cond → plain.Cond
cond_tree (Amounts m c n) = plain.amounts (amount m) c (amount n)
cond_tree (Same a b) = plain.same (operand a) (operand b)
cond_tree (Less a b) = plain.less (operand a) (operand b)
cond_tree (Free a b) = plain.free (operand a) (operand b)
cond_tree (OfKind a k) = plain.of_kind (operand a) k.0
cond_tree (Headed a f) = plain.headed (operand a) f.0
cond_tree (Not c) = plain.negation c
cond_tree (All cs) = plain.all_of (conds cs)
cond_tree (Any cs) = plain.any_of (conds cs)
