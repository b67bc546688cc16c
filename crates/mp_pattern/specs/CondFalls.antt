-- The parts of a condition have fewer nodes than the condition.
use Rattle.std.specs.Prelude.{◌≤◌, max, List, [], ◌∷◌, map}
use Rattle.std.proofs.Common.{arith}
use denote.Param.Weighed.{most}
use Rattle.mp_pattern.specs.declared.condition.Cond.{Cond}
use Rattle.mp_pattern.specs.declared.condition.Cond.TheVariants.{Amounts, Same, Less, Free, OfKind, Headed, Not, All}
use Rattle.mp_pattern.specs.declared.condition.Cond.TheVariants.{Any}
use Rattle.mp_pattern.specs.declared.condition.BoxedCond.TheDeep.{deep-Cond}
use Rattle.mp_pattern.specs.CondView.{cond_tree}
use Rattle.mp_pattern.specs.CondSize.{cond_nodes, cond_list_nodes}

-- what a condition holds in a box or a list is no larger than the condition
pub falls_in_box : (c : Cond) → max (deep-Cond c) 0 ≤ cond_nodes (cond_tree c)
falls_in_box (Amounts m c n) = omega arith
falls_in_box (Same a b) = omega arith
falls_in_box (Less a b) = omega arith
falls_in_box (Free a b) = omega arith
falls_in_box (OfKind a k) = omega arith
falls_in_box (Headed a f) = omega arith
falls_in_box (Not c) = omega arith
falls_in_box (All cs) = omega arith
falls_in_box (Any cs) = omega arith

-- and what the conditions of a list hold no larger than the list
pub falls : (cs : List Cond) → max (most deep-Cond cs) 0 ≤ cond_list_nodes (map cond_tree cs)
falls [] = omega arith
falls (c ∷ cs) = omega (arith, falls_in_box c, falls cs)
