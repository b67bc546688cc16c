-- The arguments of a pattern of a list have fewer nodes than the list.
use Rattle.std.specs.Prelude.{◌≤◌, max, List, [], ◌∷◌, map}
use Rattle.std.proofs.Common.{arith}
use denote.Param.Weighed.{most}
use Rattle.mp_pattern.specs.declared.pattern.Pattern.{Pattern}
use Rattle.mp_pattern.specs.declared.pattern.Pattern.TheVariants.{Sym, App, Wild}
use Rattle.mp_pattern.specs.declared.pattern.Patterns.TheDeep.{deep-Pattern}
use Rattle.mp_pattern.specs.View.{pattern_tree}
use Rattle.mp_pattern.specs.Size.{list_nodes}

-- what the patterns of a list hold is no larger than the list
pub falls : (ps : List Pattern) → max (most deep-Pattern ps) 0 ≤ list_nodes (map pattern_tree ps)
falls [] = omega arith
falls (Sym n ∷ ps) = omega (arith, falls ps)
falls (App f qs ∷ ps) = omega (arith, falls ps)
falls (Wild w x ∷ ps) = omega (arith, falls ps)
