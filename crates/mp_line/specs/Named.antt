-- The names of the variables of conditions.
use Rattle.std.specs.Prelude.{Bool, List, map, flat_map}
use Rattle.std.specs.Borrow.{Bor}
use Rattle.std.specs.List.{list_all}
use Rattle.mp_io.specs.Devices.{Text}
use Rattle.mp_pattern.specs.declared.limits.TheConstants.{MAX_VARIABLES}
use Rattle.mp_pattern.specs.CondTree.{Operand, Cond, conds}
use Rattle.mp_pattern.specs.Firsts.{is_known}
use Rattle.mp_pattern.specs.Operands.{all_operands}
use Rattle.mp_pattern.specs.Value.{same_name}
use Rattle.mp_walk.specs.Walkable.{numbered_names}
use Rattle.mp_program.specs.TokenPaths.{operand_names}

-- the names to which references point
abbrev pub names_in : List (Bor Text) → List Text
names_in ns = map (λ (n : Bor Text). n.now) ns

-- the variables of operands
abbrev pub operands_names : List Operand → List Text
operands_names os = flat_map operand_names os

-- the variables of all conditions
abbrev pub all_cond_names : List Cond → List Text
all_cond_names cs = operands_names (all_operands (conds cs))

-- each name is one of v0 to v31
abbrev pub are_test_names : List Text → Bool
are_test_names xs = list_all (is_known same_name (numbered_names MAX_VARIABLES)) xs
