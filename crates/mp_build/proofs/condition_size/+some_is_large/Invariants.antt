use Rattle.std.proofs.Common.{◌≡◌, drop, map}
use Rattle.std.specs.List.{list_any}
use Rattle.mp_parser.specs.Syntax.{literals, condition}
use Rattle.mp_parser.specs.View.{literal_tree, alternative_tree}
use Rattle.mp_build.specs.Conditions.{literals_atoms, atoms}
use Rattle.mp_build.specs.ConditionChecks.{has_large_operand}
use Rattle.mp_build.proofs.condition_size.+some_is_large.Given as goal

-- what holds of the rest holds of all
abbrev pub invariant-some_is_large-loop-alternative : goal.invariant-some_is_large-loop-alternative
invariant-some_is_large-loop-alternative l =
    list_any has_large_operand (atoms (condition (map alternative_tree (drop l.alternative-index l.alternative-items))))
    ≡ list_any has_large_operand (atoms (condition (map alternative_tree l.alternative-items)))

abbrev pub invariant-some_in_alternative-loop-literal : goal.invariant-some_in_alternative-loop-literal
invariant-some_in_alternative-loop-literal l =
    list_any has_large_operand (literals_atoms (literals (map literal_tree (drop l.literal-index l.literal-items))))
    ≡ list_any has_large_operand (literals_atoms (literals (map literal_tree l.literal-items)))
