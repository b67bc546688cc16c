use Rattle.std.proofs.Common.{◌≡◌, ◌++◌, drop, map}
use Rattle.mp_parser.specs.Syntax.{literals, condition}
use Rattle.mp_parser.specs.View.{literal_tree, alternative_tree}
use Rattle.mp_build.specs.Conditions.{literal_of, alternative_of}
use Rattle.mp_build.specs.ConditionChecks.{literals_faults, condition_faults}
use Rattle.mp_build.specs.ScopeView.{scope_of}
use Rattle.mp_build.proofs.condition.+build_condition.Given as goal

-- what is built stands before what is to be built, and the faults are those of the rest
abbrev pub invariant-build_alternatives-loop-alternative : goal.invariant-build_alternatives-loop-alternative
invariant-build_alternatives-loop-alternative l =
    let rest = map alternative_tree (drop l.alternative-index l.alternatives) in
    record {
      built : l.conds ++ map (alternative_of l.sig) rest
          ≡ map (alternative_of l.sig) (map alternative_tree l.alternatives);
      faults : condition_faults l.sig (scope_of l.scope) (condition rest)
          ≡ condition_faults l.sig (scope_of l.scope) (condition (map alternative_tree l.alternatives));
    }

-- the same of literals
abbrev pub invariant-build_literals-loop-literal : goal.invariant-build_literals-loop-literal
invariant-build_literals-loop-literal l =
    let rest = map literal_tree (drop l.literal-index l.parts) in
    record {
      built : l.conds ++ map (literal_of l.sig) rest ≡ map (literal_of l.sig) (map literal_tree l.parts);
      faults : literals_faults l.sig (scope_of l.scope) (literals rest)
          ≡ literals_faults l.sig (scope_of l.scope) (literals (map literal_tree l.parts));
    }
