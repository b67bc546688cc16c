use Rattle.std.proofs.Common.{◌≤◌, ap, length, arith}
use Rattle.std.proofs.lemmas.List.{length-map}
use Rattle.mp_pattern.specs.declared.limits.TheConstants.{MAX_PATTERN_NODES}
use Rattle.mp_pattern.specs.View.{pattern_tree}
use Rattle.mp_pattern.specs.Size.{pattern_nodes}
use Rattle.mp_pattern.proofs.PlanLaws.{length-subpatterns, length-variables}
use Rattle.mp_pattern.proofs.compile.compiled.Goals as goal

pub fault-requires-clause-names : goal.fault-requires-clause-names
fault-requires-clause-names c =
    let names = simp length-map at (ap length c.in_ok-outline.ensures.names) in
    let few : pattern_nodes (pattern_tree c.args.pattern.now) ≤ MAX_PATTERN_NODES =
    omega (arith, c.node_count-count.ensures) in
    omega (arith, names, few, length-variables (pattern_tree c.args.pattern.now))

pub fault-requires-clause-patterns : goal.fault-requires-clause-patterns
fault-requires-clause-patterns c =
    let patterns = simp length-map at (ap length c.in_ok-outline.ensures.patterns) in
    let few : pattern_nodes (pattern_tree c.args.pattern.now) ≤ MAX_PATTERN_NODES =
    omega (arith, c.node_count-count.ensures) in
    omega (arith, patterns, few, length-subpatterns (pattern_tree c.args.pattern.now))
