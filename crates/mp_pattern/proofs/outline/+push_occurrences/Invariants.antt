use Rattle.std.proofs.Common.{◌≡◌, ◌++◌, drop, map, Some}
use Rattle.std.specs.Prelude.{option_map}
use Rattle.mp_pattern.specs.PatternTree.{patterns}
use Rattle.mp_pattern.specs.View.{pattern_tree}
use Rattle.mp_pattern.specs.Variables.{uses, all_uses}
use Rattle.mp_pattern.specs.UseView.{occurrence}
use Rattle.mp_pattern.proofs.outline.+push_occurrences.Given as goal

abbrev pub invariant-loop-arg : goal.invariant-loop-arg
invariant-loop-arg l =
    map occurrence l.out.items ++ all_uses (Some l.op.0) (patterns (map pattern_tree (drop l.arg-index l.arg-items)))
    ≡ map occurrence l.fn.out.items ++ uses (option_map (λ f. f.0) l.fn.under) (pattern_tree l.pattern)
