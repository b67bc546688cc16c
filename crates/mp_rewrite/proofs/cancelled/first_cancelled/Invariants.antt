use Rattle.std.proofs.Common.{◌≡◌, drop, map}
use Rattle.mp_term.specs.View.{tree}
use Rattle.mp_rewrite.specs.Computed.{first_match}
use Rattle.mp_pattern.specs.Planned.{planned_rule}
use Rattle.mp_rewrite.proofs.cancelled.first_cancelled.Given as goal

-- no rule so far admits anything
abbrev pub invariant-loop-rule : goal.invariant-loop-rule
invariant-loop-rule l = first_match l.sig (map planned_rule (drop l.rule-index l.rules)) (tree l.term)
    ≡ first_match l.sig (map planned_rule l.rules) (tree l.term)
