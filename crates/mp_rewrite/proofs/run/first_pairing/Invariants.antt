use Rattle.std.proofs.Common.{◌≡◌, List, drop, map}
use Rattle.mp_term.specs.Tree.{Tree, app, trees}
use Rattle.mp_term.specs.Normal.{IsNormal}
use Rattle.mp_rewrite.specs.Computed.{first_match}
use Rattle.mp_pattern.specs.Planned.{planned_rule}
use Rattle.mp_rewrite.proofs.run.first_pairing.Given as goal

-- no rule so far admits anything on an application of the operation
abbrev pub invariant-loop-rule : goal.invariant-loop-rule
invariant-loop-rule l = (ts : List Tree) → IsNormal l.sig (app l.op.0 (trees ts))
    → first_match l.sig (map planned_rule (drop l.rule-index l.rules)) (app l.op.0 (trees ts))
    ≡ first_match l.sig (map planned_rule l.rules) (app l.op.0 (trees ts))
