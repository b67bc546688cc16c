use Rattle.std.proofs.Common.{◌≡◌, drop, map}
use Rattle.std.specs.Prelude.{slice_set}
use Rattle.mp_term.specs.Tree.{Tree, app, trees}
use Rattle.mp_term.specs.View.{tree}
use Rattle.mp_term.specs.Normal.{IsNormal}
use Rattle.mp_pattern.specs.Planned.{planned_rule}
use Rattle.mp_rewrite.specs.Computed.{first_match}
use Rattle.mp_rewrite.specs.Within.{IsFree}
use Rattle.mp_rewrite.proofs.quiet.none_fits.Given as goal

-- no rule so far admits anything
abbrev pub invariant-loop-rule : goal.invariant-loop-rule
invariant-loop-rule l = IsFree l.sig l.op.0 → (u : Tree)
    → IsNormal l.sig (app l.op.0 (trees (slice_set (map tree l.args) l.index u)))
    → first_match l.sig (map planned_rule (drop l.rule-index l.rules))
    (app l.op.0 (trees (slice_set (map tree l.args) l.index u)))
    ≡ first_match l.sig (map planned_rule l.rules) (app l.op.0 (trees (slice_set (map tree l.args) l.index u)))
