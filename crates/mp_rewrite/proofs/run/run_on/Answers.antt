use Rattle.std.proofs.Common.{[], refl, map}
use Rattle.mp_pattern.specs.Planned.{planned_rule}
use Rattle.mp_rewrite.specs.Within.{IsMarkedWithin}
use Rattle.mp_rewrite.proofs.Within.{around-nothing}
use Rattle.mp_rewrite.proofs.run.run_on.Goals as goal
use Rattle.mp_rewrite.proofs.run.run_on.Goals.{After-quiet_index}

-- nothing is around the whole term
whole : (c : After-quiet_index)
    → IsMarkedWithin c.args.sig.now (map planned_rule c.args.rules.now) (λ t. t) 0 c.args.here
whole c = record {
  position = [];
  above = refl;
  around = around-nothing c.args.sig.now (map planned_rule c.args.rules.now);
  rewritable = c.requires.here.rewritable;
  right = c.requires.here.known;
  counted = c.requires.here.nodes;
}

pub quiet_index-requires : goal.quiet_index-requires
quiet_index-requires c = c.requires.here.known

pub run_argument-requires-clause-within : goal.run_argument-requires-clause-within
run_argument-requires-clause-within c =
    (λ t. t, whole (goal.at.run_argument-requires-clause-within c).After-quiet_index)

pub returns-clause-here : goal.returns-clause-here
returns-clause-here c =
    let led = c.in_ok-below.ensures.run (λ t. t) (whole (goal.at.returns-clause-here c).After-quiet_index) in
    record { rewritable = led.0.rewritable; known = led.0.right; nodes = led.0.counted }

pub returns-clause-run : goal.returns-clause-run
returns-clause-run c =
    (c.in_ok-below.ensures.run (λ t. t) (whole (goal.at.returns-clause-run c).After-quiet_index)).1
