use Rattle.std.proofs.Common.{◌≡◌, List, [], sym, subst}
use Rattle.mp_pattern.specs.Normal.{normal_pattern}
use Rattle.mp_pattern.specs.PatternTree.{Pattern}
use Rattle.mp_pattern.specs.View.{pattern_tree}
use Rattle.mp_parser.specs.View.{expr_tree}
use Rattle.mp_build.specs.declared.fault.TextFault.{TextFault}
use Rattle.mp_build.specs.Answers.{Gives}
use Rattle.mp_build.specs.Build.{pattern_of}
use Rattle.mp_build.specs.Checks.{loose_faults}
use Rattle.mp_build.proofs.SoundLaws.{holds_ops-pattern_of, defaults-pattern_of}
use Rattle.mp_build.proofs.normal.normal_pattern.Goals as goal
use Rattle.mp_term.proofs.ListLaws.{both-empty}

pub normal_built_pattern-requires-clause-held : goal.normal_built_pattern-requires-clause-held
normal_built_pattern-requires-clause-held c =
    rw c.in_ok-pattern.ensures.1
    (holds_ops-pattern_of c.args.sig.now [] (expr_tree c.args.expr.now)
    (both-empty (loose_faults (expr_tree c.args.expr.now)) _ c.in_ok-pattern.ensures.0).1)

pub normal_built_pattern-requires-clause-defaults : goal.normal_built_pattern-requires-clause-defaults
normal_built_pattern-requires-clause-defaults c =
    rw c.in_ok-pattern.ensures.1 (defaults-pattern_of c.args.sig.now (expr_tree c.args.expr.now))

pub returns : goal.returns
returns c =
    let sig = c.args.sig.now in
    let P : List TextFault → Pattern → Type 0 =
    λ fs q. Gives c.normal_built_pattern.result fs (λ p. pattern_tree p ≡ normal_pattern sig q) in
    subst (λ fs. P fs (pattern_of sig (expr_tree c.args.expr.now))) (sym c.in_ok-pattern.ensures.0)
    (subst (P []) c.in_ok-pattern.ensures.1 c.normal_built_pattern.ensures)
