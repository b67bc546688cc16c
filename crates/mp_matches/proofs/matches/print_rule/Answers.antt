use Rattle.std.proofs.Common.{◌∙◌, ap, sym, refl}
use Rattle.mp_pattern.specs.Plan.{Plan}
use Rattle.mp_pattern.specs.Planned.{planned_rule}
use Rattle.mp_text.specs.File.{subject_tree}
use Rattle.mp_matches.specs.Computed.{matches_of, rule_matches}
use Rattle.mp_matches.specs.Left.{left_of, printed}
use Rattle.mp_matches.proofs.SoFar.{nothing-printed}
use Rattle.mp_matches.proofs.matches.print_rule.Goals as goal

pub returns-then-not-may_fit-clause-prints : goal.returns-then-not-may_fit-clause-prints
returns-then-not-may_fit-clause-prints g c =
    let sig = c.args.sig.now in
    let s = subject_tree c.args.subject.now in
    let r = planned_rule c.args.planned.now in
    let left = left_of c.args.left.now in
    nothing-printed (printed sig left (rule_matches sig s r)) left (g.O.Sink.contents c.args.out.now)
    (g.O.Sink.faults c.args.out.now)
    (ap (λ is. printed sig left (matches_of s r is))
    (c.if-not-may_fit.ensures.items refl c.requires.subject.term.normal r
    (sym (ap (λ (p : Plan). p.pattern) c.requires.planned.plan) ∙ sym c.pattern.ensures)))
