use Rattle.std.proofs.Common.{◌∙◌}
use Rattle.mp_text.proofs.in_order.add_next.Goals as goal

pub returns-then-branch-2-clause-added : goal.returns-then-branch-2-clause-added
returns-then-branch-2-clause-added c = λ yes.
    let first = c.in_ok-add_next_subject.ensures.kept c.if-branch.false in
    rw (first.0, first.1) at (c.in_ok-add_next_rule.ensures.added c.if-branch-2.true)

pub returns-clause-added : goal.returns-clause-added
returns-clause-added c =
    let first = c.in_ok-add_next_subject.ensures.kept c.if-branch.false in
    let second = c.in_ok-add_next_rule.ensures.kept c.if-branch-2.false in
    rw (second.0 ∙ first.0, second.1 ∙ first.1) at c.add_next_statement.ensures.added

pub returns-clause-shorter : goal.returns-clause-shorter
returns-clause-shorter c =
    let first = c.in_ok-add_next_subject.ensures.kept c.if-branch.false in
    let second = c.in_ok-add_next_rule.ensures.kept c.if-branch-2.false in
    rw (second.0 ∙ first.0) at c.add_next_statement.ensures.shorter
