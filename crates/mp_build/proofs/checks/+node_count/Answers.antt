use Rattle.std.proofs.Common.{◌+◌, ◌-◌, ◌^◌, min, ap, ◌∙◌}
use Rattle.mp_build.proofs.Applied.{nodes-Apply, nodes-Infix, has_large_default-Apply, has_large_default-Infix}
use Rattle.mp_build.proofs.Counts.{counted-suc}
use Rattle.mp_build.proofs.checks.+node_count.Goals as goal

pub node_count-returns-in-Apply : goal.node_count-returns-in-Apply
node_count-returns-in-Apply t c =
    rw (
      c.in-Apply.is,
      nodes-Apply c.in-Apply.field-0 c.in-Apply.args,
      has_large_default-Apply c.in-Apply.field-0 c.in-Apply.args,
    )
    (c.saturating_add.ensures ∙ ap (λ n. min (1 + n) (2 ^ 64 - 1)) c.node_counts.ensures ∙ counted-suc _ _)

pub node_count-returns-in-Infix : goal.node_count-returns-in-Infix
node_count-returns-in-Infix t c =
    rw (
      c.in-Infix.is,
      nodes-Infix c.in-Infix.«open» c.in-Infix.sign c.in-Infix.operands,
      has_large_default-Infix c.in-Infix.«open» c.in-Infix.sign c.in-Infix.operands,
    )
    (c.saturating_add-in-Infix.ensures ∙ ap (λ n. min (1 + n) (2 ^ 64 - 1)) c.node_counts-in-Infix.ensures
    ∙ counted-suc _ _)
