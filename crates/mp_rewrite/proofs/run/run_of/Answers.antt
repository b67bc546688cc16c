use Rattle.std.proofs.Common.{◌∙◌, ap, sym, subst, map}
use Rattle.mp_term.specs.Normal.{IsNormal}
use Rattle.mp_term.specs.View.{tree}
use Rattle.mp_pattern.specs.Planned.{planned_rule}
use Rattle.mp_rewrite.proofs.PutBack.{arguments-pass}
use Rattle.mp_rewrite.proofs.Runs.{runnable}
use Rattle.mp_rewrite.proofs.run.run_of.Goals as goal

pub end_of-requires-clause-ascending : goal.end_of-requires-clause-ascending
end_of-requires-clause-ascending c =
    let sig = c.args.sig.now in
    (arguments-pass sig c.in-App.op.0 c.in-App.args
    (subst (IsNormal sig) (ap tree c.in-App.is) c.requires.term.normal)).1
    (sym c.is_comm.ensures ∙ c.if-not-is_comm.false)

pub run_over-requires-clause-run : goal.run_over-requires-clause-run
run_over-requires-clause-run c =
    runnable c.args.sig.now (map planned_rule c.args.rules.now) c.in-Some.cancellation c.in-App.op.0 c.in_ok-end.end
    c.in-App.args c.as_slice.result.now c.split_at.result.0.now c.split_at.result.1.now (tree c.args.term.now)
    (ap tree c.in-App.is) c.as_slice.ensures c.split_at.ensures.front c.split_at.ensures.back c.in-Some.ensures
    c.requires.term (sym c.is_comm.ensures ∙ c.if-not-is_comm.false) c.in_ok-end.ensures.ascending
