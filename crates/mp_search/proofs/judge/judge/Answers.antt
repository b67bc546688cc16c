use Rattle.std.proofs.Common.{sym, ◌∙◌, subst}
use Rattle.mp_pattern.specs.CondView.{cond_tree}
use Rattle.mp_pattern.specs.Operands.{operands}
use Rattle.mp_search.specs.Says.{Says}
use Rattle.mp_search.proofs.JudgeLaws.{asked-at, may_extend, settled-all, verdict-says, verdict-decided}
use Rattle.mp_search.proofs.judge.judge.Goals as goal

pub returns-clause-says : goal.returns-clause-says
returns-clause-says c s k d =
    let q = c.args.query.now in
    let t = c.args.trail.now in
    let e = cond_tree c.args.condition.now in
    let a = asked-at q e c.requires.query c.requires.condition in
    subst (Says q.sig.now e s) (sym c.decide.ensures)
    (verdict-says q.sig.now q.table.now q.plan.now t e s
    (λ g. c.conditions_hold_of_extensions_as_of_the_trail.ensures q.sig.now q.table.now q.plan.now t s e
    (may_extend q c.requires.query t a.0 s k d) g))

pub returns-clause-decided : goal.returns-clause-decided
returns-clause-decided c d e =
    let q = c.args.query.now in
    let t = c.args.trail.now in
    let o = cond_tree c.args.condition.now in
    let a = asked-at q o c.requires.query c.requires.condition in
    verdict-decided q.sig.now q.table.now q.plan.now t o
    (settled-all q c.requires.query t a.0 d (operands o) a.1) (sym c.decide.ensures ∙ e)
