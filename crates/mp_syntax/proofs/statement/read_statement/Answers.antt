use Rattle.mp_parser.proofs.Runs.{passes-along}
use Rattle.mp_syntax.proofs.statement.read_statement.Goals as goal

pub returns-in-Op-clause-read : goal.returns-in-Op-clause-read
returns-in-Op-clause-read c = λ done.
    passes-along _ _ _ c.op.result _ _ _ (rw c.in-Op.is at (c.in_ok-next_keyword.ensures.read done))
    (c.op.ensures.read done)

pub returns-in-Kind-clause-read : goal.returns-in-Kind-clause-read
returns-in-Kind-clause-read c = λ done.
    passes-along _ _ _ c.kind.result _ _ _ (rw c.in-Kind.is at (c.in_ok-next_keyword.ensures.read done))
    (c.kind.ensures.read done)

pub returns-in-Rule-clause-read : goal.returns-in-Rule-clause-read
returns-in-Rule-clause-read c = λ done.
    passes-along _ _ _ c.rule.result _ _ _ (rw c.in-Rule.is at (c.in_ok-next_keyword.ensures.read done))
    (c.rule.ensures.read done)

pub returns-in-Subject-clause-read : goal.returns-in-Subject-clause-read
returns-in-Subject-clause-read c = λ done.
    passes-along _ _ _ c.subject.result _ _ _ (rw c.in-Subject.is at (c.in_ok-next_keyword.ensures.read done))
    (c.subject.ensures.read done)

pub returns-in-Edit-clause-read : goal.returns-in-Edit-clause-read
returns-in-Edit-clause-read c = λ done.
    passes-along _ _ _ c.edit.result _ _ _ (rw c.in-Edit.is at (c.in_ok-next_keyword.ensures.read done))
    (c.edit.ensures.read done)
