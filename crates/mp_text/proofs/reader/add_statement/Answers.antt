use Rattle.std.proofs.Common.{refl}
use Rattle.mp_parser.specs.View.{statement_tree}
use Rattle.mp_text.proofs.Draft.{draft-declaration}
use Rattle.mp_text.proofs.reader.add_statement.Goals as goal

pub returns-in-Op : goal.returns-in-Op
returns-in-Op c = λ sig earlier d. (
  rw c.in-Op.is refl,
  draft-declaration sig earlier c.args.draft.now d (statement_tree c.args.statement.now) (rw c.in-Op.is refl)
      (rw c.in-Op.is refl) (rw c.in-Op.is refl) (rw c.in-Op.is refl) (rw c.in-Op.is refl),
)

pub returns-in-Kind : goal.returns-in-Kind
returns-in-Kind c = λ sig earlier d. (
  rw c.in-Kind.is refl,
  draft-declaration sig earlier c.args.draft.now d (statement_tree c.args.statement.now) (rw c.in-Kind.is refl)
      (rw c.in-Kind.is refl) (rw c.in-Kind.is refl) (rw c.in-Kind.is refl) (rw c.in-Kind.is refl),
)

pub returns-in-Rule : goal.returns-in-Rule
returns-in-Rule c = λ sig earlier d. rw c.in-Rule.is (c.add_rule.ensures sig earlier d)

pub returns-in-Subject : goal.returns-in-Subject
returns-in-Subject c = λ sig earlier d. rw c.in-Subject.is (c.add_subject.ensures sig earlier d)

pub returns-in-Edit : goal.returns-in-Edit
returns-in-Edit c = λ sig earlier d.
    rw (c.in-Edit.is, ← c.deref.ensures.value) (c.add_edit.ensures sig earlier d)
