use Rattle.std.proofs.Common.{refl}
use Rattle.mp_term.specs.View.{tree}
use Rattle.mp_parser.specs.Syntax.{SubjectOf}
use Rattle.mp_parser.specs.Parsing.{ahead}
use Rattle.mp_parser.specs.View.{spot_of}
use Rattle.mp_build.specs.Build.{sig_of}
use Rattle.mp_text.specs.ReadTerm.{IsSubjectRead}
use Rattle.mp_text.proofs.Draft.{draft_sig}
use Rattle.mp_text.proofs.InOrderLaws.{subject-faultless, IsDraftRead-push}
use Rattle.mp_text.proofs.subject.add_next_subject.Goals as goal

pub returns-clause-added : goal.returns-clause-added
returns-clause-added c = λ yes bytes was.
    let sig = sig_of was.statements in
    let name = spot_of c.in-Some.name in
    let subject : IsSubjectRead sig name (tree c.in-Some.term) (ahead c.args.parser.now)
    (ahead c.read_subject.new.parser) =
    rw (c.in-Some.is, draft_sig sig was.statements c.args.draft.now was.draft) at c.in_ok-name.ensures.read in
    let added = c.in_ok-add_term.ensures sig was.statements subject.expr was.draft subject.term in
    IsDraftRead-push bytes c.args.parser.now c.read_subject.new.parser c.args.draft.now c.add_term.new.draft
    (SubjectOf name subject.expr) was refl (subject.read was.statements)
    (subject-faultless sig was.statements name subject.expr added.0 subject.small subject.faultless) added.1
