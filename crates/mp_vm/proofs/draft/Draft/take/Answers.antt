use Rattle.std.proofs.Common.{length, ap, arith, subst}
use Rattle.mp_line.specs.declared.names.TheConstants.{MAX_KEPT}
use Rattle.mp_line.specs.Finds.{Finds}
use Rattle.mp_line.specs.Lines.{IsLineText}
use Rattle.mp_line.specs.LineView.{line_view}
use Rattle.mp_vm.proofs.DraftLaws.{few-code, line-taken, line-refused, none-refused}
use Rattle.mp_vm.proofs.draft.Draft.take.Goals as goal

pub returns-in_default-clause-refused : goal.returns-in_default-clause-refused
returns-in_default-clause-refused c = λ read some h few wrong b.
    let short = few-code c.args.sig.now h.state h.only.is.is in
    let same = ap length h.draft.code in
    absurd (omega (arith, short, same, c.in_default.ensures))

pub returns-in_default-2-clause-refused : goal.returns-in_default-2-clause-refused
returns-in_default-2-clause-refused c = λ read some h few wrong.
    let none = subst (Finds line_view
    (IsLineText c.args.sig.now c.args.self.now.format MAX_KEPT c.in-Some.own c.args.text.now))
    c.in_default-2.is c.in_ok-line.ensures in
    none-refused c.args.sig.now MAX_KEPT c.args.self.now read c.args.text.now some h few c.in-Some.own
    c.in-Some.ensures none

pub returns-clause-taken : goal.returns-clause-taken
returns-clause-taken c = λ read some h few right.
    let only = subst (Finds line_view
    (IsLineText c.args.sig.now c.args.self.now.format MAX_KEPT c.in-Some.own c.args.text.now))
    c.in-Some-2.is c.in_ok-line.ensures in
    line-taken c.args.sig.now MAX_KEPT c.args.self.now read c.args.text.now some h few c.in-Some.own
    c.in-Some.ensures c.keep.new.self (line_view c.in-Some-2.line) only
    ((c.may_come-right.ensures h.state h.draft).0 right) c.in_ok-keep.ensures

pub returns-clause-refused : goal.returns-clause-refused
returns-clause-refused c = λ read some h few wrong.
    let only = subst (Finds line_view
    (IsLineText c.args.sig.now c.args.self.now.format MAX_KEPT c.in-Some.own c.args.text.now))
    c.in-Some-2.is c.in_ok-line.ensures in
    line-refused c.args.sig.now MAX_KEPT c.args.self.now read c.args.text.now some h few c.in-Some.own
    c.in-Some.ensures (line_view c.in-Some-2.line) only
    (λ m. let right = (c.may_come-right.ensures h.state h.draft).1 m in cc)
