use Rattle.std.proofs.Common.{subst}
use Rattle.mp_term.specs.View.{tree}
use Rattle.mp_line.specs.Finds.{Finds}
use Rattle.mp_line.specs.LineTexts.{IsDefaultText}
use Rattle.mp_line.proofs.TokenLaws.{optional-parts, optional-found}
use Rattle.mp_line.proofs.token.optional.Goals as goal

pub returns-in_default-variable : goal.returns-in_default-variable
returns-in_default-variable c = λ format k g. (
    let m = optional-parts c.args.sig.now format c.args.text.now c.in-Some.word.now c.in-Some.default.now k
    c.in-Some.ensures g in
    c.in_default-variable.ensures m.1 m.3
    )

pub returns-in-Some-2 : goal.returns-in-Some-2
returns-in-Some-2 c = λ format.
    optional-found c.args.sig.now format c.args.text.now c.in-Some.word.now c.in-Some.default.now
    (tree c.in-Some-2.term) c.in-Some-variable.variable c.in-Some.ensures c.in-Some-variable.ensures
    (subst (Finds tree (IsDefaultText c.args.sig.now c.in-Some.default.now)) c.in-Some-2.is c.in_ok-term.ensures)

pub returns-in-None : goal.returns-in-None
returns-in-None c = λ format k g. (
    let m = optional-parts c.args.sig.now format c.args.text.now c.in-Some.word.now c.in-Some.default.now k
    c.in-Some.ensures g in
    let none = subst (Finds tree
    (IsDefaultText c.args.sig.now c.in-Some.default.now)) c.in-None.is c.in_ok-term.ensures in
    none m.0 m.2
    )
