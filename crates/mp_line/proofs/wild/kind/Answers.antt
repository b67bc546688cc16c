use Rattle.mp_line.proofs.TokenLaws.{kind-parts, kind-found}
use Rattle.mp_line.proofs.wild.kind.Goals as goal

pub returns-in_default-variable : goal.returns-in_default-variable
returns-in_default-variable c = λ format k g. (
    let m = kind-parts c.args.sig.now format c.args.text.now c.in-Some.name.now c.in-Some.word.now k c.in-Some.ensures g
    in
    c.in_default-variable.ensures m.1 m.3
    )

pub returns-in-Some-held_kind : goal.returns-in-Some-held_kind
returns-in-Some-held_kind c = λ format. kind-found c.args.sig.now format c.args.text.now c.in-Some.name.now
    c.in-Some.word.now c.in-Some-held_kind.kind.0 c.in-Some-variable.variable c.in-Some.ensures
    c.in-Some-variable.ensures c.in-Some-held_kind.ensures

pub returns-in-None : goal.returns-in-None
returns-in-None c = λ format k g. (
    let m = kind-parts c.args.sig.now format c.args.text.now c.in-Some.name.now c.in-Some.word.now k c.in-Some.ensures g
    in
    c.in-None.ensures m.0 m.2
    )
