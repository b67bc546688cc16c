use Rattle.std.proofs.Common.{◌∙◌, ◌++◌, ap, sym, subst, [], take, drop}
use Rattle.std.specs.List.{insert}
use Rattle.std.proofs.lemmas.List.{take-append-drop}
use Rattle.mp_term.specs.View.{tree}
use Rattle.mp_term.specs.Normal.{in_order}
use Rattle.mp_rewrite.specs.MarkView.{mark_of}
use Rattle.mp_rewrite.proofs.MarkLaws.{AllKnown, known-insert}
use Rattle.mp_rewrite.proofs.PutBack.{put_one, in_order-ascending}
use Rattle.mp_rewrite.proofs.in_place.put_one.Goals as goal

pub returns-clause-terms : goal.returns-clause-terms
returns-clause-terms c =
    let sig = c.args.sig.now in
    let f = c.args.op.0 in
    let i = c.args.index in
    let ts = c.args.args.terms in
    let x = tree c.args.one.term in
    let after = insert ts c.place-at.result x in
    c.in_ok-insert.ensures.ok
    ∙ sym (in_order-ascending sig f after (λ comm. c.place-at.ensures.ascending comm (c.requires.ascending comm)))
    ∙ ap (in_order sig f) (sym (take-append-drop i after))
    ∙ put_one sig f i c.place-at.result ts [] x c.requires.within c.place-at.ensures.index

pub returns-clause-before : goal.returns-clause-before
returns-clause-before c = λ more.
    let sig = c.args.sig.now in
    let f = c.args.op.0 in
    let i = c.args.index in
    let ts = c.args.args.terms in
    ap (λ l. in_order sig f (take i l ++ (more ++ drop i l))) c.in_ok-insert.ensures.ok
    ∙ put_one sig f i c.place-at.result ts more (tree c.args.one.term) c.requires.within c.place-at.ensures.index

pub returns-clause-known : goal.returns-clause-known
returns-clause-known c = λ rules h k.
    let sig = c.args.sig.now in
    let at = c.place-at.result in
    let ts = c.args.args.terms in
    let x = tree c.args.one.term in
    let m = mark_of c.args.one.known in
    subst (λ l. AllKnown sig rules c.insert-2.new.self l) (sym c.in_ok-insert.ensures.ok)
    (subst (λ ms. AllKnown sig rules ms (insert ts at x)) (sym c.in_ok-insert-2.ensures)
    (known-insert sig rules c.args.args.known ts at m x h k))
