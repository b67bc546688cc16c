use Rattle.std.proofs.Common.{◌≡◌, ◌∙◌, ap, arith, ◌∷◌}
use Rattle.mp_term.specs.Normal.{in_order}
use Rattle.mp_term.specs.Size.{all_nodes}
use Rattle.mp_term.specs.Tree.{symbol}
use Rattle.mp_rewrite.proofs.PutBack.{all_nodes-in_order}
use Rattle.mp_rewrite.proofs.CancellationSteps.{put-sorted}
use Rattle.mp_rewrite.proofs.cancelled.put.Goals as goal

pub returns-clause-terms : goal.returns-clause-terms
returns-clause-terms c =
    let sig = c.args.sig.now in
    let f = c.args.op.0 in
    let ts = c.args.all.terms in
    let x = symbol c.in_ok-copy.field-0 in
    c.in_ok-insert.ensures.ok
    ∙ put-sorted sig f c.place-at.result ts x c.requires.comm c.place-at.ensures.within
    (c.place-at.ensures.ascending c.requires.comm c.requires.ascending)
    ∙ ap (λ n. in_order sig f (symbol n ∷ ts)) c.in_ok-copy.ensures

pub returns-clause-nodes : goal.returns-clause-nodes
returns-clause-nodes c = λ rest e.
    let sig = c.args.sig.now in
    let f = c.args.op.0 in
    let ts = c.args.all.terms in
    let x = symbol c.in_ok-copy.field-0 in
    let same : c.insert.new.self ≡ in_order sig f (x ∷ ts) =
    c.in_ok-insert.ensures.ok
    ∙ put-sorted sig f c.place-at.result ts x c.requires.comm c.place-at.ensures.within
    (c.place-at.ensures.ascending c.requires.comm c.requires.ascending) in
    let nodes : all_nodes c.insert.new.self ≡ all_nodes (x ∷ ts) =
    ap all_nodes same ∙ all_nodes-in_order sig f (x ∷ ts) in
    omega (arith, e, nodes, c.requires.few, c.saturating_add.ensures)
