use Rattle.std.proofs.Common.{◌≡◌, ◌∙◌, ◌+◌, ◌∷◌, [], ap, arith}
use Rattle.mp_term.specs.View.{tree}
use Rattle.mp_term.specs.Size.{all_nodes}
use Rattle.mp_rewrite.proofs.PutBack.{all_nodes-in_order, nodes-around}
use Rattle.mp_rewrite.proofs.in_place.put_among.Goals as goal

pub returns-then-not-opens-clause-nodes : goal.returns-then-not-opens-clause-nodes
returns-then-not-opens-clause-nodes c = λ rest h.
    let args = c.args.args.terms in
    let new = tree c.args.changed.term in
    let all : all_nodes c.in_ok-all.all.terms ≡ all_nodes args + all_nodes (new ∷ []) =
    ap all_nodes c.in_ok-all.ensures.terms ∙ all_nodes-in_order c.args.sig.now c.args.op.0 _
    ∙ nodes-around c.args.index args (new ∷ []) in
    c.close.ensures.nodes rest (omega (arith, h, all, c.in_ok-all.ensures.nodes))

pub returns-clause-nodes : goal.returns-clause-nodes
returns-clause-nodes c = λ rest h.
    let args = c.args.args.terms in
    let parts = c.in_ok-opened.opened.terms in
    let opened = c.in_ok-opened.ensures.nodes (all_nodes args + 1 + rest) h in
    let all : all_nodes c.in_ok-all-2.all.terms ≡ all_nodes args + all_nodes parts =
    ap all_nodes c.in_ok-all-2.ensures.terms ∙ all_nodes-in_order c.args.sig.now c.args.op.0 _
    ∙ nodes-around c.args.index args parts in
    c.close-2.ensures.nodes rest (omega (arith, opened, all, c.in_ok-all-2.ensures.nodes))
