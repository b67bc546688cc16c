use Rattle.std.proofs.Common.{◌≡◌, ◌∙◌, ◌+◌, ◌++◌, ◌∷◌, [], ap, sym, subst, refl, inl, inr, List, length, take, drop}
use Rattle.std.proofs.Common.{arith}
use Rattle.std.specs.Prelude.{if◌then◌else◌}
use Rattle.std.specs.List.{insert, remove}
use Rattle.std.proofs.lemmas.List.{length-set}
use Rattle.mp_term.specs.Normal.{collapsed, parts}
use Rattle.mp_term.specs.Order.{tree_cmp}
use Rattle.mp_term.specs.Signature.{is_assoc}
use Rattle.mp_term.specs.Size.{all_nodes}
use Rattle.mp_term.specs.Sorting.{sorted}
use Rattle.mp_term.specs.Tree.{Tree}
use Rattle.mp_term.specs.View.{tree}
use Rattle.mp_rewrite.specs.MarkView.{mark_of}
use Rattle.mp_rewrite.proofs.MarkLaws.{AllKnown, known-insert}
use Rattle.mp_rewrite.proofs.PutBack.{set-between, set-insert, collapsed-open, stays, nodes-around}
use Rattle.mp_rewrite.proofs.in_place.put_there.Goals as goal

pub returns-clause-term : goal.returns-clause-term
returns-clause-term c =
    let sig = c.args.sig.now in
    let f = c.args.op.0 in
    let i = c.args.index in
    let ts = c.args.args.terms in
    let x = tree c.args.changed.term in
    let new = c.replace.new.self in
    let rest = remove ts i in
    let all : new ≡ take i rest ++ (x ∷ drop i rest) =
    c.replace.ensures.left ∙ set-between ts i x c.requires.within in
    let whole : List Tree → List Tree = λ us. take i rest ++ (us ++ drop i rest) in
    let long : length new ≡ length ts = ap length c.replace.ensures.left ∙ length-set ts i x in
    sym (collapsed-open sig f new
    (elim c.requires.open [ inl h ↦ inl (λ e. h (sym long ∙ e)) | inr e ↦ inr e ]))
    ∙ ap (collapsed sig f) (all ∙ ap whole (sym (stays sig f x (is_assoc sig f) refl c.requires.whole))
    ∙ sym (ap (λ b. if b then sorted tree_cmp (whole (parts sig f x)) else whole (parts sig f x)) c.requires.fixed))

pub returns-clause-known : goal.returns-clause-known
returns-clause-known c = λ rules h k.
    let sig = c.args.sig.now in
    let i = c.args.index in
    let ts = c.args.args.terms in
    let ms = c.args.args.known in
    let x = tree c.args.changed.term in
    let m = mark_of c.args.changed.known in
    let within = c.requires.within in
    subst (λ l. AllKnown sig rules c.set.new.self l) (sym (c.replace.ensures.left ∙ set-insert ts i x within))
    (subst (λ l. AllKnown sig rules l (insert (remove ts i) i x))
    (sym (c.set.ensures ∙ set-insert ms i m (omega (arith, within, c.requires.same))))
    (known-insert sig rules (remove ms i) (remove ts i) i m x h k))

pub returns-clause-nodes : goal.returns-clause-nodes
returns-clause-nodes c = λ rest h.
    let i = c.args.index in
    let ts = c.args.args.terms in
    let x = tree c.args.changed.term in
    let all : all_nodes c.replace.new.self ≡ all_nodes (remove ts i) + all_nodes (x ∷ []) =
    ap all_nodes (c.replace.ensures.left ∙ set-between ts i x c.requires.within)
    ∙ nodes-around i (remove ts i) (x ∷ []) in
    omega (arith, h, all)
