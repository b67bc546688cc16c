use Rattle.std.proofs.Common.{◌≡◌, ◌∙◌, ℕ, ◌+◌, ◌++◌, ap, sym, subst, arith, length, take, drop}
use Rattle.std.specs.List.{remove}
use Rattle.std.proofs.lemmas.List.{length-set}
use Rattle.mp_term.specs.Tree.{app, trees}
use Rattle.mp_term.specs.View.{tree}
use Rattle.mp_term.specs.Size.{all_nodes}
use Rattle.mp_term.specs.Normal.{parts, in_order, collapsed}
use Rattle.mp_term.specs.NormalTest.{ascending}
use Rattle.mp_rewrite.specs.MarkView.{mark_of}
use Rattle.mp_rewrite.specs.Known.{IsKnown}
use Rattle.mp_rewrite.proofs.MarkLaws.{AllKnown, known-get, known-remove}
use Rattle.mp_rewrite.proofs.PutBack.{IsInside, inside-within, inside-below, inside-normal, inside-ascending}
use Rattle.mp_rewrite.proofs.PutBack.{inside-result, inside-nodes, remove-set}
use Rattle.mp_rewrite.proofs.in_place.+put_in.Goals as goal
use Rattle.mp_rewrite.proofs.in_place.+put_in.Goals.{In-App}

-- the position leads below an argument
is_inside : {t : ℕ} (c : In-App t) → IsInside c.args.sig.now (tree c.args.into.term) c.args.position.now c.in-App.op.0
    c.in-App.terms c.in-Some.index.now c.in-Some.below.now
is_inside c = record {
  whole = ap tree c.in-App.is;
  way = c.in-Some.ensures.cases.0;
  there = c.requires.there;
  normal = c.requires.normal;
}

pub replace-requires : goal.replace-requires
replace-requires t c =
    let inside = is_inside (goal.at.replace-requires t c).In-App in
    inside-within _ _ _ _ _ _ _ inside

pub take-requires : goal.take-requires
take-requires t c =
    let inside = is_inside (goal.at.take-requires t c).In-App in
    omega (arith, inside-within _ _ _ _ _ _ _ inside, c.in_ok-all-in-App.ensures.count, c.len.ensures)

pub put_in-requires : goal.put_in-requires
put_in-requires t c =
    let inside = is_inside (goal.at.put_in-requires t c).In-App in
    let a = tree c.replace.result in (
      omega (arith, c.in-Some.ensures.cases.1),
      (
        inside-normal _ _ _ _ _ _ _ inside a c.replace.ensures.term,
        (c.requires.new, inside-below _ _ _ _ _ _ _ inside a c.replace.ensures.term),
      ),
    )

pub put_back-requires-clause-within : goal.put_back-requires-clause-within
put_back-requires-clause-within t c =
    let inside = is_inside (goal.at.put_back-requires-clause-within t c).In-App in
    let long : length c.replace.new.self ≡ length c.in-App.terms =
    ap length c.replace.ensures.left ∙ length-set c.in-App.terms c.in-Some.index.now _ in
    omega (arith, inside-within _ _ _ _ _ _ _ inside, long)

pub put_back-requires-clause-same : goal.put_back-requires-clause-same
put_back-requires-clause-same t c =
    let long : length c.replace.new.self ≡ length c.in-App.terms =
    ap length c.replace.ensures.left ∙ length-set c.in-App.terms c.in-Some.index.now _ in
    let many : length c.take.new.self ≡ length c.in_ok-all-in-App.all =
    ap length c.take.ensures.left ∙ length-set c.in_ok-all-in-App.all c.in-Some.index.now _ in
    omega (arith, c.in_ok-all-in-App.ensures.count, c.len.ensures, long, many)

pub put_back-requires-clause-ascending : goal.put_back-requires-clause-ascending
put_back-requires-clause-ascending t c =
    let inside = is_inside (goal.at.put_back-requires-clause-ascending t c).In-App in
    λ comm. ap ascending (ap (λ ts. remove ts c.in-Some.index.now) c.replace.ensures.left
    ∙ remove-set c.in-App.terms c.in-Some.index.now _) ∙ inside-ascending _ _ _ _ _ _ _ inside comm

pub returns-clause-term : goal.returns-clause-term
returns-clause-term t c =
    let inside = is_inside (goal.at.returns-clause-term t c).In-App in
    let sig = c.args.sig.now in
    let f = c.in-App.op.0 in
    let i = c.in-Some.index.now in
    let r = tree c.in_ok-changed-in-App.changed.term in
    let rest : remove c.replace.new.self i ≡ remove c.in-App.terms i =
    ap (λ ts. remove ts i) c.replace.ensures.left ∙ remove-set c.in-App.terms i _ in
    inside-result _ _ _ _ _ _ _ inside (tree c.args.new) (tree c.replace.result) r
    (tree c.in_ok-whole-in-App.whole.term) c.replace.ensures.term c.in_ok-changed-in-App.ensures.term
    (c.in_ok-whole-in-App.ensures.term
    ∙ ap (λ l. collapsed sig f (in_order sig f (take i l ++ (parts sig f r ++ drop i l)))) rest)

pub returns-clause-known : goal.returns-clause-known
returns-clause-known t c = λ rules h.
    let sig = c.args.sig.now in
    let terms = c.in-App.terms in
    let i = c.in-Some.index.now in
    let all = c.in_ok-all-in-App.all in
    let before : IsKnown sig rules (mark_of c.args.into.known) (app c.in-App.op.0 (trees terms)) =
    subst (λ t. IsKnown sig rules (mark_of c.args.into.known) t) (ap tree c.in-App.is) h in
    let marks : AllKnown sig rules all terms =
    c.in_ok-all-in-App.ensures.known sig rules c.in-App.op.0 terms (sym c.len.ensures) before in
    let one : IsKnown sig rules (mark_of c.take.result) (tree c.replace.result) =
    known-get sig rules all terms i _ _ marks c.take.ensures.taken c.replace.ensures.term in
    let rest : AllKnown sig rules (remove all i) (remove terms i) = known-remove sig rules all terms i marks in
    c.in_ok-whole-in-App.ensures.known rules
    (subst (λ ts. AllKnown sig rules (remove c.take.new.self i) ts)
    (sym (ap (λ ts. remove ts i) c.replace.ensures.left ∙ remove-set terms i _))
    (subst (λ ms. AllKnown sig rules ms (remove terms i))
    (sym (ap (λ ms. remove ms i) c.take.ensures.left ∙ remove-set all i _)) rest))
    (c.in_ok-changed-in-App.ensures.known rules one)

pub returns-clause-nodes : goal.returns-clause-nodes
returns-clause-nodes t c = λ rest h.
    let inside = is_inside (goal.at.returns-clause-nodes t c).In-App in
    let i = c.in-Some.index.now in
    let removed : all_nodes (remove c.replace.new.self i) ≡ all_nodes (remove c.in-App.terms i) =
    ap all_nodes (ap (λ ts. remove ts i) c.replace.ensures.left ∙ remove-set c.in-App.terms i _) in
    let whole = inside-nodes _ _ _ _ _ _ _ inside (tree c.args.new) (tree c.replace.result) c.replace.ensures.term in
    c.in_ok-whole-in-App.ensures.nodes rest
    (c.in_ok-changed-in-App.ensures.nodes (all_nodes (remove c.replace.new.self i) + 1 + rest)
    (omega (arith, h, whole, removed)))
