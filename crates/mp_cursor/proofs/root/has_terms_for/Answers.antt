use Rattle.std.proofs.Common.{sym, map}
use Rattle.mp_pattern.specs.View.{pattern_tree}
use Rattle.mp_term.proofs.ListingLaws.{in-from_contains}
use Rattle.mp_term.proofs.SearchLaws.{in-map}
use Rattle.mp_cursor.proofs.RootLaws.{child-taken}
use Rattle.mp_cursor.proofs.root.has_terms_for.Goals as goal

pub returns-then-not-has_term_for : goal.returns-then-not-has_term_for
returns-then-not-has_term_for c = λ n s g ls Ws h i.
    let child = c.child-item.result in
    let children = c.args.children.now in
    let stands = in-from_contains child children
    (c.loop-child.child-index, c.loop-child-test.true, sym c.child-item.is) in
    let k = child-taken c.args.sig.now s g (pattern_tree child) (map pattern_tree children) ls Ws
    (in-map pattern_tree child children stands) h in
    c.has_term_for.ensures c.if-not-has_term_for.true s _ k.0 k.1 k.2 (λ t j. i t (k.3 t j))
