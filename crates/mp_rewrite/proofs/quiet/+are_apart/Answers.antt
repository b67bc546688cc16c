use Rattle.std.proofs.Common.{◌≡◌, ◌∙◌, ◌-◌, ◌∷◌, ap, subst, map, take, drop, length, arith}
use Rattle.std.specs.Prelude.{Some, slice_set}
use Rattle.std.proofs.lemmas.Bool.Decides.{nat_tests}
use Rattle.mp_term.specs.View.{tree}
use Rattle.mp_pattern.specs.Fits as fits
use Rattle.mp_pattern.specs.PatternTree.{patterns}
use Rattle.mp_pattern.specs.View.{pattern_tree}
use Rattle.mp_search.proofs.PartLaws.{first-item, first-pattern}
use Rattle.mp_cursor.proofs.RootLaws.{first-taken}
use Rattle.mp_rewrite.specs.Within.{with_one}
use Rattle.mp_rewrite.proofs.Apart.{with_one-later}
use Rattle.mp_rewrite.proofs.quiet.+are_apart.Goals as goal

pub returns-in-Some-eq0 : goal.returns-in-Some-eq0
returns-in-Some-eq0 t c = λ n s f ls Ws u a h e.
    let sig = c.args.sig.now in
    let children = c.args.children.now in
    let args = c.args.args.now in
    let others = patterns (map pattern_tree (take (length children - 1) (drop 1 children))) in
    let rest = map tree (take (length args - 1) (drop 1 args)) in
    let i = first-pattern children c.child-item.result c.in-len1-up.len_at_least c.child-item.is in
    let j = ap (map tree) (first-item args c.arg-item.result c.in-len1-up-args.len_at_least c.arg-item.is) in
    let zero : c.in-Some-eq0.field-0 ≡ 0 = grind (arith, nat_tests, c.in-Some-eq0.field-0-test) in
    let same : with_one c.args.index (map tree args) u ≡ u ∷ rest =
    ap (λ o. with_one o (map tree args) u) (c.in-Some-eq0.is ∙ ap Some zero)
    ∙ ap (λ l. slice_set l 0 u) j in
    let taken = first-taken sig s f (pattern_tree c.child-item.result) others u rest ls Ws
    (c.takes_one.ensures c.if-not-takes_one.false sig f a)
    (subst (λ ps. fits.AllTakeBy sig (fits.ByValue sig s) f ps ls Ws) i h) (e ∙ same) in
    c.are_apart.ensures n s f taken.1.0 taken.1.1 u a taken.1.2 taken.1.3

pub returns-then-has_other_head : goal.returns-then-has_other_head
returns-then-has_other_head t c = λ n s f ls Ws u a h e.
    let sig = c.args.sig.now in
    let children = c.args.children.now in
    let args = c.args.args.now in
    let arg = tree c.arg-item.result in
    let place = c.in-Some.place in
    let others = patterns (map pattern_tree (take (length children - 1) (drop 1 children))) in
    let rest = map tree (take (length args - 1) (drop 1 args)) in
    let i = first-pattern children c.child-item.result c.in-len1-up.len_at_least c.child-item.is in
    let j = ap (map tree) (first-item args c.arg-item.result c.in-len1-up-args.len_at_least c.arg-item.is) in
    let same : with_one c.args.index (map tree args) u ≡ arg ∷ with_one (Some (place - 1)) rest u =
    ap (λ o. with_one o (map tree args) u) c.in-Some.is ∙ ap (λ l. slice_set l place u) j
    ∙ with_one-later place arg rest u (λ z. absurd (grind (arith, nat_tests, z, c.in-Some.place-test))) in
    let taken = first-taken sig s f (pattern_tree c.child-item.result) others arg (with_one (Some (place - 1)) rest u)
    ls Ws (c.takes_one.ensures c.if-not-takes_one.false sig f a)
    (subst (λ ps. fits.AllTakeBy sig (fits.ByValue sig s) f ps ls Ws) i h) (e ∙ same) in
    c.has_other_head.ensures n s (Some f) taken.0.0 taken.0.1

pub returns-else-has_other_head : goal.returns-else-has_other_head
returns-else-has_other_head t c = λ n s f ls Ws u a h e.
    let sig = c.args.sig.now in
    let children = c.args.children.now in
    let args = c.args.args.now in
    let arg = tree c.arg-item.result in
    let place = c.in-Some.place in
    let others = patterns (map pattern_tree (take (length children - 1) (drop 1 children))) in
    let rest = map tree (take (length args - 1) (drop 1 args)) in
    let i = first-pattern children c.child-item.result c.in-len1-up.len_at_least c.child-item.is in
    let j = ap (map tree) (first-item args c.arg-item.result c.in-len1-up-args.len_at_least c.arg-item.is) in
    let same : with_one c.args.index (map tree args) u ≡ arg ∷ with_one (Some (place - 1)) rest u =
    ap (λ o. with_one o (map tree args) u) c.in-Some.is ∙ ap (λ l. slice_set l place u) j
    ∙ with_one-later place arg rest u (λ z. absurd (grind (arith, nat_tests, z, c.in-Some.place-test))) in
    let taken = first-taken sig s f (pattern_tree c.child-item.result) others arg (with_one (Some (place - 1)) rest u)
    ls Ws (c.takes_one.ensures c.if-not-takes_one.false sig f a)
    (subst (λ ps. fits.AllTakeBy sig (fits.ByValue sig s) f ps ls Ws) i h) (e ∙ same) in
    c.are_apart-else-has_other_head.ensures n s f taken.1.0 taken.1.1 u a taken.1.2 taken.1.3

pub returns-then-has_other_head-2 : goal.returns-then-has_other_head-2
returns-then-has_other_head-2 t c = λ n s f ls Ws u a h e.
    let sig = c.args.sig.now in
    let children = c.args.children.now in
    let args = c.args.args.now in
    let others = patterns (map pattern_tree (take (length children - 1) (drop 1 children))) in
    let i = first-pattern children c.child-item.result c.in-len1-up.len_at_least c.child-item.is in
    let j = ap (map tree) (first-item args c.arg-item.result c.in-len1-up-args.len_at_least c.arg-item.is) in
    let taken = first-taken sig s f (pattern_tree c.child-item.result) others (tree c.arg-item.result)
    (map tree (take (length args - 1) (drop 1 args))) ls Ws (c.takes_one.ensures c.if-not-takes_one.false sig f a)
    (subst (λ ps. fits.AllTakeBy sig (fits.ByValue sig s) f ps ls Ws) i h)
    (e ∙ ap (λ o. with_one o (map tree args) u) c.in-None.is ∙ j) in
    c.has_other_head-in-None.ensures n s (Some f) taken.0.0 taken.0.1

pub returns-else-has_other_head-2 : goal.returns-else-has_other_head-2
returns-else-has_other_head-2 t c = λ n s f ls Ws u a h e.
    let sig = c.args.sig.now in
    let children = c.args.children.now in
    let args = c.args.args.now in
    let others = patterns (map pattern_tree (take (length children - 1) (drop 1 children))) in
    let i = first-pattern children c.child-item.result c.in-len1-up.len_at_least c.child-item.is in
    let j = ap (map tree) (first-item args c.arg-item.result c.in-len1-up-args.len_at_least c.arg-item.is) in
    let taken = first-taken sig s f (pattern_tree c.child-item.result) others (tree c.arg-item.result)
    (map tree (take (length args - 1) (drop 1 args))) ls Ws (c.takes_one.ensures c.if-not-takes_one.false sig f a)
    (subst (λ ps. fits.AllTakeBy sig (fits.ByValue sig s) f ps ls Ws) i h)
    (e ∙ ap (λ o. with_one o (map tree args) u) c.in-None.is ∙ j) in
    c.are_apart-else-has_other_head-2.ensures n s f taken.1.0 taken.1.1 u a taken.1.2 taken.1.3
