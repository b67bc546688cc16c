use Rattle.std.proofs.Common.{◌≡◌, ◌<◌, List, ◌-◌, ◌∷◌, [], true, refl, map, take, drop, ℕ, length, ap, sym, ◌∙◌}
use Rattle.std.proofs.Common.{subst, rules}
use Rattle.std.proofs.Common.{arith, length-append}
use Rattle.std.specs.Prelude.{Some, None}
use Rattle.mp_term.specs.Tree.{Trees, symbol, app, trees}
use Rattle.mp_term.specs.Order.{tree_cmp}
use Rattle.mp_term.specs.OrderLaws.{tree_cmp_total, tree_same}
use Rattle.mp_term.specs.Pieces.{same}
use Rattle.mp_term.proofs.PiecesLaws.{same-itself}
use Rattle.mp_term.specs.declared.term.Term.{Term}
use Rattle.mp_term.specs.View.{tree}
use Rattle.mp_pattern.specs.Fits as fits
use Rattle.mp_pattern.specs.PatternTree.{app_pattern, patterns}
use Rattle.mp_pattern.specs.Subpatterns.{subpatterns, all_subpatterns}
use Rattle.mp_pattern.specs.View.{pattern_tree}
use Rattle.mp_theory.specs.MayMatch.{takes_one}
use Rattle.mp_search.proofs.PartLaws.{first-item, first-pattern, some-subpatterns}
use Rattle.mp_cursor.proofs.RootLaws.{symbol-takes, headed-taken, arranged-taken, arguments-taken, arranged-in}
use Rattle.mp_cursor.proofs.RootLaws.{first-taken, none-taken}
use Rattle.mp_cursor.proofs.root.+may_take.Goals as goal

-- a symbol isn't an application
other : (n : List ℕ) (g : ℕ) (us : Trees) → symbol n ≡ app g us → ⊥
other n g us e = cc

-- applications that are one have one operation
same_head : (f g : ℕ) (us vs : Trees) → app f us ≡ app g vs → f ≡ g
same_head f g us vs e = cc

pub each_may_take-may_take-requires : goal.each_may_take-may_take-requires
each_may_take-may_take-requires t c =
    let p = pattern_tree c.child-item.result in
    let later = all_subpatterns
    (patterns (map pattern_tree (take (length c.args.children.now - 1) (drop 1 c.args.children.now)))) in
    let e = ap all_subpatterns
    (first-pattern c.args.children.now c.child-item.result c.in-len1-up.len_at_least c.child-item.is) in
    (omega (arith, c.decreases, ap length e, length-append (subpatterns p) later), tt)

pub each_may_take-each_may_take-requires : goal.each_may_take-each_may_take-requires
each_may_take-each_may_take-requires t c =
    let p = pattern_tree c.child-item.result in
    let others = patterns (map pattern_tree (take (length c.args.children.now - 1) (drop 1 c.args.children.now))) in
    let e = ap all_subpatterns
    (first-pattern c.args.children.now c.child-item.result c.in-len1-up.len_at_least c.child-item.is) in (
      omega (
        arith,
        c.decreases,
        ap length e,
        length-append (subpatterns p) (all_subpatterns others),
        some-subpatterns p,
      ),
      tt,
    )

pub each_may_take-returns-in-empty-args : goal.each_may_take-returns-in-empty-args
each_may_take-returns-in-empty-args t c = λ n s ls Ws h e.
    let sig = c.args.sig.now in
    let g = c.args.op.0 in
    let p = pattern_tree c.child-item.result in
    let others = patterns (map pattern_tree (take (length c.args.children.now - 1) (drop 1 c.args.children.now))) in
    let i = first-pattern c.args.children.now c.child-item.result c.in-len1-up.len_at_least c.child-item.is in
    let one : takes_one sig (Some g) p ≡ true = sym c.takes_one.ensures ∙ c.if-not-takes_one.false in
    none-taken sig s g p others ls Ws one (subst (λ ps. fits.AllTakeBy sig (fits.ByValue sig s) g ps ls Ws) i h)
    (e ∙ none c.args.args.now c.in-empty-args.len_below)
  where
    none : (xs : List Term) → length xs < 1 → map tree xs ≡ []
    none [] l = refl
    none (x ∷ xs) l = absurd (omega (arith, l))

pub each_may_take-returns-then-may_take : goal.each_may_take-returns-then-may_take
each_may_take-returns-then-may_take t c = λ n s ls Ws h e.
    let sig = c.args.sig.now in
    let g = c.args.op.0 in
    let p = pattern_tree c.child-item.result in
    let others = patterns (map pattern_tree (take (length c.args.children.now - 1) (drop 1 c.args.children.now))) in
    let i = first-pattern c.args.children.now c.child-item.result c.in-len1-up.len_at_least c.child-item.is in
    let one : takes_one sig (Some g) p ≡ true = sym c.takes_one.ensures ∙ c.if-not-takes_one.false in
    let j = ap (map tree)
    (first-item c.args.args.now c.arg-item.result c.in-len1-up-args.len_at_least c.arg-item.is) in
    let taken = first-taken sig s g p others (tree c.arg-item.result)
    (map tree (take (length c.args.args.now - 1) (drop 1 c.args.args.now))) ls Ws one
    (subst (λ ps. fits.AllTakeBy sig (fits.ByValue sig s) g ps ls Ws) i h) (e ∙ j) in
    c.each_may_take.ensures n s taken.1.0 taken.1.1 taken.1.2 taken.1.3

pub each_may_take-returns-else-may_take : goal.each_may_take-returns-else-may_take
each_may_take-returns-else-may_take t c = λ n s ls Ws h e.
    let sig = c.args.sig.now in
    let g = c.args.op.0 in
    let p = pattern_tree c.child-item.result in
    let others = patterns (map pattern_tree (take (length c.args.children.now - 1) (drop 1 c.args.children.now))) in
    let i = first-pattern c.args.children.now c.child-item.result c.in-len1-up.len_at_least c.child-item.is in
    let one : takes_one sig (Some g) p ≡ true = sym c.takes_one.ensures ∙ c.if-not-takes_one.false in
    let j = ap (map tree)
    (first-item c.args.args.now c.arg-item.result c.in-len1-up-args.len_at_least c.arg-item.is) in
    let taken = first-taken sig s g p others (tree c.arg-item.result)
    (map tree (take (length c.args.args.now - 1) (drop 1 c.args.args.now))) ls Ws one
    (subst (λ ps. fits.AllTakeBy sig (fits.ByValue sig s) g ps ls Ws) i h) (e ∙ j) in
    c.may_take.ensures n s (Some g) taken.0.0 taken.0.1

pub may_take-may_take_arguments-requires : goal.may_take-may_take_arguments-requires
may_take-may_take_arguments-requires t c =
    let ps = patterns (map pattern_tree c.as_slice-children.result.now) in
    let e : pattern_tree c.args.pattern.now ≡ app_pattern c.in-App.op.0 ps =
    rw (c.in-App.is, c.as_slice-children.ensures) refl in
    let smaller = ap (λ p. length (subpatterns p)) e in
    (omega (arith, c.decreases, smaller), sym c.may_collapse.ensures ∙ c.if-may_collapse.false)

pub may_take-returns-in-Sym : goal.may_take-returns-in-Sym
may_take-returns-in-Sym t c = λ n s f W h.
    let u = symbol c.in-Sym.name in
    let k = subst (λ p. fits.Takes c.args.sig.now s f p (tree c.args.subject.now ∷ []) W)
    (ap pattern_tree c.in-Sym.is) h in
    let e = symbol-takes c.args.sig.now s (tree c.args.subject.now) f _ W k in
    let found : c.is_symbol.result ≡ true =
    c.is_symbol.ensures ∙ ap (same tree_cmp u) e ∙ same-itself tree_cmp tree_cmp_total tree_same u in
    absurd (search (rules, found, n))

pub may_take-returns-in-Sym-subject : goal.may_take-returns-in-Sym-subject
may_take-returns-in-Sym-subject t c = λ n s f W h.
    let ps = patterns (map pattern_tree c.as_slice-children.result.now) in
    let k = headed-taken c.args.sig.now s f (pattern_tree c.args.pattern.now) c.in-App.op.0 ps
    (tree c.args.subject.now) W (rw (c.in-App.is, c.as_slice-children.ensures) refl)
    (sym c.may_collapse.ensures ∙ c.if-may_collapse.false) h in
    other _ _ k.0 (sym (ap tree c.in-Sym-subject.is) ∙ k.1)

pub may_take-returns-else-op-own : goal.may_take-returns-else-op-own
may_take-returns-else-op-own t c = λ n s f W h.
    let ps = patterns (map pattern_tree c.as_slice-children.result.now) in
    let k = headed-taken c.args.sig.now s f (pattern_tree c.args.pattern.now) c.in-App.op.0 ps
    (tree c.args.subject.now) W (rw (c.in-App.is, c.as_slice-children.ensures) refl)
    (sym c.may_collapse.ensures ∙ c.if-may_collapse.false) h in
    c.if-op-own.false (same_head _ _ k.0 _ (sym k.1 ∙ ap tree c.in-App-subject.is))

pub may_take-returns-then-op-own : goal.may_take-returns-then-op-own
may_take-returns-then-op-own t c = λ n s f W h.
    let ps = patterns (map pattern_tree c.as_slice-children.result.now) in
    let ts = map tree c.as_slice.result.now in
    let e : pattern_tree c.args.pattern.now ≡ app_pattern c.in-App.op.0 ps =
    rw (c.in-App.is, c.as_slice-children.ensures) refl in
    let j : tree c.args.subject.now ≡ app c.in-App-subject.own.0 (trees ts) =
    rw (c.in-App-subject.is, c.as_slice.ensures) refl in
    let k : tree c.args.subject.now ≡ app c.in-App.op.0 (trees ts) =
    j ∙ ap (λ g. app g (trees ts)) (sym c.if-op-own.true) in
    c.may_take_arguments.ensures n s W
    (subst (λ u. fits.Takes c.args.sig.now s None (app_pattern c.in-App.op.0 ps) (u ∷ []) W) k
    (subst (λ p. fits.Takes c.args.sig.now s f p (tree c.args.subject.now ∷ []) W) e h))

pub may_take_arguments-returns-then-is_comm : goal.may_take_arguments-returns-then-is_comm
may_take_arguments-returns-then-is_comm t c = λ n s W h.
    let sig = c.args.sig.now in
    let g = c.args.op.0 in
    let ps = patterns (map pattern_tree c.args.children.now) in
    let k = arranged-taken sig s g ps (map tree c.args.args.now) W c.requires h in
    c.has_terms_for.ensures n s g k.0 k.1 k.2
    (λ u i. arranged-in sig g (fits.joined k.0) (map tree c.args.args.now) u k.3 i)

pub may_take_arguments-returns-else-is_comm : goal.may_take_arguments-returns-else-is_comm
may_take_arguments-returns-else-is_comm t c = λ n s W h.
    let sig = c.args.sig.now in
    let g = c.args.op.0 in
    let ps = patterns (map pattern_tree c.args.children.now) in
    let k = arguments-taken sig s g ps (map tree c.args.args.now) W (sym c.is_comm.ensures ∙ c.if-is_comm.false)
    c.requires h in
    c.each_may_take.ensures n s k.0 k.1 k.2 k.3
