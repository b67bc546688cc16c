use Rattle.std.proofs.Common.{◌≡◌, ◌∙◌, ap, sym, subst, inl, eq-eqb, refl, map}
use Rattle.mp_term.specs.NormalTest.{has_head}
use Rattle.mp_term.specs.Order.{tree_cmp}
use Rattle.mp_term.specs.OrderLaws.{tree_cmp_total, tree_same}
use Rattle.mp_term.specs.Pieces.{same}
use Rattle.mp_term.specs.Listing.{In}
use Rattle.mp_term.specs.Tree.{symbol, app}
use Rattle.mp_term.specs.View.{tree}
use Rattle.mp_term.proofs.PiecesLaws.{same-itself}
use Rattle.mp_term.proofs.SignatureLaws.{list_any-map}
use Rattle.mp_pattern.specs.Fits as fits
use Rattle.mp_pattern.specs.PatternTree.{app_pattern, patterns}
use Rattle.mp_pattern.specs.View.{pattern_tree}
use Rattle.mp_cursor.proofs.RootLaws.{application-taken, none-among}
use Rattle.mp_cursor.proofs.root.has_term_for.Goals as goal

pub returns-in-Sym : goal.returns-in-Sym
returns-in-Sym c = λ n s f l W h i.
    let u = symbol c.in-Sym.name in
    let k = subst (λ p. fits.Takes c.args.sig.now s f p l W) (ap pattern_tree c.in-Sym.is) h in
    let none = list_any-map (same tree_cmp u) tree c.args.args.now ∙ (sym c.has_symbol.ensures ∙ n) in
    none-among (same tree_cmp u) (map tree c.args.args.now) u none (same-itself tree_cmp tree_cmp_total tree_same u)
    (i u (subst (In u) (sym k.0) (inl refl)))

pub returns-else-may_collapse : goal.returns-else-may_collapse
returns-else-may_collapse c = λ n s f l W h i.
    let sig = c.args.sig.now in
    let g = c.in-App.op.0 in
    let ps = patterns (map pattern_tree c.as_slice.result.now) in
    let e : pattern_tree c.args.child.now ≡ app_pattern g ps = rw (c.in-App.is, c.as_slice.ensures) refl in
    let k = application-taken sig s f g ps l W (sym c.may_collapse.ensures ∙ c.if-may_collapse.false)
    (subst (λ p. fits.Takes sig s f p l W) e h) in
    let u = app g _ in
    let none = list_any-map (has_head g) tree c.args.args.now ∙ (sym c.has_one_of.ensures ∙ n) in
    none-among (has_head g) (map tree c.args.args.now) u none (eq-eqb g g refl)
    (i u (subst (In u) (sym k.3) (inl refl)))
