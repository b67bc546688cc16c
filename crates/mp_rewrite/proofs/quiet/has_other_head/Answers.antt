use Rattle.std.proofs.Common.{◌≡◌, ◌∙◌, [], ◌∷◌, false, ap, sym, subst, not, rules}
use Rattle.mp_term.specs.View.{tree}
use Rattle.mp_pattern.specs.Fits as fits
use Rattle.mp_pattern.specs.View.{pattern_tree}
use Rattle.mp_cursor.proofs.RootLaws.{symbol-takes, names-same, names-equal}
use Rattle.mp_rewrite.proofs.quiet.has_other_head.Goals as goal

pub returns-in-Sym-Sym : goal.returns-in-Sym-Sym
returns-in-Sym-Sym c = λ n s f W h.
    let sig = c.args.sig.now in
    let t = tree c.args.term.now in
    let k = subst (λ p. fits.Takes sig s f p (t ∷ []) W) (ap pattern_tree c.in-Sym-Sym.is-0) h in
    let e = names-same _ _ (sym (ap tree c.in-Sym-Sym.is-1) ∙ symbol-takes sig s t f _ W k) in
    let off : c.ne.result ≡ false = c.ne.ensures ∙ ap not (names-equal _ _ e) in
    absurd (search (rules, off, n))
