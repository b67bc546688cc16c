use Rattle.std.proofs.Common.{[], ◌∷◌, subst}
use Rattle.std.specs.Prelude.{None}
use Rattle.mp_term.specs.View.{tree}
use Rattle.mp_pattern.specs.Fits as fits
use Rattle.mp_cursor.proofs.RootLaws.{no-items}
use Rattle.mp_cursor.proofs.root.may_fit.Goals as goal

pub returns-clause-admits : goal.returns-clause-admits
returns-clause-admits c = λ f r s e a. c.may_take.ensures f s None a.table
    (subst (λ p. fits.Takes c.args.sig.now s None p (tree c.args.subject.now ∷ []) a.table) e a.fits.takes)

pub returns-clause-items : goal.returns-clause-items
returns-clause-items c = λ f n r e. no-items c.args.sig.now r (tree c.args.subject.now) n
    (λ s W k. c.may_take.ensures f s None W
    (subst (λ p. fits.Takes c.args.sig.now s None p (tree c.args.subject.now ∷ []) W) e k))
