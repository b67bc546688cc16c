use Rattle.std.proofs.Common.{◌≡◌, true, ap, subst}
use Rattle.mp_term.specs.Signature.{Sig, all_in_order}
use Rattle.mp_term.specs.View.{tree}
use Rattle.mp_term.proofs.WellFormedNormal.{wf-normal}
use Rattle.mp_term.proofs.normal.normalise.Goals as goal

pub returns-clause-well_formed : goal.returns-clause-well_formed
returns-clause-well_formed c =
    let sig = c.args.sig.now in
    let same : c.sig.inside.ops.items ≡ sig.ops = ap (λ (s : Sig). s.ops) c.sig.view_is in
    let ordered : all_in_order sig.ops ≡ true =
    subst (λ ds. all_in_order ds ≡ true) same c.sig.invariant.0.ops_in_order in
    rw c.in_ok-normal.ensures (wf-normal sig ordered (tree c.args.term) c.requires)
