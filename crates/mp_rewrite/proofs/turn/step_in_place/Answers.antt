use Rattle.std.proofs.Common.{◌≡◌, ◌∙◌, ap, sym, subst, arith, [], ◌∷◌}
use Rattle.std.specs.Prelude.{Some, option_map}
use Rattle.mp_term.specs.View.{tree}
use Rattle.mp_term.specs.Normal.{normal, IsNormal}
use Rattle.mp_term.specs.Replaced.{replaced}
use Rattle.mp_term.proofs.NormalSize.{node_count-normal, depth-normal, normal-normal}
use Rattle.mp_pattern.specs.Instance.{IsInstance}
use Rattle.mp_pattern.specs.TemplateView.{template_tree}
use Rattle.mp_rewrite.specs.Made.{redex_of}
use Rattle.mp_rewrite.specs.Computed.{step_at}
use Rattle.mp_rewrite.specs.Turn.{IsMade, IsPutIn}
use Rattle.mp_rewrite.proofs.Steps.{excess-None}
use Rattle.mp_rewrite.proofs.StepsInPlace.{of-err, step-refused, step-put_in}
use Rattle.mp_rewrite.proofs.turn.step_in_place.Goals as goal

pub put_in_within-requires-clause-new : goal.put_in_within-requires-clause-new
put_in_within-requires-clause-new c =
    let sig = c.args.sig.now in
    let new = c.in_ok-new.ensures.term in
    subst (IsNormal sig) (sym new.result) (normal-normal sig new.spliced)

pub put_in_within-requires-clause-new_few : goal.put_in_within-requires-clause-new_few
put_in_within-requires-clause-new_few c =
    let sig = c.args.sig.now in
    let new = c.in_ok-new.ensures.term in
    let fits = excess-None (new.spliced ∷ []) (c.in_ok-new.ensures.fits new.spliced new.instance) in
    rw new.result (omega (arith, fits.0, node_count-normal sig new.spliced))

pub put_in_within-requires-clause-new_shallow : goal.put_in_within-requires-clause-new_shallow
put_in_within-requires-clause-new_shallow c =
    let sig = c.args.sig.now in
    let new = c.in_ok-new.ensures.term in
    let fits = excess-None (new.spliced ∷ []) (c.in_ok-new.ensures.fits new.spliced new.instance) in
    rw new.result (omega (arith, fits.1, depth-normal sig new.spliced))

pub returns-clause-step : goal.returns-clause-step
returns-clause-step c =
    let sig = c.args.sig.now in
    let t = tree c.args.into.term in
    let r = redex_of c.args.redex.now in
    let new = c.in_ok-new.ensures.term in
    let x = template_tree c.in-Some.template in
    let has : r.match.rule.template ≡ Some x = ap (option_map template_tree) c.in-Some.is in
    step-put_in sig t r x new.spliced has new.instance c.put_in_within.result
    (c.in_ok-new.ensures.fits new.spliced new.instance)
    (subst (λ p. IsPutIn sig (replaced p (normal sig new.spliced) t) c.put_in_within.result) c.deref.ensures.value
    (subst (λ u. IsPutIn sig (replaced c.deref.result.now u t) c.put_in_within.result) new.result
    c.put_in_within.ensures.put))

pub returns-in_err-new-clause-step : goal.returns-in_err-new-clause-step
returns-in_err-new-clause-step c =
    let sig = c.args.sig.now in
    let t = tree c.args.into.term in
    let r = redex_of c.args.redex.now in
    let ready = c.requires.ready in
    let x = template_tree c.in-Some.template in
    let has : r.match.rule.template ≡ Some x = ap (option_map template_tree) c.in-Some.is in
    let both : Some ready.template ≡ Some x = sym ready.has_template ∙ has in
    let same : ready.template ≡ x = cc in
    let instance = subst (λ y. IsInstance y r.match.subst ready.spliced) same ready.instance in
    of-err (IsMade (step_at sig t r)) _ _ c.from_residual.ensures.1
    (step-refused sig t r x ready.spliced has instance _ c.in_err-new.ensures.fault)
