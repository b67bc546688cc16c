use Rattle.std.proofs.Common.{◌≡◌, List, ◌∷◌, [], true, ◌∙◌, sym, subst, ap}
use Rattle.std.specs.Prelude.{◌↔◌}
use Rattle.mp_term.specs.View.{tree}
use Rattle.mp_pattern.specs.View.{pattern_tree}
use Rattle.mp_pattern.specs.Plan.{Plan}
use Rattle.mp_pattern.specs.Value.{Subst}
use Rattle.mp_pattern.specs.Fits.{Fits}
use Rattle.mp_theory.specs.Frames.{Frame, settle, start}
use Rattle.mp_one.specs.Stack.{frame_of}
use Rattle.mp_one.specs.Check.{goes_on}
use Rattle.mp_one.proofs.CheckLaws.{goes_on-fits}
use Rattle.mp_one.proofs.check.check_takes.Goals as goal

pub returns : goal.returns
returns c p h =
    let sig = c.args.sig.now in
    let t = tree c.args.subject.now in
    let T = c.args.takes.now in
    let pattern : pattern_tree c.pattern.result.now ≡ p = c.pattern.ensures ∙ ap (λ (l : Plan). l.pattern) h in
    let fits : c.in_ok-fits.fits ≡ goes_on sig (settle (start p t)) [] T =
    c.in_ok-fits.ensures
    ∙ ap (λ T. goes_on sig (settle (frame_of c.in_ok-frame.frame ∷ [])) [] T) c.as_slice.ensures
    ∙ ap (λ (fs : List Frame). goes_on sig (settle fs) [] T) c.in_ok-frame.ensures
    ∙ ap (λ q. goes_on sig (settle (start q t)) [] T) pattern in
    subst (λ b. (b ≡ true) ↔ ((s : Subst) × Fits sig p t s T)) (sym fits) (goes_on-fits sig p t T c.requires)
