use Rattle.std.proofs.Common.{◌≡◌, ◌∙◌, ap, map, refl}
use Rattle.std.specs.Prelude.{slice_set}
use Rattle.mp_term.specs.View.{tree}
use Rattle.mp_pattern.specs.PatternTree.{app_pattern, patterns}
use Rattle.mp_pattern.specs.View.{pattern_tree}
use Rattle.mp_rewrite.proofs.Apart.{never-taken}
use Rattle.mp_rewrite.proofs.quiet.never_fits.Goals as goal

pub returns-in-App : goal.returns-in-App
returns-in-App c = λ n free u r normal is.
    let ps = patterns (map pattern_tree c.as_slice.result.now) in
    let own : pattern_tree c.args.pattern.now ≡ app_pattern c.in-App.own.0 ps =
    rw (c.in-App.is, c.as_slice.ensures) refl in
    never-taken c.args.sig.now c.args.op.0 ps (slice_set (map tree c.args.args.now) c.args.index u) r free normal
    (is ∙ own ∙ ap (λ g. app_pattern g ps) c.if-own-op.true)
    (λ s ls Ws h e. c.are_apart.ensures n s c.args.op.0 ls Ws u free.assoc h e)
