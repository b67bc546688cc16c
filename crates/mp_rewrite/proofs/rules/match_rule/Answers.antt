use Rattle.std.proofs.Common.{ap, refl}
use Rattle.std.specs.Prelude.{option_map}
use Rattle.mp_term.specs.View.{tree}
use Rattle.mp_pattern.specs.Planned.{planned_rule}
use Rattle.mp_cursor.proofs.FirstLaws.{no-item}
use Rattle.mp_rewrite.proofs.rules.match_rule.Goals as goal

pub returns-then-not-may_fit : goal.returns-then-not-may_fit
returns-then-not-may_fit c =
    let r = planned_rule c.args.planned.now in
    let t = tree c.args.term.now in
    ap (option_map (λ s. record { rule = r; subst = s }))
    (no-item c.args.sig.now r t c.requires.normal (c.if-not-may_fit.ensures.items refl c.requires.normal r refl))
