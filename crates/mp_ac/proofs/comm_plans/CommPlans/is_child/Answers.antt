use Rattle.std.proofs.Common.{ap, sym, ◌∙◌}
use Rattle.std.specs.Prelude.{Some, option_map}
use Rattle.mp_pattern.specs.View.{pattern_tree}
use Rattle.mp_ac.proofs.PreparedLaws.{equal-tree}
use Rattle.mp_ac.proofs.comm_plans.CommPlans.is_child.Goals as goal

pub returns-in-Some : goal.returns-in-Some
returns-in-Some c = λ t.
    sym c.child.ensures ∙ ap (option_map (λ p. pattern_tree p.now)) c.in-Some.is
    ∙ ap Some (equal-tree c.in-Some.own.now c.args.child.now (sym c.eq.ensures ∙ t))
