use Rattle.std.proofs.Common.{None, ap, sym, ◌∙◌}
use Rattle.std.specs.Prelude.{option_map, slice_get}
use Rattle.std.proofs.lemmas.Option.{slice_get-map}
use Rattle.mp_pattern.specs.Plan.{Plan, nodes}
use Rattle.mp_pattern.specs.PlanView.{kept_of, names_of, stored}
use Rattle.mp_pattern.specs.View.{pattern_tree}
use Rattle.mp_pattern.proofs.KeptNodes.{stored-got}
use Rattle.mp_pattern.proofs.plan.Plan.kept.Goals as goal

pub returns : goal.returns
returns c =
    let items = c.self.inside.nodes.items in
    let ns = nodes (names_of c.self.inside.variables.items) None 0 (pattern_tree c.self.inside.pattern) in
    stored-got c.deref.result.now c.args.node c.get.result c.get.ensures.lookup
    ∙ ap (λ l. option_map stored (slice_get l c.args.node)) c.deref.ensures.value
    ∙ sym (slice_get-map stored items c.args.node) ∙ ap (λ l. slice_get l c.args.node) c.self.invariant.0
    ∙ slice_get-map kept_of ns c.args.node
    ∙ ap (λ (s : Plan). option_map kept_of (slice_get s.nodes c.args.node)) c.self.view_is
