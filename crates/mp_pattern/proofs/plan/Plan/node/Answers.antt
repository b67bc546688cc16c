use Rattle.std.proofs.Common.{◌≡◌, None, ap, sym, subst, ◌∙◌}
use Rattle.std.specs.Prelude.{Some, option_map, slice_get}
use Rattle.std.specs.Option.{option_and_then}
use Rattle.mp_pattern.specs.Plan.{Plan, Node, label_variable}
use Rattle.mp_pattern.specs.PlanView.{names_of, shown_label, variable_label}
use Rattle.mp_pattern.specs.View.{pattern_tree}
use Rattle.mp_pattern.proofs.KeptNodes.{label-found, label-none}
use Rattle.mp_pattern.proofs.plan.Plan.node.Goals as goal

pub returns-in-Ok : goal.returns-in-Ok
returns-in-Ok c =
    let names = names_of c.self.inside.variables.items in
    let p = pattern_tree c.self.inside.pattern in
    let q = pattern_tree c.in-Ok.pattern.now in
    let number =
    c.variable_at-variable.ensures
    ∙ ap (λ (s : Plan). option_and_then (λ (m : Node). label_variable m.label) (slice_get s.nodes c.args.node))
    (sym c.self.view_is) in
    subst (λ (s : Plan). Some (shown_label c.show.result)
    ≡ option_map (λ (m : Node). m.label) (slice_get s.nodes c.args.node)) c.self.view_is
    (ap Some (c.show.ensures ∙ ap (variable_label q) number) ∙ label-found names p c.args.node q c.in-Ok.ensures.found)

pub returns-in-Err : goal.returns-in-Err
returns-in-Err c =
    let names = names_of c.self.inside.variables.items in
    subst (λ (s : Plan). None ≡ option_map (λ (m : Node). m.label) (slice_get s.nodes c.args.node)) c.self.view_is
    (label-none names (pattern_tree c.self.inside.pattern) c.args.node c.in-Err.field-0 c.in-Err.ensures.behind)
