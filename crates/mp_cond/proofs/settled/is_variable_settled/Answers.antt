use Rattle.std.proofs.Common.{◌∙◌, sym, ap}
use Rattle.std.specs.Prelude.{position}
use Rattle.mp_pattern.specs.Value.{same_name}
use Rattle.mp_cond.specs.Verdict.{is_in_form, is_bound_in_form}
use Rattle.mp_cond.proofs.settled.is_variable_settled.Goals as goal

pub returns-in-Some : goal.returns-in-Some
returns-in-Some c =
    let p = c.args.plan.now in
    let t = c.args.trail.now in
    c.is_in_form.ensures ∙ (λ i. is_in_form (c.var_form.ensures i) (c.binding.ensures.value i))
    ∙ ap (is_bound_in_form p t) (sym c.in-Some.is ∙ c.find_var.ensures)
    ∙ ap (λ x. is_bound_in_form p t (position (λ v. same_name x v.name) p.variables)) c.bytes.ensures.bytes
