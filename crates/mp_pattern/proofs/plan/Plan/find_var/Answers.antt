use Rattle.mp_term.proofs.SignatureLaws.{position-map}
use Rattle.mp_pattern.specs.Value.{same_name}
use Rattle.mp_pattern.specs.Plan.{Variable}
use Rattle.mp_pattern.specs.PlanView.{variable}
use Rattle.mp_pattern.proofs.plan.Plan.find_var.Goals as goal

pub returns-in-None : goal.returns-in-None
returns-in-None c =
    rw (
      ← c.self.view_is,
      position-map (λ (v : Variable). same_name c.args.name.now v.name) variable
          c.self.inside.variables.items,
      ← c.deref.ensures.value,
    ) c.in-None.ensures.index

pub returns-in-Some : goal.returns-in-Some
returns-in-Some c =
    rw (
      ← c.self.view_is,
      position-map (λ (v : Variable). same_name c.args.name.now v.name) variable
          c.self.inside.variables.items,
      ← c.deref.ensures.value,
    ) c.in-Some.ensures.index
