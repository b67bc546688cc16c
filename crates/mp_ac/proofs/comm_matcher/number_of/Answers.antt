use Rattle.std.proofs.Common.{ap, sym, ◌∙◌}
use Rattle.std.specs.Prelude.{ℕ, Option, Some, None, slice_index_or}
use Rattle.mp_ac.proofs.MatcherLaws.{number-placed}
use Rattle.mp_ac.proofs.comm_matcher.number_of.Goals as goal

pub returns-in-None : goal.returns-in-None
returns-in-None c =
    sym (number-placed c.args.vars.now c.args.plan.now.variables c.args.name.now c.requires
    ∙ ap (λ (o : Option ℕ). elim o as (λ _. ℕ) [ None ↦ 0 | Some i ↦ slice_index_or c.args.vars.now i 0 ])
    (sym c.find_var.ensures ∙ c.in-None.is))

pub returns-in-Some : goal.returns-in-Some
returns-in-Some c =
    sym (number-placed c.args.vars.now c.args.plan.now.variables c.args.name.now c.requires
    ∙ ap (λ (o : Option ℕ). elim o as (λ _. ℕ) [ None ↦ 0 | Some i ↦ slice_index_or c.args.vars.now i 0 ])
    (sym c.find_var.ensures ∙ c.in-Some.is))
