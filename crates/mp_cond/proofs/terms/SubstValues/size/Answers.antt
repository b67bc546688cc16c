use Rattle.std.proofs.Common.{◌-◌, ◌^◌, min, ap, ◌∙◌}
use Rattle.mp_term.specs.Size.{all_nodes}
use Rattle.mp_pattern.specs.CondView.{operand}
use Rattle.mp_subst.specs.View.{subst_of}
use Rattle.mp_cond.proofs.Counted.{min-all_nodes}
use Rattle.mp_cond.proofs.terms.SubstValues.size.Goals as goal

pub returns : goal.returns
returns c =
    c.from.ensures ∙ c.total_nodes.ensures ∙ ap (λ ts. min (all_nodes ts) (2 ^ 64 - 1)) c.list_of.ensures
    ∙ min-all_nodes (subst_of c.args.self.now) (operand c.args.a.now) c.requires
