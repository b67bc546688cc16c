use Rattle.std.proofs.Common.{◌≡◌, ◌∙◌, sym, ap}
use Rattle.mp_pattern.specs.TemplateTree.{variable_template}
use Rattle.mp_pattern.specs.TemplateView.{template_tree}
use Rattle.mp_pattern.proofs.NameLaws.{same_name-is}
use Rattle.mp_rewrite.proofs.cancellation.is_variable.Goals as goal

pub returns-in-Var : goal.returns-in-Var
returns-in-Var c = λ t.
    let same : c.in-Var.own ≡ c.args.name.now =
    same_name-is c.in-Var.own c.args.name.now (sym c.eq.ensures ∙ t) in
    ap template_tree c.in-Var.is ∙ ap variable_template same
