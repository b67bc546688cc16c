use Rattle.std.proofs.Common.{◌∙◌, ap}
use Rattle.mp_pattern.specs.Firsts.{firsts_after}
use Rattle.mp_pattern.specs.UsedNames.{used_names}
use Rattle.mp_pattern.specs.Value.{same_name}
use Rattle.mp_pattern.specs.View.{pattern_tree}
use Rattle.mp_pattern.proofs.UsedNameLaws.{firsts-used_names}
use Rattle.mp_pattern.proofs.first_names.variable_names.Goals as goal

pub returns : goal.returns
returns c =
    let p = pattern_tree c.args.pattern.now in
    c.in_ok-add_names.ensures ∙ ap (λ ns. firsts_after same_name ns (used_names p)) c.new-names.ensures
    ∙ firsts-used_names p
