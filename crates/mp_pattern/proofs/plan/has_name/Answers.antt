use Rattle.std.proofs.Common.{◌∙◌, ap, sym}
use Rattle.std.specs.Str.{bytes_eq}
use Rattle.std.proofs.lemmas.Map.Text.{is_eq-slice_cmp}
use Rattle.mp_pattern.proofs.plan.has_name.Goals as goal

pub returns : goal.returns
returns c = c.eq.ensures ∙ ap (bytes_eq c.args.name.now) c.bytes.ensures.bytes
    ∙ sym (is_eq-slice_cmp c.args.name.now c.args.variable.now.name)
