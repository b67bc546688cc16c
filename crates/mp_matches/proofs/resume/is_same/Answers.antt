use Rattle.std.proofs.Common.{◌∙◌}
use Rattle.std.proofs.lemmas.Map.Text.{is_eq-slice_cmp}
use Rattle.mp_matches.proofs.resume.is_same.Goals as goal

pub returns : goal.returns
returns c = c.eq.ensures ∙ is_eq-slice_cmp c.args.own.now c.args.name.now
