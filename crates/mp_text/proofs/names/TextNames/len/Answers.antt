use Rattle.std.proofs.Common.{◌∙◌, length, sym, ap}
use Rattle.std.proofs.lemmas.List.{length-map}
use Rattle.mp_text.proofs.names.TextNames.len.Goals as goal

pub returns : goal.returns
returns c = c.len.ensures.len ∙ sym (length-map c.self.inside.names.keys (λ k. k.now)) ∙ ap length c.self.view_is
