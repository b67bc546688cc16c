use Rattle.std.proofs.Common.{◌∙◌, ap, sym}
use Rattle.std.specs.Prelude.{position, bytes_eq}
use Rattle.mp_term.proofs.SignatureLaws.{position-map}
use Rattle.mp_term.proofs.name_table.NameTable.index_of.Goals as goal

pub returns-else-len-le-FEW-clause-index : goal.returns-else-len-le-FEW-clause-index
returns-else-len-le-FEW-clause-index c = c.get_index_of.ensures.index
    ∙ sym (position-map (bytes_eq c.args.name.now) (λ k. k.items) c.self.inside.names.keys)
    ∙ ap (position (bytes_eq c.args.name.now)) c.self.view_is
