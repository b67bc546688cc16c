use Rattle.std.proofs.Common.{sym, ◌∙◌}
use Rattle.mp_line.proofs.SymbolLaws.{name-free}
use Rattle.mp_line.proofs.token.free_name.Goals as goal

pub returns : goal.returns
returns c = name-free c.args.sig.now c.args.text.now c.find_op.result c.name.result
    (sym c.is_some.ensures ∙ c.if-is_some.false) c.find_op.ensures c.name.ensures
