use Rattle.std.proofs.Common.{◌∙◌, sym, subst}
use Rattle.mp_cursor.specs.Matched.{IsDecided}
use Rattle.mp_cursor.specs.Parts.{item_of}
use Rattle.mp_cursor.proofs.SoughtLaws.{decided-least}
use Rattle.mp_cursor.proofs.parts.Parts.is_chosen.Goals as goal

pub returns-then-decides_table-clause-least : goal.returns-then-decides_table-clause-least
returns-then-decides_table-clause-least c =
    let m = c.args.matched in
    c.if-decides_table.true
    ∙ sym (decided-least m c.requires.matched (subst (IsDecided m) c.if-decides_table.true c.requires.decides)
    (item_of m c.args.self.now) c.requires.item)
