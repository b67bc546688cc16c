use Rattle.std.proofs.Common.{◌≡◌, Some, length, refl}
use Rattle.std.specs.Prelude.{slice_get}
use Rattle.std.proofs.lemmas.Option.{slice_get_read}
use Rattle.mp_print.proofs.rank_printer.RankBase.kept.Goals as goal

pub returns-then-part : goal.returns-then-part
returns-then-part c =
    let parts = c.args.self.now.parts.now in
    let part = c.in_ok-part.field-0.now in
    let here : slice_get parts c.args.rank.0 ≡ Some part = slice_get_read parts (length parts) c.args.rank.0 part refl
    c.in_ok-part.ensures.lookup.3.0 c.in_ok-part.ensures.lookup.1 in
    λ sig kept. kept c.args.rank part here c.if-part.true
