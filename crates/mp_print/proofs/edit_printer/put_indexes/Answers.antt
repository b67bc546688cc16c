use Rattle.std.proofs.Common.{refl, sym, get_or, length, arith, ◌<◌}
use Rattle.std.specs.Prelude.{codes, decimal}
use Rattle.std.proofs.lemmas.List.{get_or_default}
use Rattle.mp_print.proofs.Separated.{Puts-separated}
use Rattle.mp_print.proofs.edit_printer.put_indexes.Goals as goal

pub loop-place-preserved : goal.loop-place-preserved
loop-place-preserved g c =
    let indexes = c.args.indexes.now in
    let place = c.loop-place.place in
    let within : place < length indexes = omega arith in
    Puts-separated g.K.Sink decimal (codes ".") indexes _ refl place (get_or indexes place 0) within
    (sym (get_or_default indexes place (get_or indexes place 0) 0 within)) _ _ _ _
    c.loop-place.invariant c.put_gap.ensures c.put_number.ensures
