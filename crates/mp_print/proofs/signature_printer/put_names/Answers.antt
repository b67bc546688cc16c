use Rattle.std.proofs.Common.{[], arith, map-id, get_or, ap, ◌<◌, ◌≡◌, length}
use Rattle.std.specs.Prelude.{codes, slice_get, unwrap_or}
use Rattle.std.proofs.lemmas.List.{get_or_default}
use Rattle.std.proofs.lemmas.Option.{slice_get-get_or}
use Rattle.mp_io.specs.Devices.{Text}
use Rattle.mp_print.proofs.Separated.{Puts-separated}
use Rattle.mp_print.proofs.signature_printer.put_names.Goals as goal

pub loop-index-preserved : goal.loop-index-preserved
loop-index-preserved g c =
    let names = c.args.names.now in
    let index = c.loop-index.index in
    let name = get_or names index [] in
    let within : index < length names = omega arith in
    let same : unwrap_or (slice_get names index) [] ≡ name =
    ap (λ o. unwrap_or o []) (slice_get-get_or names index [] within) in
    Puts-separated g.K.Sink (λ (n : Text). n) (codes " ") names names (map-id names) index name within
    (get_or_default names index [] name within) _ _ _ _
    c.loop-index.invariant c.put_gap.ensures (rw same at c.put_name_of.ensures)
