use Rattle.std.proofs.Common.{◌≡◌, ◌<◌, ◌∙◌, length, ap, sym, arith}
use Rattle.std.specs.Prelude.{Some, option_map, slice_get, slice_set}
use Rattle.std.proofs.lemmas.List.{length-map, map-set}
use Rattle.std.proofs.lemmas.Option.{slice_get-map}
use Rattle.mp_walk.specs.InstrView.{plain_instr}
use Rattle.mp_walk.proofs.OpeningLaws.{index-at}
use Rattle.mp_walk.proofs.instr.Instrs.link.Goals as goal

pub returns : goal.returns
returns c = λ i e.
    let is = c.self.inside.items.items in
    let n = c.args.index in
    let own = c.index_mut-instr.result.now in
    let within : n < length is =
    omega (arith, c.requires, ap length c.self.view_is, length-map is plain_instr) in
    let at : slice_get is n ≡ Some own = index-at is n own within c.index_mut-instr.ensures.value in
    let found : Some (plain_instr own) ≡ Some i = sym (slice_get-map plain_instr is n ∙ ap (option_map plain_instr) at)
    ∙ ap (λ ks. slice_get ks n) c.self.view_is ∙ e in
    let same : plain_instr own ≡ i = cc in
    map-set plain_instr is n _ ∙ (λ j. slice_set (c.self.view_is j) n (record {
      token = (same j).token;
      down = c.args.down;
      over = c.args.over;
      accepts = (same j).accepts;
    }))
