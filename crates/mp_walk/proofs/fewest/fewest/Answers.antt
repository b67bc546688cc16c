use Rattle.std.proofs.Common.{◌<◌, ◌+◌, length, refl, arith}
use Rattle.std.proofs.lemmas.List.{length-map}
use Rattle.mp_table.specs.Table.{term_at}
use Rattle.mp_search.specs.Frames.{above}
use Rattle.mp_walk.specs.InstrView.{plain_instr}
use Rattle.mp_walk.specs.OpenOnes.{open_of}
use Rattle.mp_walk.proofs.MostLaws.{front-idle}
use Rattle.mp_walk.proofs.fewest.fewest.Goals as goal

pub returns-in-Some : goal.returns-in-Some
returns-in-Some c fs s n r h m =
    let many = length-map c.args.frame.now.left.now (term_at c.args.set.table.now) in
    let less = c.saturating_sub.ensures in
    let f = open_of c.args.set.table.now c.args.frame.now in
    let more : n + c.in-Some.most < length f.left = omega (arith, h, less, many) in
    front-idle c.args.set.sig.now c.args.set.code.now.instrs (plain_instr c.args.instr.now)
    (above c.args.frame.now.under) c.in-Some.most c.in-Some.ensures (c.is_wild.ensures c.if-not-is_wild.false) f fs s n
    r refl more m
