use Rattle.std.proofs.Common.{◌≡◌, ◌∙◌, ◌+◌, ◌-◌, take, set, sym, subst, arith}
use Rattle.std.specs.List.{insert}
use Rattle.std.proofs.lemmas.List.{length-set, length-take-le}
use Rattle.mp_table.specs.declared.piece.Piece.{Piece}
use Rattle.mp_table.proofs.Inserted.{gap-down}
use Rattle.mp_table.proofs.pieces.put_piece.Goals as goal

pub loop-end-preserved : goal.loop-end-preserved
loop-end-preserved c =
    let pieces = c.loop-end.pieces in
    let old = c.args.pieces.now in
    let count = c.args.count in
    let end = c.loop-end.end in
    let known = c.loop-end.invariant in
    record {
      room = length-set pieces end c.index-pieces-end.result ∙ known.room;
      low = omega (arith, c.loop-end-test.true);
      high = omega (arith, known.high);
      gap = subst (λ y. (x : Piece)
          → take (count + 1) (set (set pieces end y) (end - 1) x) ≡ insert (take count old) (end - 1) x)
          (sym c.index-pieces-end.is)
          (gap-down pieces (take count old) count end c.index-pieces-end.result (omega (arith, c.loop-end-test.true))
          known.high (omega (
            arith,
            known.high,
            c.requires.room,
            length-take-le count old (omega (
              arith,
              c.requires.room,
            )),
          )) known.gap);
    }
