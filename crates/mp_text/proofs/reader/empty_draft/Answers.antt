use Rattle.std.proofs.Common.{length, arith, refl, ap}
use Rattle.mp_text.proofs.reader.empty_draft.Goals as goal

pub returns : goal.returns
returns c = record {
  file = rw (c.rules_with_room.ensures, c.with_room.ensures, c.new.ensures) refl;
  rules = c.with_room-2.ensures;
  subjects = c.with_room-3.ensures;
  few = omega (arith, ap length c.with_room-3.ensures);
}
