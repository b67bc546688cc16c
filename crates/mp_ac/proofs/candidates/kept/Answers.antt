use Rattle.std.proofs.Common.{length, refl}
use Rattle.std.proofs.lemmas.Option.{slice_get_read}
use Rattle.mp_ac.proofs.candidates.kept.Goals as goal

pub returns-then-is_of : goal.returns-then-is_of
returns-then-is_of c =
    let list = c.args.list.now in
    let entry = c.in_ok-entry.entry.now in
    let asked = c.is_of.ensures c.if-is_of.true in
    record {
      entry = entry;
      held = slice_get_read list (length list) c.args.number entry refl c.in_ok-entry.ensures.lookup.3.0
          c.in_ok-entry.ensures.lookup.1;
      node = asked.0;
      alone = asked.1;
      part = refl;
    }
