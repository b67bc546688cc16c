use Rattle.std.proofs.Common.{arith, ◌∙◌, refl, rules}
use Rattle.mp_io.proofs.Pieces.{front_kept, rest_some, slice_written}
use Rattle.mp_io.proofs.whole.put.Goals as goal

pub returns-in-Err : goal.returns-in-Err
returns-in-Err g c =
    let cause = c.in-Err.ensures.cause in
    record {
      whole = tt;
      front = record {
        front = front_kept _ _ _ _ _ c.loop-rest.invariant.written c.in-Err.ensures.bytes;
        some = rest_some _ _ _ _ c.loop-rest.invariant.written (search rules);
      };
      cause = record { later = omega (arith, cause.later); stays = tt; failed = omega (arith, cause.failed) };
    }

pub loop-rest-preserved : goal.loop-rest-preserved
loop-rest-preserved g c =
    let cause = c.in-Ok.ensures.cause in
    record {
      written = slice_written _ _ _ _ _ _ _ c.loop-rest.invariant.written c.in-Ok.ensures.bytes refl;
      faults = c.in-Ok.ensures.cause.stays ∙ c.loop-rest.invariant.faults;
    }
