use Rattle.std.proofs.Common.{arith, ◌+◌, ◌-◌, None, length-set, slice_index}
use Rattle.std.proofs.lemmas.Slice.Zip.{AllZip-long}
use Rattle.mp_choice.specs.Splits.{Allows}
use Rattle.mp_choice.proofs.SplitLaws.{leasts_le}
use Rattle.mp_choice.proofs.SplitLoops.{all_possible, all_bounded, spare_within, next-risen}
use Rattle.mp_choice.proofs.splits.following.Goals as goal

pub pack-requires-clause-same_length : goal.pack-requires-clause-same_length
pack-requires-clause-same_length c = omega (
  arith,
  AllZip-long Allows c.args.parts.now c.args.lengths.now c.requires.within,
  length-set c.args.lengths.now c.in-Some.i (slice_index c.args.lengths.now c.in-Some.i + 1),
)

pub pack-requires-clause-within : goal.pack-requires-clause-within
pack-requires-clause-within c =
    omega (arith, AllZip-long Allows c.args.parts.now c.args.lengths.now c.requires.within, c.in-Some.ensures.inside)

pub pack-requires-clause-possible : goal.pack-requires-clause-possible
pack-requires-clause-possible c = all_possible c.args.parts.now c.args.lengths.now (c.in-Some.i + 1) c.requires.within

pub pack-requires-clause-bounds : goal.pack-requires-clause-bounds
pack-requires-clause-bounds c = all_bounded c.args.parts.now (c.in-Some.i + 1) (c.in-Some.spare - 1)
    (omega (
      arith,
      leasts_le c.args.parts.now c.args.lengths.now c.requires.within,
      spare_within c.args.parts.now c.args.lengths.now c.in-Some.i c.in-Some.spare c.in-Some.ensures,
    ))

pub returns-in-Some : goal.returns-in-Some
returns-in-Some c = next-risen c.args.parts.now c.args.lengths.now c.pack.new.lengths c.in-Some.i c.in-Some.spare
    c.pack.result (record { least = 0; most = None }) c.requires.within c.in-Some.ensures
    (omega (arith, length-set c.args.lengths.now c.in-Some.i (slice_index c.args.lengths.now c.in-Some.i + 1)))
    c.pack.ensures.before c.pack.ensures.packed
