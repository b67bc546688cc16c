use Rattle.std.proofs.Common.{arith, ◌-◌, None, ◌≡◌, true, false}
use Rattle.std.proofs.lemmas.Slice.Zip.{AllZip-long}
use Rattle.mp_choice.specs.Splits.{Allows}
use Rattle.mp_choice.proofs.SplitLoops.{allows_at, stuck-end, spare_le, stuck-more}
use Rattle.mp_choice.proofs.splits.rise.Goals as goal
use Rattle.mp_choice.proofs.splits.rise.Goals.{else-spare-gt0-via-then-spare-gt0+else-can_rise}
use Rattle.mp_choice.proofs.splits.rise.Goals.{else-spare-gt0-via-else-spare-gt0}

pub loop-i-init : goal.loop-i-init
loop-i-init c = stuck-end c.args.parts.now c.args.lengths.now c.requires.within

pub can_rise-requires : goal.can_rise-requires
can_rise-requires c =
    record {
      least = (allows_at c.args.parts.now c.args.lengths.now (c.loop-i.i - 1) _ c.requires.within
          (omega arith)).least;
    }

pub bounds-lengths-i-in-loop-i : goal.bounds-lengths-i-in-loop-i
bounds-lengths-i-in-loop-i c = omega (arith, AllZip-long Allows c.args.parts.now c.args.lengths.now c.requires.within)

pub overflow_sub-spare : goal.overflow_sub-spare
overflow_sub-spare c =
    (allows_at c.args.parts.now c.args.lengths.now (c.loop-i.i - 1) _ c.requires.within (omega arith)).least

pub overflow_add-spare : goal.overflow_add-spare
overflow_add-spare c =
    omega (
      arith,
      spare_le c.args.parts.now c.args.lengths.now c.loop-i.i (c.loop-i.i - 1) c.loop-i.spare
          (record { least = 0; most = None }) (omega arith) (omega arith) c.requires.within c.loop-i.invariant,
    )

pub loop-i-preserved : goal.loop-i-preserved
loop-i-preserved c =
    stuck-more c.args.parts.now c.args.lengths.now c.loop-i.i (c.loop-i.i - 1) c.loop-i.spare
    (record { least = 0; most = None }) (omega arith) (omega arith) c.requires.within c.loop-i.invariant
    (λ up. elim c.else-spare-gt0.branch [
      | else-spare-gt0-via-then-spare-gt0+else-can_rise w ↦
          (let wrong : false ≡ true = w.if-can_rise.ensures.1 up in cc)
      | else-spare-gt0-via-else-spare-gt0 w ↦
          omega arith
    ])
