use Rattle.std.proofs.Common.{refl}
use Rattle.mp_build.proofs.Free.{normal-free, normal-kept}
use Rattle.mp_build.proofs.build.normal_built.Goals as goal
use Rattle.mp_build.proofs.build.normal_built.Goals.{then-are_few_and_free-via-then-are_few_and_free}
use Rattle.mp_build.proofs.build.normal_built.Goals.{then-are_few_and_free-via-else-are_few_and_free+then-is_normal}

pub returns-then-are_few_and_free : goal.returns-then-are_few_and_free
returns-then-are_few_and_free c =
    let sig = c.args.sig.now in
    elim c.then-are_few_and_free.branch [
      | then-are_few_and_free-via-then-are_few_and_free w ↦ (
        refl,
        normal-kept sig _ _ (normal-free sig (c.are_few_and_free.ensures w.if-are_few_and_free.true) _) refl,
      )
      | then-are_few_and_free-via-else-are_few_and_free+then-is_normal w ↦ (
        refl,
        normal-kept sig _ _ (w.is_normal.ensures.0 w.if-is_normal.true) refl,
      )
    ]
