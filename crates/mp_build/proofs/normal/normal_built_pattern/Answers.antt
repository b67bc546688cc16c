use Rattle.std.proofs.Common.{refl}
use Rattle.mp_build.proofs.Free.{normal_pattern-free, normal_pattern-kept}
use Rattle.mp_build.proofs.normal.normal_built_pattern.Goals as goal

pub returns-then-are_few_and_free : goal.returns-then-are_few_and_free
returns-then-are_few_and_free c =
    let sig = c.args.sig.now in
    elim c.then-are_few_and_free.branch [
      | goal.then-are_few_and_free-via-then-are_few_and_free w ↦ (
        refl,
        normal_pattern-kept sig _ _
            (normal_pattern-free sig (c.are_few_and_free.ensures w.if-are_few_and_free.true) _) refl,
      )
      | goal.then-are_few_and_free-via-else-are_few_and_free+then-is_plain w ↦ (
        refl,
        normal_pattern-kept sig _ _ (w.is_plain.ensures w.if-is_plain.true) refl,
      )
    ]
