use Rattle.std.proofs.Common.{◌+◌, drop, map, ap, ◌∙◌, arith}
use Rattle.std.specs.Prelude.{slice_get}
use Rattle.mp_pattern.specs.PatternTree.{patterns}
use Rattle.mp_pattern.specs.Size.{all_pattern_nodes}
use Rattle.mp_pattern.specs.Subpatterns.{all_subpatterns}
use Rattle.mp_pattern.specs.View.{pattern_tree}
use Rattle.mp_pattern.proofs.KeptNodes.{first-found, first-passed, patterns-item}
use Rattle.mp_pattern.proofs.plan.+subpattern_at.Goals as goal

pub returns-in-Ok-clause-found : goal.returns-in-Ok-clause-found
returns-in-Ok-clause-found t c =
    let items = c.deref-arg-items.result.now in
    let n = c.loop-arg.arg-index in
    let x = c.arg-item.result in
    let split = patterns-item pattern_tree items n x c.loop-arg-test.true c.arg-item.is in
    c.loop-arg.invariant.place
    ∙ ap (λ ps. slice_get (all_subpatterns ps) c.loop-arg.left) split
    ∙ first-found (pattern_tree x) (patterns (map pattern_tree (drop (n + 1) items))) c.loop-arg.left
    (pattern_tree c.in-Ok.found.now) c.in-Ok.ensures.found

pub loop-arg-preserved : goal.loop-arg-preserved
loop-arg-preserved t c =
    let items = c.deref-arg-items.result.now in
    let n = c.loop-arg.arg-index in
    let x = c.arg-item.result in
    let split = patterns-item pattern_tree items n x c.loop-arg-test.true c.arg-item.is in
    let more = patterns (map pattern_tree (drop (n + 1) items)) in
    record {
      place = c.loop-arg.invariant.place
          ∙ ap (λ ps. slice_get (all_subpatterns ps) c.loop-arg.left) split
          ∙ first-passed (pattern_tree x) more c.loop-arg.left c.in-Err.behind c.in-Err.ensures.behind;
      left = omega (arith, c.loop-arg.invariant.left, ap all_pattern_nodes split, c.in-Err.ensures.behind);
    }
