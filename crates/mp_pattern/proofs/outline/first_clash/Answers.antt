use Rattle.std.proofs.Common.{◌∙◌, sym}
use Rattle.mp_pattern.proofs.PlanLaws.{first_clash_after-more, first_clash_after-found}
use Rattle.mp_pattern.specs.View.{pattern_tree}
use Rattle.mp_pattern.proofs.outline.first_clash.Goals as goal

pub returns-then-clashes_with_any-clause-index : goal.returns-then-clashes_with_any-clause-index
returns-then-clashes_with_any-clause-index c =
    sym (first_clash_after-found (λ p. pattern_tree p.now) c.args.patterns.now c.loop-i.i c.index-patterns-i.result
    c.loop-i-test.true c.index-patterns-i.is (sym c.clashes_with_any.ensures ∙ c.if-clashes_with_any.true))
    ∙ c.loop-i.invariant

pub loop-i-preserved : goal.loop-i-preserved
loop-i-preserved c =
    sym (first_clash_after-more (λ p. pattern_tree p.now) c.args.patterns.now c.loop-i.i c.index-patterns-i.result
    c.loop-i-test.true c.index-patterns-i.is (sym c.clashes_with_any.ensures ∙ c.if-clashes_with_any.false))
    ∙ c.loop-i.invariant
