use Rattle.std.proofs.Common.{◌≡◌, ◌∙◌, true, sym, arith}
use Rattle.mp_pattern.specs.View.{pattern_tree}
use Rattle.mp_ac.specs.TakesOne.{takes_one}
use Rattle.mp_ac.proofs.SyntacticLaws.{all-more}
use Rattle.mp_ac.proofs.syntactic.leading.Goals as goal

pub loop-count-preserved : goal.loop-count-preserved
loop-count-preserved c = (
  omega (arith, c.loop-count-test.true),
  all-more (λ p. takes_one c.args.sig.now p ≡ true) pattern_tree c.args.children.now c.loop-count.count
      c.index-children-count.result c.loop-count-test.true c.index-children-count.is c.loop-count.invariant.1
      (sym c.takes_one.ensures ∙ c.if-takes_one.true),
)
