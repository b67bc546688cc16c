use Rattle.std.proofs.Common.{subst}
use Rattle.std.specs.declared.cmp.Ordering.TheVariants.{Equal}
use Rattle.std.proofs.lemmas.Cmp.{tied_itself}
use Rattle.mp_pattern.specs.Order.{pattern_cmp}
use Rattle.mp_pattern.specs.PatternOrderLaws.{pattern_cmp_total, pattern_same}
use Rattle.std.proofs.Common.{◌≡◌}
use Rattle.mp_pattern.proofs.laws.pattern_order_is_total.Goals as goal

pub returns : goal.returns
returns c = record {
  total = pattern_cmp_total;
  equal = λ p q. (pattern_same p q, λ e. subst (λ r. pattern_cmp p r ≡ Equal) e (tied_itself pattern_cmp_total p));
}
