use Rattle.mp_theory.specs.Shape.{table_of}
use Rattle.mp_theory.proofs.ShapeLaws.{fits-shape, shape-fits}
use Rattle.mp_net.proofs.laws.syntactic_patterns_fit_by_shape.Goals as goal

pub returns : goal.returns
returns c = λ sig p t s k n. (
  (λ h. fits-shape sig p t s h.0 k h.1),
  (λ h.
      (table_of p t, shape-fits sig p t s k n h.0 h.1 h.2)),
)
