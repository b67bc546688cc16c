use Rattle.std.proofs.Common.{◌+◌, max, arith}
use Rattle.mp_term.specs.Size.{node_count}
use Rattle.mp_pattern.specs.declared.limits.TheConstants.{MAX_DEFAULT_NODES}
use Rattle.mp_theory.proofs.ValueSizes.{fits-within}
use Rattle.mp_theory.proofs.laws.a_substitution_is_within_its_subject.Goals as goal

pub returns : goal.returns
returns c = λ sig p t s T small h.
    fits-within sig (max MAX_DEFAULT_NODES (node_count t + 1)) (omega arith) p t s T small (omega arith) h
