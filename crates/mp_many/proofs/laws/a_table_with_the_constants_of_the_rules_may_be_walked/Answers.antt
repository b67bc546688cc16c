use Rattle.std.specs.Prelude.{IsSome}
use Rattle.mp_table.specs.Table.{rank_of}
use Rattle.mp_many.proofs.ConstantLaws.{tree-constants}
use Rattle.mp_many.proofs.laws.a_table_with_the_constants_of_the_rules_may_be_walked.Goals as goal

pub returns : goal.returns
returns c = λ m t normal few held. record {
  normal = normal;
  few = few;
  constants = tree-constants (λ u. IsSome (rank_of t u)) m.sig m.rules held;
}
