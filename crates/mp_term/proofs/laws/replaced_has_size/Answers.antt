use Rattle.mp_term.proofs.ReplacedLaws.{nodes-replaced, deep-replaced, shallow-replaced}
use Rattle.mp_term.proofs.laws.replaced_has_size.Goals as goal

pub returns : goal.returns
returns c = record {
  nodes = λ p u t v. nodes-replaced u v p t;
  reaches = λ p u t v. deep-replaced u v p t;
  within = shallow-replaced;
}
