use Rattle.std.proofs.Common.{arith}
use Rattle.mp_term.proofs.NormalSize.{all_nodes-append, greatest_depth-append}
use Rattle.mp_term.proofs.size.Size.beside.Goals as goal

pub returns : goal.returns
returns c = λ ts us first second. record {
  nodes = omega (arith, all_nodes-append ts us, first.nodes, second.nodes);
  depth = omega (arith, greatest_depth-append ts us, first.depth, second.depth);
}
