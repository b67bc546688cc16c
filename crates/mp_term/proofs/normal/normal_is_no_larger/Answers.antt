use Rattle.mp_term.proofs.NormalSize.{node_count-normal, depth-normal}
use Rattle.mp_term.proofs.normal.normal_is_no_larger.Goals as goal

pub returns : goal.returns
returns c = record { nodes = node_count-normal; depth = depth-normal }
