use Rattle.std.proofs.Common.{length, ap, sym, ◌∙◌}
use Rattle.std.specs.Prelude.{slice_get}
use Rattle.mp_theory.specs.Frames.{settle, start}
use Rattle.mp_theory.proofs.Nodes.{node-onward_all, nodes-start}
use Rattle.mp_theory.proofs.laws.the_next_child_is_a_node_of_the_pattern.Goals as goal

pub returns : goal.returns
returns a p c t T f fs h =
    ap (λ ps. slice_get ps (length T)) (sym (nodes-start p t)) ∙ node-onward_all (settle (start p t)) T c f fs h
