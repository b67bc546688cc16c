use Rattle.std.proofs.Common.{◌≡◌, map, drop}
use Rattle.mp_term.specs.Tree.{trees}
use Rattle.mp_term.specs.View.{tree}
use Rattle.mp_term.specs.Signature.{is_assoc}
use Rattle.mp_term.specs.NormalTest.{passes, all_pass}
use Rattle.mp_term.proofs.normal.+passes.Given as goal

abbrev pub invariant-loop-arg : goal.invariant-loop-arg
invariant-loop-arg l = record {
  assoc : l.assoc ≡ is_assoc l.sig l.op.0;
  rest : all_pass l.sig l.op.0 (trees (map tree (drop l.arg-index l.arg-items))) ≡ passes l.sig (tree l.term);
}
