use Rattle.std.proofs.Common.{[], ◌∷◌, arith}
use Rattle.mp_pattern.specs.Planned.{planned_rule}
use Rattle.mp_pattern.proofs.ConstantLaws.{constants-nodes, constants-normal}
use Rattle.mp_tests.proofs.first_rule.check_subject.Goals as goal

pub build-requires-clause-constant_nodes : goal.build-requires-clause-constant_nodes
build-requires-clause-constant_nodes g c =
    let p = c.args.planned.now in
    omega (
      arith,
      constants-nodes c.args.sig.now (planned_rule p ∷ []) p.constants (c.requires.planned.sound, tt)
          c.requires.planned.constants,
    )

pub build-requires-clause-normal_constants : goal.build-requires-clause-normal_constants
build-requires-clause-normal_constants g c =
    let p = c.args.planned.now in
    constants-normal c.args.sig.now (planned_rule p ∷ []) p.constants (c.requires.planned.sound, tt)
    c.requires.planned.constants

pub check_matched-requires : goal.check_matched-requires
check_matched-requires g c = record {
  planned = c.requires.planned;
  subject = c.requires.subject.term.normal;
  few = c.requires.subject.term.few_nodes;
  table = c.in_ok-table.ensures.table;
  normal = c.in_ok-table.ensures.normal;
}
