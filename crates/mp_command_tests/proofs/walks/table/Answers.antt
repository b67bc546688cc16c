use Rattle.std.proofs.Common.{sym, subst}
use Rattle.std.specs.List.{AllByRecursion}
use Rattle.mp_term.specs.Normal.{IsNormal}
use Rattle.mp_term.specs.View.{tree}
use Rattle.mp_walk.proofs.ConstantLaws.{code_table-built}
use Rattle.mp_many.specs.Laid.{tree_of}
use Rattle.mp_command_tests.proofs.walks.table.Goals as goal

pub build-requires-clause-constant_nodes : goal.build-requires-clause-constant_nodes
build-requires-clause-constant_nodes c = c.in_ok-constants.ensures.few

pub build-requires-clause-normal_constants : goal.build-requires-clause-normal_constants
build-requires-clause-normal_constants c =
    subst (λ sig. AllByRecursion (IsNormal sig) c.in_ok-constants.constants) (sym c.sig.ensures)
    c.in_ok-constants.ensures.normal

pub returns : goal.returns
returns c =
    let m = c.args.many.now in
    code_table-built c.in_ok-build.field-0 (tree c.args.subject.now.term) c.in_ok-constants.constants
    c.in_ok-build.ensures.table m.sig (tree_of m.sig m.rules) c.in_ok-constants.ensures
    (subst (λ sig. AllByRecursion (IsNormal sig) c.in_ok-build.field-0.terms) c.sig.ensures
    c.in_ok-build.ensures.normal)
    c.requires.term.few_nodes
