use Rattle.std.proofs.Common.{◌++◌, map, take}
use Rattle.std.specs.Prelude.{codes}
use Rattle.std.specs.List.{flat_map}
use Rattle.mp_io.specs.Writing.{Puts}
use Rattle.mp_pattern.specs.CondView.{cond_tree}
use Rattle.mp_program.specs.FormText.{test_line}
use Rattle.mp_program.proofs.printer.put_tests.Given as goal

-- the lines of the tests so far were put
abbrev pub invariant-loop-test : goal.invariant-loop-test
invariant-loop-test g l = Puts g.K.Sink l.fn.out l.out
    (flat_map (λ t. test_line l.sig t ++ codes "\n") (map cond_tree (take l.test-index l.tests)))
