use Rattle.std.proofs.Common.{◌≡◌, ◌+◌, [], map, take, drop}
use Rattle.mp_pattern.specs.CondView.{cond_tree}
use Rattle.mp_print.specs.PrintedCond.{cond_text}
use Rattle.mp_program.specs.FormFaults.{faults_along, test_faults}
use Rattle.mp_vm.proofs.rules.check_tests.Given as goal

-- the tests that are left have the faults, behind those of which the texts are known
abbrev pub invariant-loop-test : goal.invariant-loop-test
invariant-loop-test l = record {
  texts : l.texts ≡ map (cond_text l.sig) (map cond_tree (take l.test-index l.tests));
  line : l.line ≡ l.fn.first + l.test-index;
  faults : faults_along (test_faults l.sig) (map cond_tree (take l.test-index l.tests)) l.line
      (map cond_tree (drop l.test-index l.tests))
      ≡ faults_along (test_faults l.sig) [] l.fn.first (map cond_tree l.tests);
}
