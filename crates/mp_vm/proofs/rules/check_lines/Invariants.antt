use Rattle.std.proofs.Common.{◌≡◌, ◌+◌, [], map, take, drop}
use Rattle.mp_program.specs.FormFaults.{faults_along, rule_faults, used_tests}
use Rattle.mp_program.specs.RuleView.{rule_line_view}
use Rattle.mp_vm.specs.Checked.{numbers_below}
use Rattle.mp_vm.proofs.rules.check_lines.Given as goal

-- the lines that are left have the faults, behind those whose names are known, and which use so many tests
abbrev pub invariant-loop-line : goal.invariant-loop-line
invariant-loop-line l =
    let done = map rule_line_view (take l.line-index l.rules) in
    record {
      names : map (λ k. k.now) l.names.keys ≡ map (λ r. r.name) done;
      used : used_tests done ≡ numbers_below l.used;
      number : l.number ≡ l.fn.first + l.line-index;
      faults : faults_along (rule_faults l.count) done l.number (map rule_line_view (drop l.line-index l.rules))
          ≡ faults_along (rule_faults l.count) [] l.fn.first (map rule_line_view l.rules);
    }
