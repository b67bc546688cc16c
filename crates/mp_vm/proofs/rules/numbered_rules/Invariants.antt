use Rattle.std.proofs.Common.{◌≡◌, ◌++◌, length, map}
use Rattle.std.specs.Vec.Iter.{into_iter_items, into_iter_len}
use Rattle.mp_program.specs.RuleView.{rule_line_view}
use Rattle.mp_vm.specs.NumberedRules.{numbered_rule}
use Rattle.mp_vm.proofs.rules.numbered_rules.Given as goal

-- the rules of the lines that are left are lacking
abbrev pub invariant-loop-line : goal.invariant-loop-line
invariant-loop-line l = record {
  len : into_iter_len l.line-iterator ≡ length (into_iter_items l.line-iterator);
  rules : l.rules ++ map numbered_rule (map rule_line_view (into_iter_items l.line-iterator))
      ≡ map numbered_rule (map rule_line_view l.fn.lines.items);
}
