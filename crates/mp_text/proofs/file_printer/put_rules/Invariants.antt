use Rattle.std.proofs.Common.{map, take}
use Rattle.std.specs.List.{flat_map}
use Rattle.mp_io.specs.Writing.{Puts}
use Rattle.mp_pattern.specs.RuleView.{rule_tree}
use Rattle.mp_text.specs.PrintedFile.{rule_text}
use Rattle.mp_text.proofs.file_printer.put_rules.Given as goal

-- the rules so far were put
abbrev pub invariant-loop-rule : goal.invariant-loop-rule
invariant-loop-rule g l = Puts g.K.Sink l.fn.out l.out
    (flat_map (rule_text l.sig) (map rule_tree (take l.rule-index l.rules)))
