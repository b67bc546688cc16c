use Rattle.std.proofs.Common.{[], map, ap, sym, ◌∙◌}
use Rattle.std.specs.List.{flat_map}
use Rattle.mp_pattern.specs.Firsts.{firsts_after}
use Rattle.mp_program.specs.ProgramOf.{same_cond, spelled_test, rule_of}
use Rattle.mp_vm.specs.NumberedRules.{numbered_rule}
use Rattle.mp_vm.proofs.CheckedLaws.{IfOk-both}
use Rattle.mp_vm.proofs.ProgramReading.{made-one, made-two}
use Rattle.mp_vm.proofs.reader.rules_and_tests.Goals as goal

pub returns-in-One : goal.returns-in-One
returns-in-One c = λ f right format lines tests. IfOk-both c.rules_of.result _ _ _
    (λ p spelled rules. made-one c.args.sig.now f right (sym format ∙ c.in-One.is) p.0 p.1
    (spelled ∙ ap (λ rs. firsts_after (same_cond c.args.sig.now) [] (flat_map (λ r. spelled_test r.vars r.test) rs))
    lines)
    (rules ∙ ap (map (rule_of c.args.sig.now p.1)) lines))
    c.rules_of.ensures.tests c.rules_of.ensures.rules

pub returns-in_ok-numbered_rules-in-Two : goal.returns-in_ok-numbered_rules-in-Two
returns-in_ok-numbered_rules-in-Two c = λ f right format lines tests.
    made-two c.args.sig.now f right (sym format ∙ c.in-Two.is) _ _ tests
    (c.in_ok-numbered_rules-in-Two.ensures ∙ ap (map numbered_rule) lines)
