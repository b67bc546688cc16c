use Rattle.std.proofs.Common.{◌+◌, ◌++◌, [], ◌∷◌, map, drop, sym, ap, ◌∙◌, append_assoc}
use Rattle.std.proofs.lemmas.List.{map-append}
use Rattle.mp_term.proofs.ListLaws.{drop-item}
use Rattle.mp_pattern.specs.RuleView.{rule_tree}
use Rattle.mp_program.specs.RuleView.{rule_line_view}
use Rattle.mp_gen.specs.Generated.{spelled_rule}
use Rattle.mp_gen.proofs.program.lines_of.Goals as goal

pub loop-rule-preserved : goal.loop-rule-preserved
loop-rule-preserved c =
    let l = c.loop-rule in
    let x = c.rule-item.result in
    let cut = drop-item c.args.rules.now l.rule-index x c.loop-rule-test.true c.rule-item.is in
    let old = map rule_line_view l.lines.items in
    let more = map spelled_rule (map rule_tree (drop (l.rule-index + 1) c.args.rules.now)) in
    ap (λ ls. map rule_line_view ls ++ more) c.in_ok-push.ensures.items
    ∙ ap (λ ls. ls ++ more) (map-append rule_line_view l.lines.items (c.in_ok-line_of.field-0 ∷ []))
    ∙ ap (λ y. (old ++ y ∷ []) ++ more) c.in_ok-line_of.ensures
    ∙ append_assoc old (spelled_rule (rule_tree x) ∷ []) more
    ∙ sym (ap (λ rs. old ++ map spelled_rule (map rule_tree rs)) cut) ∙ l.invariant
