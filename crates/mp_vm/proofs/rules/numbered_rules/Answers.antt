use Rattle.std.proofs.Common.{◌∷◌, ◌++◌, [], length, map, sym, ap, ◌∙◌, append-nil, append_assoc, arith}
use Rattle.std.proofs.lemmas.List.{nil_from_length}
use Rattle.std.specs.Vec.Iter.{into_iter_items}
use Rattle.mp_program.specs.RuleView.{rule_line_view}
use Rattle.mp_vm.specs.NumberedRules.{numbered_rule}
use Rattle.mp_vm.proofs.rules.numbered_rules.Goals as goal

pub loop-line-init : goal.loop-line-init
loop-line-init c =
    let left = c.into_iter-line-iterator.ensures.into_iter_gives in
    record {
      len = omega (arith, left.1, ap (λ ls. length ls) left.0, c.args.lines.ok.0);
      rules =
          ap (λ rs. rs ++ map numbered_rule (map rule_line_view (into_iter_items c.into_iter-line-iterator.result)))
          c.new-rules.ensures
          ∙ ap (λ ls. map numbered_rule (map rule_line_view ls)) left.0;
    }

pub loop-line-preserved : goal.loop-line-preserved
loop-line-preserved c =
    let at = c.loop-line in
    let steps = c.in-Some.ensures.steps in
    let rest = map numbered_rule (map rule_line_view (into_iter_items c.next.new.self)) in
    record {
      len = omega (arith, steps.1, ap (λ ls. length ls) steps.0, at.invariant.len);
      rules =
          ap (λ rs. rs ++ rest) (c.in_ok-push.ensures.ok ∙ ap (λ r. at.rules ++ r ∷ []) c.numbered_rule.ensures)
          ∙ append_assoc at.rules (numbered_rule (rule_line_view c.in-Some.line) ∷ []) rest
          ∙ sym (ap (λ ls. at.rules ++ map numbered_rule (map rule_line_view ls)) steps.0)
          ∙ at.invariant.rules;
    }

pub returns : goal.returns
returns c =
    let at = c.loop-line in
    let none = nil_from_length (into_iter_items at.line-iterator)
    (omega (arith, at.invariant.len, c.in-None.ensures.steps.0)) in
    sym (append-nil at.rules)
    ∙ sym (ap (λ ls. at.rules ++ map numbered_rule (map rule_line_view ls)) none) ∙ at.invariant.rules
