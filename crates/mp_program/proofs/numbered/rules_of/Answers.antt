use Rattle.std.proofs.Common.{[], ◌∷◌, ◌++◌, length, map, sym, ap, ◌∙◌, append-nil, arith}
use Rattle.std.proofs.lemmas.List.{nil_from_length}
use Rattle.std.specs.Vec.Iter.{into_iter_items}
use Rattle.mp_pattern.specs.Firsts.{firsts_after}
use Rattle.mp_print.specs.PrintedCond.{cond_text}
use Rattle.mp_program.specs.ProgramOf.{same_cond, rule_of}
use Rattle.mp_program.specs.RuleView.{rule_line_view}
use Rattle.mp_program.proofs.TestLaws.{spelled_tests, rules-next}
use Rattle.mp_program.proofs.numbered.rules_of.Goals as goal

pub loop-line-init : goal.loop-line-init
loop-line-init c =
    let sig = c.args.sig.now in
    let same = same_cond sig in
    let left = c.into_iter-line-iterator.ensures.into_iter_gives in
    let rest = map rule_line_view (into_iter_items c.into_iter-line-iterator.result) in
    let kept = firsts_after same [] (spelled_tests (map rule_line_view c.args.lines.items)) in
    record {
      texts = c.new-texts.ensures ∙ sym (ap (map (cond_text sig)) c.new-tests.ensures);
      tests = ap (λ ts. firsts_after same ts (spelled_tests rest)) c.new-tests.ensures
          ∙ ap (λ ls. firsts_after same [] (spelled_tests (map rule_line_view ls))) left.0;
      len = omega (arith, left.1, ap (λ ls. length ls) left.0, c.args.lines.ok.0);
      rules = ap (λ rs. rs ++ map (rule_of sig kept) rest) c.new-rules.ensures
          ∙ ap (λ ls. map (rule_of sig kept) (map rule_line_view ls)) left.0;
    }

pub rule_of-requires : goal.rule_of-requires
rule_of-requires c = c.loop-line.invariant.texts

pub loop-line-preserved : goal.loop-line-preserved
loop-line-preserved c =
    let at = c.loop-line in
    let sig = c.args.sig.now in
    let same = same_cond sig in
    let x = rule_line_view c.in-Some.line in
    let steps = c.in-Some.ensures.steps in
    let rest = map rule_line_view (into_iter_items c.next.new.self) in
    let lines = map rule_line_view c.args.lines.items in
    let kept = firsts_after same [] (spelled_tests lines) in
    let known = c.in_ok-rule_of.ensures.tests in
    let laws = rules-next sig x rest at.tests kept at.rules (map (rule_of sig kept) lines)
    (sym (ap (λ ls. firsts_after same at.tests (spelled_tests (map rule_line_view ls))) steps.0) ∙ at.invariant.tests)
    (sym (ap (λ ls. at.rules ++ map (rule_of sig kept) (map rule_line_view ls)) steps.0) ∙ at.invariant.rules) in
    record {
      texts = c.in_ok-rule_of.ensures.texts;
      tests = ap (λ ts. firsts_after same ts (spelled_tests rest)) known ∙ laws.0;
      len = omega (arith, steps.1, ap (λ ls. length ls) steps.0, at.invariant.len);
      rules = ap (λ rs. rs ++ map (rule_of sig kept) rest)
          (c.in_ok-push.ensures.ok ∙ ap (λ r. at.rules ++ r ∷ [])
          (c.in_ok-rule_of.ensures.rule ∙ ap (λ ts. rule_of sig ts x) known))
          ∙ laws.1;
    }

pub returns-clause-tests : goal.returns-clause-tests
returns-clause-tests c =
    let at = c.loop-line in
    let same = same_cond c.args.sig.now in
    let none = nil_from_length (into_iter_items at.line-iterator)
    (omega (arith, at.invariant.len, c.in-None.ensures.steps.0)) in
    sym (ap (λ ls. firsts_after same at.tests (spelled_tests (map rule_line_view ls))) none) ∙ at.invariant.tests

pub returns-clause-rules : goal.returns-clause-rules
returns-clause-rules c =
    let at = c.loop-line in
    let sig = c.args.sig.now in
    let same = same_cond sig in
    let lines = map rule_line_view c.args.lines.items in
    let kept = firsts_after same [] (spelled_tests lines) in
    let none = nil_from_length (into_iter_items at.line-iterator)
    (omega (arith, at.invariant.len, c.in-None.ensures.steps.0)) in
    let all = sym (ap (λ ls. firsts_after same at.tests (spelled_tests (map rule_line_view ls))) none)
    ∙ at.invariant.tests in
    sym (append-nil at.rules) ∙ sym (ap (λ ls. at.rules ++ map (rule_of sig kept) (map rule_line_view ls)) none)
    ∙ at.invariant.rules ∙ ap (λ ts. map (rule_of sig ts) lines) (sym all)
