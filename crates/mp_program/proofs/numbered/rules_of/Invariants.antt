use Rattle.std.proofs.Common.{◌≡◌, [], ◌++◌, length, map}
use Rattle.std.specs.Vec.Iter.{into_iter_items, into_iter_len}
use Rattle.mp_pattern.specs.Firsts.{firsts_after}
use Rattle.mp_print.specs.PrintedCond.{cond_text}
use Rattle.mp_program.specs.ProgramOf.{same_cond, rule_of}
use Rattle.mp_program.specs.RuleView.{rule_line_view}
use Rattle.mp_program.proofs.TestLaws.{spelled_tests}
use Rattle.mp_program.proofs.numbered.rules_of.Given as goal

-- the lines that are left add what is lacking to the tests and the rules
abbrev pub invariant-loop-line : goal.invariant-loop-line
invariant-loop-line l =
    let all = map rule_line_view l.fn.lines.items in
    let left = map rule_line_view (into_iter_items l.line-iterator) in
    let kept = firsts_after (same_cond l.sig) [] (spelled_tests all) in
    record {
      texts : l.texts ≡ map (cond_text l.sig) l.tests;
      tests : firsts_after (same_cond l.sig) l.tests (spelled_tests left) ≡ kept;
      len : into_iter_len l.line-iterator ≡ length (into_iter_items l.line-iterator);
      rules : l.rules ++ map (rule_of l.sig kept) left ≡ map (rule_of l.sig kept) all;
    }
