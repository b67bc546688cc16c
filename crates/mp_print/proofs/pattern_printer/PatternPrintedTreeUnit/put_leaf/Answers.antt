use Rattle.std.proofs.Common.{◌≤◌, map, arith, refl}
use Rattle.std.specs.Prelude.{slice_get, sum_by}
use Rattle.mp_pattern.specs.PatternTree.{patterns}
use Rattle.mp_pattern.specs.Size.{pattern_nodes, list_nodes}
use Rattle.mp_pattern.specs.View.{pattern_tree}
use Rattle.mp_print.specs.PrintedPattern.{pattern_text, pattern_texts}
use Rattle.mp_print.proofs.Arguments.{sizes-sum, text-app}
use Rattle.mp_print.proofs.pattern_printer.PatternPrintedTreeUnit.put_leaf.Goals as goal

pub returns-in-App-clause-text : goal.returns-in-App-clause-text
returns-in-App-clause-text g c =
    let sig = c.args.sig.now in
    rw c.in-App.is (text-app pattern_tree patterns (pattern_text sig) (pattern_texts sig) refl (λ p ps. refl)
    (slice_get sig.ops c.in-App.op.0) c.in-App.args c.as_slice.result.now c.as_slice.ensures)

pub returns-in-App-clause-smaller : goal.returns-in-App-clause-smaller
returns-in-App-clause-smaller g c =
    let args = c.as_slice.result.now in
    let small : sum_by (λ p. pattern_nodes (pattern_tree p)) args ≤ list_nodes (map pattern_tree args) =
    sizes-sum pattern_tree pattern_nodes list_nodes (λ p ps. refl) args in
    rw c.in-App.is (omega (arith, rw c.as_slice.ensures at small))
