use Rattle.std.proofs.Common.{◌≤◌, map, arith, refl}
use Rattle.std.specs.Prelude.{slice_get, sum_by}
use Rattle.mp_term.specs.Tree.{trees}
use Rattle.mp_term.specs.View.{tree}
use Rattle.mp_term.specs.Size.{node_count, all_nodes}
use Rattle.mp_print.specs.Printing.{term_text, term_texts}
use Rattle.mp_print.proofs.Arguments.{sizes-sum, text-app}
use Rattle.mp_print.proofs.printer.TermPrintedTreeUnit.put_leaf.Goals as goal

pub returns-in-App-clause-text : goal.returns-in-App-clause-text
returns-in-App-clause-text g c =
    let sig = c.args.sig.now in
    rw c.in-App.is (text-app tree trees (term_text sig) (term_texts sig) refl (λ t ts. refl)
    (slice_get sig.ops c.in-App.op.0) c.in-App.args c.as_slice.result.now c.as_slice.ensures)

pub returns-in-App-clause-smaller : goal.returns-in-App-clause-smaller
returns-in-App-clause-smaller g c =
    let args = c.as_slice.result.now in
    let small : sum_by (λ t. node_count (tree t)) args ≤ all_nodes (map tree args) =
    sizes-sum tree node_count all_nodes (λ t ts. refl) args in
    rw c.in-App.is (omega (arith, rw c.as_slice.ensures at small))
