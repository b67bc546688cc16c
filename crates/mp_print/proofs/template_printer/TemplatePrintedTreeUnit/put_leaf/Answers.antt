use Rattle.std.proofs.Common.{◌≤◌, map, arith, refl}
use Rattle.std.specs.Prelude.{slice_get, sum_by}
use Rattle.mp_pattern.specs.TemplateTree.{templates}
use Rattle.mp_pattern.specs.TemplateSize.{template_nodes, template_list_nodes}
use Rattle.mp_pattern.specs.TemplateView.{template_tree}
use Rattle.mp_print.specs.PrintedTemplate.{template_text, template_texts}
use Rattle.mp_print.proofs.Arguments.{sizes-sum, text-app}
use Rattle.mp_print.proofs.template_printer.TemplatePrintedTreeUnit.put_leaf.Goals as goal

pub returns-in-App-clause-text : goal.returns-in-App-clause-text
returns-in-App-clause-text g c =
    let sig = c.args.sig.now in
    rw c.in-App.is (text-app template_tree templates (template_text sig) (template_texts sig) refl (λ x xs. refl)
    (slice_get sig.ops c.in-App.op.0) c.in-App.args c.as_slice.result.now c.as_slice.ensures)

pub returns-in-App-clause-smaller : goal.returns-in-App-clause-smaller
returns-in-App-clause-smaller g c =
    let args = c.as_slice.result.now in
    let small : sum_by (λ x. template_nodes (template_tree x)) args ≤ template_list_nodes (map template_tree args) =
    sizes-sum template_tree template_nodes template_list_nodes (λ x xs. refl) args in
    rw c.in-App.is (omega (arith, rw c.as_slice.ensures at small))
