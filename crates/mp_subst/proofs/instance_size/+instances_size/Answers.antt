use Rattle.std.proofs.Common.{◌∙◌, ap, sym, map, drop, ◌+◌, ◌++◌, append_assoc, arith}
use Rattle.mp_pattern.specs.TemplateTree.{templates}
use Rattle.mp_pattern.specs.TemplateView.{template_tree}
use Rattle.mp_pattern.specs.TemplateSize.{template_list_nodes}
use Rattle.mp_pattern.specs.Instance.{instances, all_instances}
use Rattle.mp_subst.specs.View.{subst_of}
use Rattle.mp_term.proofs.ListLaws.{drop-item}
use Rattle.mp_subst.proofs.instance_size.+instances_size.Goals as goal

pub arguments_size-loop-arg-preserved : goal.arguments_size-loop-arg-preserved
arguments_size-loop-arg-preserved t c =
    let i = c.loop-arg.arg-index in
    let items = c.as_slice-arg-items.result.now in
    let s = subst_of c.args.subst.now in
    let front = c.loop-arg.invariant.0 in
    let here = instances s (template_tree c.arg-item.result) in
    let rest = all_instances s (templates (map template_tree (drop (i + 1) items))) in
    let split = drop-item items i c.arg-item.result (omega arith) c.arg-item.is in (
      front ++ here,
      c.beside-all.ensures front here c.loop-arg.invariant.1 c.instances_size.ensures,
      append_assoc front here rest
          ∙ ap (λ xs. front ++ all_instances s (templates (map template_tree xs))) (sym split)
          ∙ c.loop-arg.invariant.2,
      omega (arith, ap (λ xs. template_list_nodes (map template_tree xs)) split),
    )

pub instances_size-returns-in-App : goal.instances_size-returns-in-App
instances_size-returns-in-App t c =
    rw c.in-App.is
    (c.applied.ensures c.in-App.field-0.0 (all_instances (subst_of c.args.subst.now) (templates c.in-App.args))
    c.arguments_size.ensures)
