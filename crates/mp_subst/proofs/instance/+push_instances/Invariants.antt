use Rattle.std.proofs.Common.{◌≡◌, ◌++◌, ◌+◌, ◌*◌, ◌≤◌, map, drop}
use Rattle.mp_pattern.specs.TemplateTree.{templates}
use Rattle.mp_pattern.specs.TemplateView.{template_tree}
use Rattle.mp_pattern.specs.TemplateSize.{template_nodes, template_list_nodes}
use Rattle.mp_pattern.specs.Instance.{all_instances}
use Rattle.mp_subst.specs.View.{subst_of}
use Rattle.mp_subst.proofs.instance.+push_instances.Given as goal

abbrev pub invariant-argument_instances-loop-arg : goal.invariant-argument_instances-loop-arg
invariant-argument_instances-loop-arg l = record {
  rest : l.terms ++ all_instances (subst_of l.subst) (templates (map template_tree (drop l.arg-index l.arg-items)))
      ≡ all_instances (subst_of l.subst) (templates l.args);
  smaller : template_list_nodes (map template_tree (drop l.arg-index l.arg-items)) ≤ template_list_nodes l.args;
}

abbrev pub decreases-push_instances : goal.decreases-push_instances
decreases-push_instances l = 2 * template_nodes (template_tree l.template.now)

abbrev pub decreases-argument_instances : goal.decreases-argument_instances
decreases-argument_instances l = 2 * template_list_nodes l.args.now + 1
