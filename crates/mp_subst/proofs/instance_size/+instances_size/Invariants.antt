use Rattle.std.proofs.Common.{◌≡◌, ◌++◌, ◌+◌, ◌*◌, ◌≤◌, List, map, drop}
use Rattle.mp_term.specs.Tree.{Tree}
use Rattle.mp_term.specs.Excess.{IsSizeOf}
use Rattle.mp_pattern.specs.TemplateTree.{templates}
use Rattle.mp_pattern.specs.TemplateView.{template_tree}
use Rattle.mp_pattern.specs.TemplateSize.{template_nodes, template_list_nodes}
use Rattle.mp_pattern.specs.Instance.{all_instances}
use Rattle.mp_subst.specs.View.{subst_of}
use Rattle.mp_subst.proofs.instance_size.+instances_size.Given as goal

abbrev pub invariant-arguments_size-loop-arg : goal.invariant-arguments_size-loop-arg
invariant-arguments_size-loop-arg l = (front : List Tree) × IsSizeOf l.all front
    × (front ++ all_instances (subst_of l.subst) (templates (map template_tree (drop l.arg-index l.arg-items)))
    ≡ all_instances (subst_of l.subst) (templates l.args))
    × (template_list_nodes (map template_tree (drop l.arg-index l.arg-items)) ≤ template_list_nodes l.args)

abbrev pub decreases-instances_size : goal.decreases-instances_size
decreases-instances_size l = 2 * template_nodes (template_tree l.template.now)

abbrev pub decreases-arguments_size : goal.decreases-arguments_size
decreases-arguments_size l = 2 * template_list_nodes l.args.now + 1
