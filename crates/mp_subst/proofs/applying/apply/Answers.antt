use Rattle.std.proofs.Common.{◌≡◌, ap, Some}
use Rattle.mp_term.specs.Excess.{excess}
use Rattle.mp_term.specs.View.{tree}
use Rattle.mp_pattern.specs.TemplateView.{template_tree}
use Rattle.mp_pattern.specs.Instance.{instances}
use Rattle.mp_subst.specs.View.{subst_of}
use Rattle.mp_subst.proofs.InstanceLaws.{instances-IsInstance, IsExceeded-fault_of}
use Rattle.mp_subst.proofs.applying.apply.Goals as goal

pub returns-clause-term : goal.returns-clause-term
returns-clause-term c = record {
  spliced = tree c.in_ok-spliced.spliced;
  instance = c.in_ok-spliced.ensures;
  result = c.in_ok-normal.ensures;
}

pub returns-clause-fits : goal.returns-clause-fits
returns-clause-fits c = λ t i.
    cc (ap excess (instances-IsInstance (template_tree c.args.template.now) (subst_of c.args.subst.now) t i))

pub returns-in-Some-clause-fault : goal.returns-in-Some-clause-fault
returns-in-Some-clause-fault c =
    let x = template_tree c.args.template.now in
    let s = subst_of c.args.subst.now in
    let exceeds : excess (instances s x) ≡ Some c.in-Some.excess = cc in
    rw c.into.ensures (IsExceeded-fault_of x s c.in-Some.excess exceeds)
