use Rattle.std.proofs.Common.{◌≡◌}
use Rattle.mp_pattern.specs.Lists.{subst_cmp}
use Rattle.mp_subst.specs.View.{subst_of}
use Rattle.mp_subst.proofs.Equality.{equal-subst_cmp}
use Rattle.mp_subst.proofs.order.compare_subst.Goals as goal

pub returns-clause-equal : goal.returns-clause-equal
returns-clause-equal c =
    let order : c.compare_bindings.result ≡ subst_cmp (subst_of c.args.a.now) (subst_of c.args.b.now) = cc in
    equal-subst_cmp (subst_of c.args.a.now) (subst_of c.args.b.now) c.compare_bindings.result c.requires order
