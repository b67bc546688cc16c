use Rattle.std.proofs.Common.{ap, sym, ◌∙◌}
use Rattle.std.specs.Ordering.{is_eq}
use Rattle.mp_subst.specs.View.{binding_of}
use Rattle.mp_subst.proofs.Equality.{names_equal, values_equal, bindings_equal}
use Rattle.mp_subst.proofs.order.same_binding.Goals as goal

pub returns-then-eq : goal.returns-then-eq
returns-then-eq c =
    let test = c.is_eq.ensures ∙ ap is_eq c.compare_value.ensures.order in (
      λ h.
          bindings_equal (binding_of c.args.binding.now) (binding_of c.args.other.now)
          (sym c.eq.ensures ∙ c.if-eq.true) (sym test ∙ h),
      λ e. test ∙ values_equal _ _ (ap (λ b. b.value) e),
    )

pub returns-else-eq : goal.returns-else-eq
returns-else-eq c = (λ h. cc, λ e. c.eq.ensures ∙ names_equal _ _ (ap (λ b. b.name) e))
