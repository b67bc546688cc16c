use Rattle.std.proofs.Common.{◌≡◌, ◌<◌, ◌+◌, ◌++◌, ◌∷◌, [], length, drop, append_assoc, ap, sym, ◌∙◌, arith}
use Rattle.std.specs.Prelude.{Some, None, option_map}
use Rattle.mp_pattern.specs.Value.{Binding}
use Rattle.mp_subst.specs.Bound.{bound_of, value_in}
use Rattle.mp_subst.specs.Trail.{bindings_from}
use Rattle.mp_subst.proofs.TrailLaws.{item_at}
use Rattle.mp_subst.proofs.TrailSubst.{past_unbound, past_bound}
use Rattle.mp_subst.proofs.trail.Trail.to_subst.Goals as goal

pub binding_of-requires-clause-ranks : goal.binding_of-requires-clause-ranks
binding_of-requires-clause-ranks c = (c.in-Some.ensures.is_bound c.args.table.now c.requires).ranks

pub binding_of-requires-clause-formed : goal.binding_of-requires-clause-formed
binding_of-requires-clause-formed c = (c.in-Some.ensures.is_bound c.args.table.now c.requires).formed

pub loop-var-preserved-in_default : goal.loop-var-preserved-in_default
loop-var-preserved-in_default c =
    let below : c.loop-var.var < length c.args.plan.now.variables =
    omega (arith, c.loop-var-test.true, c.vars-var-end.ensures.count) in
    let none = sym c.binding.ensures.value ∙ ap (option_map bound_of) c.in_default.is in
    ap (λ s. c.loop-var.bindings ++ s) (sym (past_unbound c.args.table.now c.args.self.now.stack
    c.args.plan.now.variables c.loop-var.var below none))
    ∙ c.loop-var.invariant

pub unreachable-requires : goal.unreachable-requires
unreachable-requires c =
    let xs = c.args.plan.now.variables in
    let below : c.loop-var.var < length xs = omega (arith, c.loop-var-test.true, c.vars-var-end.ensures.count) in
    let x = item_at xs c.loop-var.var below in
    let none = ap (option_map (λ n. n.now)) (sym c.in_default-var_name.is) ∙ c.var_name.ensures in
    let wrong : None ≡ Some x.0.name = none ∙ ap (option_map (λ v. v.name)) x.1 in cc

pub loop-var-preserved : goal.loop-var-preserved
loop-var-preserved c =
    let table = c.args.table.now in
    let es = c.args.self.now.stack in
    let xs = c.args.plan.now.variables in
    let n = c.loop-var.var in
    let below : n < length xs = omega (arith, c.loop-var-test.true, c.vars-var-end.ensures.count) in
    let bound = bound_of c.in-Some.bound in
    let last = sym c.binding.ensures.value ∙ ap (option_map bound_of) c.in-Some.is in
    let name = c.in-Some-var_name.name.now in
    let named = ap (option_map (λ m. m.now)) (sym c.in-Some-var_name.is) ∙ c.var_name.ensures in
    let own : Binding = record { name = name; value = value_in table bound } in
    let rest = bindings_from table es (n + 1) (drop (n + 1) xs) in
    let pushed = c.in_ok-push.ensures.ok ∙ ap (λ b. c.loop-var.bindings ++ b ∷ []) c.in_ok-binding_of.ensures in
    ap (λ bs. bs ++ rest) pushed ∙ append_assoc c.loop-var.bindings (own ∷ []) rest
    ∙ ap (λ s. c.loop-var.bindings ++ s) (sym (past_bound table es xs n below name bound named last))
    ∙ c.loop-var.invariant
