use Rattle.std.proofs.Common.{◌≡◌, ◌<◌, ◌+◌, ◌++◌, ◌∷◌, [], length, drop, append_assoc, ap, sym, ◌∙◌, arith}
use Rattle.std.specs.Prelude.{Some, None, option_map, slice_get}
use Rattle.mp_pattern.specs.Value.{Binding}
use Rattle.mp_subst.specs.Bound.{bound_of, value_in}
use Rattle.mp_subst.specs.Trail.{bindings_from}
use Rattle.mp_subst.proofs.TrailLaws.{item_at}
use Rattle.mp_walk.specs.NamedItems.{called}
use Rattle.mp_walk.proofs.NamedLaws.{past-unbound, past-bound}
use Rattle.mp_walk.proofs.named.named_values.Goals as goal

pub to_value-requires-clause-ranks : goal.to_value-requires-clause-ranks
to_value-requires-clause-ranks c = (c.in-Some.ensures.is_bound c.args.table.now c.requires.goes).ranks

pub to_value-requires-clause-formed : goal.to_value-requires-clause-formed
to_value-requires-clause-formed c = (c.in-Some.ensures.is_bound c.args.table.now c.requires.goes).formed

pub loop-var-preserved-in_default : goal.loop-var-preserved-in_default
loop-var-preserved-in_default c =
    let names = c.args.names.now in
    let below : c.loop-var.var < length names = omega (arith, c.loop-var-test.true, c.len-var-end.ensures) in
    let x = item_at names c.loop-var.var below in
    let none = sym c.binding.ensures.value ∙ ap (option_map bound_of) c.in_default.is in
    ap (λ s. c.loop-var.bindings ++ s)
    (sym (past-unbound c.args.table.now c.args.trail.now.stack names c.loop-var.var x.0 x.1 none))
    ∙ c.loop-var.invariant

pub unreachable-requires : goal.unreachable-requires
unreachable-requires c =
    let names = c.args.names.now in
    let below : c.loop-var.var < length names = omega (arith, c.loop-var-test.true, c.len-var-end.ensures) in
    let x = item_at names c.loop-var.var below in
    let none : slice_get names c.loop-var.var ≡ None =
    c.get.ensures ∙ ap (option_map (λ n. n.now)) c.in_default-get.is in
    let wrong : Some x.0 ≡ None = sym x.1 ∙ none in cc

pub loop-var-preserved : goal.loop-var-preserved
loop-var-preserved c =
    let table = c.args.table.now in
    let es = c.args.trail.now.stack in
    let names = c.args.names.now in
    let n = c.loop-var.var in
    let bound = bound_of c.in-Some.bound in
    let last = sym c.binding.ensures.value ∙ ap (option_map bound_of) c.in-Some.is in
    let name = c.in-Some-get.name.now in
    let got : slice_get names n ≡ Some name = c.get.ensures ∙ ap (option_map (λ m. m.now)) c.in-Some-get.is in
    let own : Binding = record { name = name; value = value_in table bound } in
    let rest = bindings_from table es (n + 1) (called (drop (n + 1) names)) in
    let pushed = c.in_ok-push.ensures.ok
    ∙ ap (λ v. c.loop-var.bindings ++ record { name = c.in_ok-name.name; value = v } ∷ []) c.in_ok-value.ensures
    ∙ ap (λ m. c.loop-var.bindings ++ record { name = m; value = value_in table bound } ∷ []) c.in_ok-name.ensures in
    ap (λ bs. bs ++ rest) pushed ∙ append_assoc c.loop-var.bindings (own ∷ []) rest
    ∙ ap (λ s. c.loop-var.bindings ++ s) (sym (past-bound table es names n name bound got last))
    ∙ c.loop-var.invariant
