use Rattle.std.proofs.Common.{◌≡◌, ◌<◌, ◌+◌, ◌++◌, ◌∷◌, [], length, drop, append_assoc, ap, sym, ◌∙◌, arith, map, subst}
use Rattle.std.proofs.lemmas.List.{map-append}
use Rattle.std.specs.Prelude.{Some, None, option_map, slice_get}
use Rattle.mp_term.proofs.ListLaws.{all-append}
use Rattle.mp_pattern.specs.Value.{Binding}
use Rattle.mp_subst.specs.Bound.{bound_of, value_in, IsBoundIn}
use Rattle.mp_subst.specs.Trail.{bindings_from}
use Rattle.mp_subst.proofs.TrailLaws.{item_at}
use Rattle.mp_walk.specs.NamedItems.{called}
use Rattle.mp_walk.specs.RankedView.{kept_binding, kept_bound, AreKept}
use Rattle.mp_walk.proofs.NamedLaws.{past-unbound, past-bound}
use Rattle.mp_walk.proofs.ranked.kept_values.Goals as goal

pub loop-var-preserved-in_default : goal.loop-var-preserved-in_default
loop-var-preserved-in_default c =
    let names = c.args.names.now in
    let below : c.loop-var.var < length names = omega (arith, c.loop-var-test.true, c.len-var-end.ensures) in
    let x = item_at names c.loop-var.var below in
    let none = sym c.binding.ensures.value ∙ ap (option_map bound_of) c.in_default.is in
    record {
      values = ap (λ s. map (kept_binding c.args.table.now) c.loop-var.values.items ++ s)
          (sym (past-unbound c.args.table.now c.args.trail.now.stack names c.loop-var.var x.0 x.1 none))
          ∙ c.loop-var.invariant.values;
      held = c.loop-var.invariant.held;
    }

pub unreachable-requires : goal.unreachable-requires
unreachable-requires c =
    let names = c.args.names.now in
    let below : c.loop-var.var < length names = omega (arith, c.loop-var-test.true, c.len-var-end.ensures) in
    let x = item_at names c.loop-var.var below in
    let none : slice_get names c.loop-var.var ≡ None =
    c.get.ensures ∙ ap (option_map (λ n. n.now)) c.in_default-get.is in
    let wrong : Some x.0 ≡ None = sym x.1 ∙ none in cc

pub loop-var-preserved : goal.loop-var-preserved
loop-var-preserved c =
    let table = c.args.table.now in
    let es = c.args.trail.now.stack in
    let names = c.args.names.now in
    let n = c.loop-var.var in
    let bound = bound_of c.in-Some.bound in
    let last = sym c.binding.ensures.value ∙ ap (option_map bound_of) c.in-Some.is in
    let name = c.in-Some-get.name.now in
    let got : slice_get names n ≡ Some name = c.get.ensures ∙ ap (option_map (λ m. m.now)) c.in-Some-get.is in
    let own : Binding = record { name = name; value = value_in table bound } in
    let rest = bindings_from table es (n + 1) (called (drop (n + 1) names)) in
    let kept = c.in_ok-keep.field-0 in
    let before = map (kept_binding table) c.loop-var.values.items in
    let is : kept_binding table kept ≡ own =
    ap (λ m. record { name = m; value = value_in table (kept_bound kept) }) c.in_ok-keep.ensures.name
    ∙ ap (λ b. record { name = name; value = value_in table b }) c.in_ok-keep.ensures.bound in
    let pushed : map (kept_binding table) c.push.new.self.items ≡ before ++ own ∷ [] =
    ap (map (kept_binding table)) c.in_ok-push.ensures.items
    ∙ map-append (kept_binding table) c.loop-var.values.items (kept ∷ []) ∙ ap (λ b. before ++ b ∷ []) is in
    record {
      values = ap (λ bs. bs ++ rest) pushed ∙ append_assoc before (own ∷ []) rest
          ∙ ap (λ s. before ++ s) (sym (past-bound table es names n name bound got last))
          ∙ c.loop-var.invariant.values;
      held = subst (AreKept table) (sym c.in_ok-push.ensures.items)
          (all-append (λ k. IsBoundIn table (kept_bound k)) c.loop-var.values.items (kept ∷ [])
          c.loop-var.invariant.held (
            subst (IsBoundIn table) (sym c.in_ok-keep.ensures.bound)
                (c.in-Some.ensures.is_bound table c.requires.goes),
            tt,
          ));
    }
