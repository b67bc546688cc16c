use Rattle.std.proofs.Common.{◌≡◌, ◌∙◌, [], ◌∷◌, Some, map, take, length, sym, ap, subst}
use Rattle.std.specs.Prelude.{codes, option_map}
use Rattle.std.proofs.lemmas.List.{length-map, map-append}
use Rattle.mp_io.specs.Writing.{Puts}
use Rattle.mp_io.specs.Printing.{gap_text}
use Rattle.mp_pattern.specs.Value.{Binding}
use Rattle.mp_subst.specs.Bound.{bound_of, value_in}
use Rattle.mp_subst.specs.Trail.{last_value, bindings_from}
use Rattle.mp_print.specs.Printing.{binding_text, separated}
use Rattle.mp_print.proofs.Separated.{Puts-pushed, gap_text-pushed}
use Rattle.mp_print.proofs.BoundVariables.{bindings_from-unbound, bindings_from-nameless, bindings_from-bound}
use Rattle.mp_print.proofs.trail_printer.put_variables.Goals as goal

pub loop-var-preserved-in_default : goal.loop-var-preserved-in_default
loop-var-preserved-in_default g c =
    rw (bindings_from-unbound c.args.table.now c.args.trail.now.stack c.args.plan.now.variables c.loop-var.var
    (sym c.binding.ensures.value ∙ ap (option_map bound_of) c.in_default.is))
    c.loop-var.invariant

pub loop-var-preserved-in_default-var_name : goal.loop-var-preserved-in_default-var_name
loop-var-preserved-in_default-var_name g c =
    rw (bindings_from-nameless c.args.table.now c.args.trail.now.stack c.args.plan.now.variables c.loop-var.var
    (sym c.var_name.ensures ∙ ap (option_map (λ n. n.now)) c.in_default-var_name.is))
    c.loop-var.invariant

pub loop-var-preserved : goal.loop-var-preserved
loop-var-preserved g c =
    let T = c.args.table.now in
    let es = c.args.trail.now.stack in
    let xs = c.args.plan.now.variables in
    let i = c.loop-var.var in
    let text = binding_text c.args.sig.now in
    let b = bound_of c.in-Some.bound in
    let n = c.in-Some-var_name.name.now in
    let before = bindings_from T es 0 (take i xs) in
    let own : Binding = record { name = n; value = value_in T b } in
    let bound : last_value es i ≡ Some b = sym c.binding.ensures.value ∙ ap (option_map bound_of) c.in-Some.is in
    let next = bindings_from-bound T es xs i b n bound
    (sym c.var_name.ensures ∙ ap (option_map (λ m. m.now)) c.in-Some-var_name.is) in
    let gap : c.loop-var.gap.now ≡ gap_text (codes ", ") (length (map text before)) =
    subst (λ k. c.loop-var.gap.now ≡ gap_text (codes ", ") k) (sym (length-map before text)) c.loop-var.invariant.gap in
    rw next (record {
      put = subst (λ l. Puts g.K.Sink c.args.out.now c.put_variable.new.out (separated (codes ", ") l))
          (sym (map-append text before (own ∷ [])))
          (Puts-pushed g.K.Sink (codes ", ") (map text before) (text own) _ _ _ _ c.loop-var.invariant.put
          (subst (Puts g.K.Sink c.loop-var.out c.put.new.self) gap c.put.ensures) c.put_variable.ensures);
      gap = c.as_slice-gap-in-loop-var.ensures ∙ sym (gap_text-pushed (codes ", ") before own);
    })
