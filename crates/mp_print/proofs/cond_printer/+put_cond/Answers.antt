use Rattle.std.proofs.Common.{◌≡◌, ◌≤◌, map, get_or, ap, arith, sym, refl}
use Rattle.mp_pattern.specs.declared.condition.Cond.{Cond}
use Rattle.mp_pattern.specs.CondSize.{cond_nodes, cond_list_nodes}
use Rattle.mp_pattern.specs.CondView.{cond_tree}
use Rattle.mp_pattern.specs.CondTree as plain
use Rattle.mp_pattern.specs.CondTree.{conds}
use Rattle.mp_io.specs.Devices.{Text}
use Rattle.mp_print.specs.PrintedCond.{cond_text, part_text, part_texts}
use Rattle.mp_print.proofs.Arguments.{size-element, texts-map}
use Rattle.mp_print.proofs.Separated.{Puts-all, Puts-separated}
use Rattle.mp_print.proofs.cond_printer.+put_cond.Goals as goal

pub put_parts-put_part-requires : goal.put_parts-put_part-requires
put_parts-put_part-requires g t c κs within =
    let parts = c.args.parts.now in
    let small : cond_nodes (cond_tree (get_or parts c.loop-index.index c.index-parts-index.result))
    ≤ cond_list_nodes (map cond_tree parts) =
    size-element (λ x. cond_nodes (cond_tree x)) (λ xs. cond_list_nodes (map cond_tree xs)) (λ x xs. refl) parts
    c.loop-index.index c.index-parts-index.result (omega arith) in
    let same : cond_nodes (cond_tree c.index-parts-index.result)
    ≡ cond_nodes (cond_tree (get_or parts c.loop-index.index c.index-parts-index.result)) =
    ap (λ (x : Cond). cond_nodes (cond_tree x)) c.index-parts-index.is in
    (omega (arith, c.decreases), within)

pub put_parts-loop-index-preserved : goal.put_parts-loop-index-preserved
put_parts-loop-index-preserved g t c =
    let parts = c.args.parts.now in
    let text : plain.Cond → Text = λ x. part_text c.args.least x (cond_text c.args.sig.now x) in
    Puts-separated g.K.Sink (λ x. text (cond_tree x)) c.args.separator.now parts _
    (sym (texts-map cond_tree conds text (part_texts c.args.sig.now c.args.least) refl (λ x xs. refl) parts))
    c.loop-index.index c.index-parts-index.result (omega arith) c.index-parts-index.is _ _ _ _
    c.loop-index.invariant c.put_gap.ensures c.put_part.ensures

pub put_parts-returns : goal.put_parts-returns
put_parts-returns g t c =
    let parts = c.args.parts.now in
    let text : plain.Cond → Text = λ x. part_text c.args.least x (cond_text c.args.sig.now x) in
    Puts-all g.K.Sink (λ x. text (cond_tree x)) c.args.separator.now parts _
    (sym (texts-map cond_tree conds text (part_texts c.args.sig.now c.args.least) refl (λ x xs. refl) parts))
    c.loop-index.index (omega arith) _ _ c.loop-index.invariant
