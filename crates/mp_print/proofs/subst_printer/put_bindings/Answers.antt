use Rattle.std.proofs.Common.{arith}
use Rattle.std.specs.Prelude.{codes}
use Rattle.std.proofs.lemmas.Simd.{map-map}
use Rattle.std.proofs.Common.{sym}
use Rattle.mp_subst.specs.View.{binding_of}
use Rattle.mp_print.specs.Printing.{binding_text}
use Rattle.mp_print.proofs.Separated.{Puts-separated}
use Rattle.mp_print.proofs.subst_printer.put_bindings.Goals as goal

pub loop-index-preserved : goal.loop-index-preserved
loop-index-preserved g c =
    let text = binding_text c.args.sig.now in
    let bindings = c.args.bindings.now in
    Puts-separated g.K.Sink (λ b. text (binding_of b)) (codes ", ")
    bindings _ (sym (map-map text binding_of bindings)) c.loop-index.index c.index-bindings-index.result
    (omega arith) c.index-bindings-index.is _ _ _ _
    c.loop-index.invariant c.put_gap.ensures c.put_binding.ensures
