use Rattle.std.proofs.Common.{arith, ◌∙◌, ◌<◌, ◌≡◌, length, sym, ap, subst, IfSome}
use Rattle.std.specs.Prelude.{option_and_then, string_bytes}
use Rattle.std.specs.Str.{bytes_eq}
use Rattle.mp_io.specs.MemoryShelfView.{bytes_at}
use Rattle.mp_io.proofs.Held.{held-take_found, held-take_kept}
use Rattle.mp_io.proofs.memory_shelf.find_last.Goals as goal
use Rattle.mp_io.proofs.memory_shelf.find_last.Goals.{then-eq, else-eq}

pub loop-i-preserved : goal.loop-i-preserved
loop-i-preserved c =
    let files = c.args.files.now in
    let file = c.index-files-i.result in
    let name = c.args.name.now in
    let within : c.loop-i.i < length files = omega arith in
    let tested : bytes_eq (string_bytes file.name) name ≡ c.eq.result =
    ap (λ t. bytes_eq t name) (sym c.as_str.ensures.value) ∙ sym c.eq.ensures in
    elim c.if-eq.branch [
      | then-eq w ↦ record {
        bytes = held-take_found files c.loop-i.i file name within c.index-files-i.is (tested ∙ w.if-eq.true)
            ∙ ap (option_and_then (bytes_at files)) (sym w.found-is);
        within = subst (λ o. IfSome o (λ i. i < length files)) (sym w.found-is) within;
      }
      | else-eq w ↦ record {
        bytes = held-take_kept files c.loop-i.i file name within c.index-files-i.is (tested ∙ w.if-eq.false)
            ∙ c.loop-i.invariant.bytes ∙ ap (option_and_then (bytes_at files)) (sym w.found-is);
        within = subst (λ o. IfSome o (λ i. i < length files)) (sym w.found-is) c.loop-i.invariant.within;
      }
    ]
