use Rattle.std.proofs.Common.{◌≡◌, ◌<◌, ◌+◌, ◌∙◌, ◌++◌, [], ◌∷◌, map, take, length, sym, ap, subst, arith}
use Rattle.std.specs.Prelude.{IfSome, Some, codes, option_map, slice_get}
use Rattle.std.proofs.lemmas.List.{length-map, map-append, take_more}
use Rattle.std.proofs.lemmas.Option.{get_or_from_slice_get}
use Rattle.mp_io.specs.Writing.{Puts}
use Rattle.mp_io.specs.Printing.{gap_text}
use Rattle.mp_print.specs.Printing.{binding_text, separated}
use Rattle.mp_walk.specs.RankedView.{shown_binding}
use Rattle.mp_print.proofs.Separated.{Puts-pushed, gap_text-pushed}
use Rattle.mp_matches.proofs.ranked.put_bindings.Goals as goal

pub put_binding-requires : goal.put_binding-requires
put_binding-requires g c =
    let own : c.in-Some.binding.table.now ≡ c.args.pair.now.table =
    subst (λ o. IfSome o (λ b. b.table.now ≡ c.args.pair.now.table)) c.in-Some.is c.binding.ensures.table in
    own ∙ c.requires

pub loop-index-preserved : goal.loop-index-preserved
loop-index-preserved g c =
    let xs = c.args.pair.now.pair.1 in
    let i = c.loop-index.index in
    let text = binding_text c.args.texts.now.sig in
    let x = shown_binding c.in-Some.binding in
    let within : i < length xs = omega (arith, c.loop-index-test.true, c.len-index-end.ensures) in
    let at : slice_get xs i ≡ Some x = c.binding.ensures.binding ∙ ap (option_map shown_binding) c.in-Some.is in
    let before = take i xs in
    let next : take (i + 1) xs ≡ before ++ x ∷ [] =
    take_more xs i x within ∙ ap (λ y. before ++ y ∷ []) (get_or_from_slice_get xs i x x at) in
    let gap : c.loop-index.gap.now ≡ gap_text (codes ", ") (length (map text before)) =
    subst (λ k. c.loop-index.gap.now ≡ gap_text (codes ", ") k) (sym (length-map before text))
    c.loop-index.invariant.gap in
    rw next (record {
      put = subst (λ l. Puts g.K.Sink c.args.out.now c.put_binding.new.out (separated (codes ", ") l))
          (sym (map-append text before (x ∷ [])))
          (Puts-pushed g.K.Sink (codes ", ") (map text before) (text x) _ _ _ _ c.loop-index.invariant.put
          (subst (Puts g.K.Sink c.loop-index.out c.put.new.self) gap c.put.ensures) c.put_binding.ensures);
      gap = c.as_slice-gap-in-loop-index.ensures ∙ sym (gap_text-pushed (codes ", ") before x);
    })
