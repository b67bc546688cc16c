use Rattle.std.proofs.Common.{◌<◌, ◌∙◌, [], ◌∷◌, ◌++◌, length, map, take, ap, sym, subst, arith}
use Rattle.std.proofs.lemmas.List.{length-map, length-take-le}
use Rattle.mp_io.specs.Writing.{Puts}
use Rattle.mp_search.specs.Levels.{take_of}
use Rattle.mp_token.specs.TokenText.{front_text}
use Rattle.mp_cursor.proofs.SliceLaws.{map-take}
use Rattle.mp_cursor.proofs.entries.put_takes_text.Goals as goal

pub loop-index-preserved : goal.loop-index-preserved
loop-index-preserved g c =
    let ls = c.args.levels.now in
    let i = c.loop-index.index in
    let l = c.index-levels-index.result in
    let subject = c.args.subject.now in
    let rule = c.args.rule.now in
    let within : i < length ls = omega arith in
    subst (λ es. Puts g.K.Sink c.args.out.now c.put_entry.new.out (front_text subject rule es))
    (ap (λ rs. map take_of (take i ls) ++ (rs, l.collapsed) ∷ []) c.as_slice.ensures
    ∙ ap (λ k. map take_of (take i ls) ++ take_of k ∷ []) c.index-levels-index.is
    ∙ sym (map-take take_of ls i l within))
    (c.put_entry.ensures.grows c.args.out.now subject rule (map take_of (take i ls))
    (length-map (take i ls) take_of ∙ length-take-le i ls (omega arith))
    c.loop-index.invariant)
