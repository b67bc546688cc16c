use Rattle.std.proofs.Common.{◌<◌, ◌∙◌, [], ◌∷◌, ◌++◌, length, map, take, ap, sym, arith}
use Rattle.mp_search.specs.Levels.{take_of}
use Rattle.mp_cursor.proofs.SliceLaws.{map-take}
use Rattle.mp_cursor.proofs.entries.take_entries.Goals as goal

pub loop-level-preserved : goal.loop-level-preserved
loop-level-preserved c =
    let ls = c.args.levels.now in
    let i = c.loop-level.level-index in
    let l = c.level-item.result in
    let within : i < length ls = omega arith in
    c.in_ok-push.ensures.ok
    ∙ ap (λ es. es ++ (c.as_slice.result.now, l.collapsed) ∷ []) c.loop-level.invariant
    ∙ ap (λ rs. map take_of (take i ls) ++ (rs, l.collapsed) ∷ []) c.as_slice.ensures
    ∙ ap (λ k. map take_of (take i ls) ++ take_of k ∷ []) c.level-item.is
    ∙ sym (map-take take_of ls i l within)
