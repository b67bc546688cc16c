use Rattle.std.proofs.Common.{◌≡◌, ◌≤◌, ◌+◌, ◌++◌, ◌∷◌, [], ◌∙◌, ap, sym, refl, subst, arith, add-one}
use Rattle.std.proofs.Common.{length, map, drop}
use Rattle.std.proofs.lemmas.List.{length-map, length-drop}
use Rattle.mp_term.specs.Tree.{app, trees}
use Rattle.mp_term.specs.View.{tree}
use Rattle.mp_pattern.specs.Planned.{planned_rule}
use Rattle.mp_rewrite.proofs.FirstRedexes.{mapped-at}
use Rattle.mp_rewrite.proofs.Runs.{IsOn, on-step, on-kept, drop-two, drop-next, one-there}
use Rattle.mp_rewrite.proofs.run.pass_over.Goals as goal

pub loop-made-preserved-then-eq : goal.loop-made-preserved-then-eq
loop-made-preserved-then-eq c =
    let sig = c.args.sig.now in
    let rules = map planned_rule c.args.rules.now in
    let d = c.args.cancellation.now in
    let xs = c.args.before.now in
    let before = map tree xs in
    let behind = map tree c.args.behind.now in
    let t = app d.op.0 (trees (before ++ behind)) in
    let i = c.loop-made.place in
    let kept = c.loop-made.kept in
    let k = c.loop-made.made in
    let x = tree c.index-before-place.result in
    let y = tree c.index-before-place-in-loop-made.result in
    let room = c.goes_on.ensures c.if-goes_on.true in
    let g = mapped-at tree xs before i c.index-before-place.result refl (omega (arith, room.0))
    c.index-before-place.is in
    let h = mapped-at tree xs before (i + 1) c.index-before-place-in-loop-made.result refl (omega (arith, room.0))
    c.index-before-place-in-loop-made.is in
    let ahead = drop (i + 2) before in
    let on = subst (λ l. IsOn sig rules d t behind kept l k) (drop-two before i x y g h) c.loop-made.invariant.on in
    let two : 2 ≤ length ahead + length behind = omega (
      arith,
      room.1,
      length-drop (i + 2) before,
      length-map xs tree,
      length-map c.args.behind.now tree,
    ) in
    record {
      few = omega (arith, c.loop-made-test.true);
      within = room.0;
      on = subst (λ n. IsOn sig rules d t behind kept ahead n) (sym (add-one k))
          (on-step sig rules d c.signature_is_valid.ensures c.requires.rules c.requires.run.first c.requires.run.comm t
          behind kept ahead k x y c.eq.result c.eq.ensures c.if-eq.true two on);
    }

pub loop-made-preserved : goal.loop-made-preserved
loop-made-preserved c =
    let sig = c.args.sig.now in
    let rules = map planned_rule c.args.rules.now in
    let d = c.args.cancellation.now in
    let xs = c.args.before.now in
    let before = map tree xs in
    let behind = map tree c.args.behind.now in
    let t = app d.op.0 (trees (before ++ behind)) in
    let i = c.loop-made.place in
    let kept = c.loop-made.kept in
    let k = c.loop-made.made in
    let x = tree c.index-before-place.result in
    let y = tree c.index-before-place-in-loop-made.result in
    let room = c.goes_on.ensures c.if-goes_on.true in
    let g = mapped-at tree xs before i c.index-before-place.result refl (omega (arith, room.0))
    c.index-before-place.is in
    let h = mapped-at tree xs before (i + 1) c.index-before-place-in-loop-made.result refl (omega (arith, room.0))
    c.index-before-place-in-loop-made.is in
    let again = mapped-at tree xs before i c.index-before-place-else-eq.result refl (omega (arith, room.0))
    c.index-before-place-else-eq.is in
    let ahead = drop (i + 2) before in
    let on = subst (λ l. IsOn sig rules d t behind kept l k) (drop-two before i x y g h) c.loop-made.invariant.on in
    let next = on-kept sig rules d t behind kept ahead k x y c.eq.result c.eq.ensures c.if-eq.false on in
    let copied = c.in_ok-copy_term.ensures
    ∙ one-there before i (tree c.index-before-place-else-eq.result) x again g in
    let pushed : kept ++ x ∷ [] ≡ c.push.new.self =
    sym (c.in_ok-push.ensures.ok ∙ ap (λ v. kept ++ v ∷ []) copied) in
    record {
      few = c.loop-made.invariant.few;
      within = omega (arith, room.0);
      on = subst (λ l. IsOn sig rules d t behind l (drop (i + 1) before) k) pushed
          (subst (λ l. IsOn sig rules d t behind (kept ++ x ∷ []) l k) (drop-next before i y h) next);
    }
