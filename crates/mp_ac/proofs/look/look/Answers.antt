use Rattle.std.proofs.Common.{◌-◌, ap, sym, ◌∙◌, arith}
use Rattle.std.proofs.lemmas.List.{length-take-le}
use Rattle.mp_pattern.specs.View.{pattern_tree}
use Rattle.mp_ac.proofs.LookLaws as laws
use Rattle.mp_ac.proofs.look.look.Goals as goal

pub slice_bounds-find-end : goal.slice_bounds-find-end
slice_bounds-find-end c =
    omega (arith, laws.count-below c.args.asked c.requires.asked c.len.result c.len.ensures.count, c.requires.count)

pub slice_bounds-find-end-2 : goal.slice_bounds-find-end-2
slice_bounds-find-end-2 c = sym (length-take-le (c.len.result - 1) c.args.levels.now
    (omega (arith, laws.count-below c.args.asked c.requires.asked c.len.result c.len.ensures.count, c.requires.count)))

pub find-requires-clause-ready : goal.find-requires-clause-ready
find-requires-clause-ready c =
    let e = laws.count-below c.args.asked c.requires.asked c.len.result c.len.ensures.count in
    laws.is-ready c.args.asked c.requires.asked c.args.args c.args.grounds c.in-App.op c.as_slice.result
    c.in-App.children (sym c.pattern.ensures ∙ ap pattern_tree c.in-App.is) c.as_slice.ensures c.requires.args
    c.requires.grounds c.args.width c.requires.wide
    (c.len.result - 1) c.args.levels.now c.args.trail.now (omega (arith, e)) c.requires.count
    c.requires.levels c.requires.trail

pub find-requires-clause-standing : goal.find-requires-clause-standing
find-requires-clause-standing c =
    let e = laws.count-below c.args.asked c.requires.asked c.len.result c.len.ensures.count in
    laws.is-standing c.args.asked c.requires.asked c.args.args c.args.grounds c.in-App.op c.as_slice.result
    c.in-App.children (sym c.pattern.ensures ∙ ap pattern_tree c.in-App.is) c.as_slice.ensures c.requires.args
    c.requires.grounds c.args.width c.requires.wide
    (c.len.result - 1) c.args.levels.now c.args.trail.now (omega (arith, e)) c.requires.count
    c.args.mode c.requires.standing

pub returns-clause-found : goal.returns-clause-found
returns-clause-found c =
    let e = laws.count-below c.args.asked c.requires.asked c.len.result c.len.ensures.count in
    laws.finds c.args.asked c.requires.asked c.args.args c.args.grounds c.in-App.op c.as_slice.result
    c.in-App.children (sym c.pattern.ensures ∙ ap pattern_tree c.in-App.is) c.as_slice.ensures c.requires.args
    c.requires.grounds c.args.width c.requires.wide
    (c.len.result - 1) c.args.levels.now c.args.trail.now (omega (arith, e)) c.requires.count
    c.find.new.levels _ c.find.new.trail c.find.ensures.many c.args.mode c.find.result c.requires.mode
    c.requires.standing c.find.ensures.found

pub returns-clause-spare : goal.returns-clause-spare
returns-clause-spare c =
    let e = laws.count-below c.args.asked c.requires.asked c.len.result c.len.ensures.count in
    laws.is-spare c.args.asked c.requires.asked c.args.args c.args.grounds c.in-App.op c.as_slice.result
    c.in-App.children (sym c.pattern.ensures ∙ ap pattern_tree c.in-App.is) c.as_slice.ensures c.requires.args
    c.requires.grounds c.args.width c.requires.wide
    (c.len.result - 1) c.args.levels.now c.args.trail.now (omega (arith, e)) c.requires.count
    c.find.new.trail c.find.ensures.spare
