use Rattle.std.proofs.Common.{◌≡◌, ◌+◌, ◌∙◌, [], length, ap, sym, subst, arith}
use Rattle.std.proofs.lemmas.List.{length-take-le}
use Rattle.mp_subst.specs.Trail.{Trail, cut, length_at}
use Rattle.mp_subst.proofs.TrailLaws.{cut-cut}
use Rattle.mp_walk.specs.Below.{IsSearch, below_ahead, unboxed}
use Rattle.mp_ac.specs.Numbered.{numbered_subst}
use Rattle.mp_walk.proofs.BelowLaws as laws
use Rattle.mp_walk.proofs.comm.step_below.Goals as goal

pub returns-in_default-clause-step : goal.returns-in_default-clause-step
returns-in_default-clause-step c = λ f gs first.
    let b = c.args.below in
    let u = cut (length_at c.args.mark) c.args.trail.now in
    let s = numbered_subst b.table.now u.stack in
    let o = unboxed c.loop-alloc.search in
    let none = subst (λ (w : Trail). below_ahead o (numbered_subst b.table.now w.stack) ≡ [])
    c.loop-alloc.invariant.above.cut c.loop-alloc-test.ensures.found in
    sym (c.loop-alloc.invariant.same f gs first) ∙ laws.step-over b f gs c.loop-alloc.next s o none
    ∙ laws.step-ended b c.requires.below f gs s first c.loop-alloc.next (sym c.in_default.is ∙ c.first_way.ensures)

pub returns-in_default-clause-ended : goal.returns-in_default-clause-ended
returns-in_default-clause-ended c truth f gs first =
    let b = c.args.below in
    let s = numbered_subst b.table.now (cut (length_at c.args.mark) c.args.trail.now).stack in
    laws.step-over b f gs c.loop-alloc.next s (unboxed c.give_back.new.search)
    (ap (λ o. below_ahead (unboxed o) s) c.in_ok-give_back.ensures.search)
    ∙ laws.step-ended b c.requires.below f gs s first c.loop-alloc.next (sym c.in_default.is ∙ c.first_way.ensures)

pub returns-in_default-clause-above : goal.returns-in_default-clause-above
returns-in_default-clause-above c =
    let b = c.args.below in
    let m = length_at c.args.mark in
    let t = c.args.trail.now in
    let back = c.undo.ensures.trail ∙ c.next_item.ensures.above.cut ∙ c.loop-alloc.invariant.above.cut in
    record {
      long = omega (arith, ap (λ (w : Trail). length w.stack) back, length-take-le m t.stack c.requires.above.long);
      cut = ap (cut m) back ∙ cut-cut m m t (omega arith) c.requires.above.long;
      trail = record {
        goes = c.undo.ensures.goes_with b.table.now c.next_item.ensures.above.trail.goes;
        vars = ap (λ (w : Trail). w.vars) back ∙ c.requires.above.trail.vars;
      };
    }

pub begin-requires-clause-trail : goal.begin-requires-clause-trail
begin-requires-clause-trail c =
    let back = c.undo.ensures.trail ∙ c.next_item.ensures.above.cut ∙ c.loop-alloc.invariant.above.cut in
    record {
      goes = c.undo.ensures.goes_with c.args.below.table.now c.next_item.ensures.above.trail.goes;
      vars = ap (λ (w : Trail). w.vars) back ∙ c.requires.above.trail.vars;
    }

pub loop-alloc-preserved : goal.loop-alloc-preserved
loop-alloc-preserved c =
    let b = c.args.below in
    let m = length_at c.args.mark in
    let t = c.args.trail.now in
    let u = cut m t in
    let s = numbered_subst b.table.now u.stack in
    let o = unboxed c.loop-alloc.search in
    let none = subst (λ (w : Trail). below_ahead o (numbered_subst b.table.now w.stack) ≡ [])
    c.loop-alloc.invariant.above.cut c.loop-alloc-test.ensures.found in
    let back = c.undo.ensures.trail ∙ c.next_item.ensures.above.cut ∙ c.loop-alloc.invariant.above.cut in
    let way = laws.way-next b c.loop-alloc.next c.in-Some.way (sym c.in-Some.is ∙ c.first_way.ensures) in
    record {
      same = λ f gs first.
          laws.step-begun b c.requires.below f gs s first c.loop-alloc.next c.in-Some.way
          (unboxed c.in_ok-begun.begun) (sym c.in-Some.is ∙ c.first_way.ensures) (c.in_ok-begun.ensures.list s)
          ∙ sym (laws.step-over b f gs c.loop-alloc.next s o none)
          ∙ c.loop-alloc.invariant.same f gs first;
      search = subst (λ w. IsSearch b w (unboxed c.in_ok-begun.begun)) back c.in_ok-begun.ensures.search;
      way = laws.is-at-way (c.in-Some.way + 1) (unboxed c.in_ok-begun.begun) (omega arith) (omega (arith, way.0.few));
      above = record {
        long = omega (arith, ap (λ (w : Trail). length w.stack) back, length-take-le m t.stack c.requires.above.long);
        cut = ap (cut m) back ∙ cut-cut m m t (omega arith) c.requires.above.long;
        trail = record {
          goes = c.undo.ensures.goes_with b.table.now c.next_item.ensures.above.trail.goes;
          vars = ap (λ (w : Trail). w.vars) back ∙ c.requires.above.trail.vars;
        };
      };
      store = c.in_ok-begun.ensures.store;
    }
