use Rattle.std.proofs.Common.{◌≡◌, ◌<◌, ◌+◌, ◌-◌, suc, true, take, drop, length, filter, flat_map}
use Rattle.std.proofs.Common.{◌∷◌, ◌++◌, refl, sym, ap, ◌∙◌, subst, arith}
use Rattle.std.specs.Prelude.{Some}
use Rattle.mp_pattern.specs.PatternTree.{app_pattern, patterns}
use Rattle.mp_pattern.specs.View.{pattern_tree}
use Rattle.mp_theory.specs.Frames as walk
use Rattle.mp_theory.specs.Machine as machine
use Rattle.mp_search.specs.At.{HasTrail, IsDrawn, drawn_at, items_from, items_with}
use Rattle.mp_search.specs.Frames.{above, stack_frames, frame_of, inner_of, left_of, place_after, LeftBelow, IsBelow}
use Rattle.mp_search.specs.Reading.{table_of, entry_at, subst_of}
use Rattle.mp_search.specs.Wanted.{wanted, good, IsStanding, AreComplete}
use Rattle.mp_search.specs.declared.mode.Mode.TheVariants.{First}
use Rattle.mp_term.specs.Order.{tree_cmp}
use Rattle.mp_term.specs.Pieces.{without}
use Rattle.mp_search.proofs.FramesLaws.{settle-more, rest-behind, outer-below, entered-plain, frame-front}
use Rattle.mp_search.proofs.FollowLaws as follows
use Rattle.mp_search.proofs.JudgeLaws.{none-good}
use Rattle.mp_search.proofs.LevelsLaws.{draws-kept, length-take_within}
use Rattle.mp_search.proofs.PartLaws.{first-pattern}
use Rattle.mp_search.proofs.OnwardLaws.{node-kept, at-kept, trail-kept, cut-back, levels-after}
use Rattle.mp_search.specs.Tried.{to_try}
use Rattle.mp_subst.specs.Trail.{length_at}
use Rattle.mp_subst.proofs.TrailLaws.{length-kept}
use Rattle.mp_search.proofs.TriedLaws.{trying-init, trying-allowed, trying-complete, trying-found, trying-next}
use Rattle.mp_search.proofs.TriedLaws.{IsTrying, trying-falls, member-kept, pool-kept}
use Rattle.mp_search.proofs.NextLaws as nexts
use Rattle.mp_search.proofs.OneWayLaws.{none-after}
use Rattle.mp_search.proofs.VisitLaws as visits
use Rattle.mp_search.proofs.descent.+search.Goals as goal

pub descend-search_within-requires : goal.descend-search_within-requires
descend-search_within-requires t c =
    let q = c.args.query.now in
    let k = c.args.k in
    let L = c.args.levels.now in
    let p = c.args.place.now in
    let e = entry_at q.table.now L k in
    let within = c.requires.within in
    let at = c.requires.place in
    let taken = machine.taken_out (pattern_tree p.child.now) e (inner_of q (take k L) p) in
    let outer = stack_frames q (take k L) p.outer.now in
    let rest = frame_of q (take (k + 1) L) c.rest_frame.result ∷ stack_frames q (take (k + 1) L) p.outer.now in
    let frames : frame_of q (take (k + 1) L) c.inner_frame-inner.result ∷ rest
    ≡ machine.entered (pattern_tree p.child.now) e (taken ∷ outer) =
    ap (λ f. f ∷ rest) (frame-front q (k + 1) L c.inner_frame-inner.result c.inner_frame-inner.ensures.below)
    ∙ ap (λ l. l ++ rest) c.inner_frame-inner.ensures.frame
    ∙ ap (λ ps. machine.entered (app_pattern c.in-App.op.0 (patterns ps)) e rest) c.as_slice.ensures
    ∙ ap (λ z. machine.entered (pattern_tree z) e rest) (sym c.in-App.is)
    ∙ ap (machine.entered (pattern_tree p.child.now) e)
    (rest-behind q k L p c.rest_frame.result taken within at c.rest_frame.ensures.frame c.rest_frame.ensures.below) in (
      omega (arith, c.decreases, within),
      (
        omega (arith, within),
        (
          c.requires.node,
          (
            settle-more q k L p
                (frame_of q (take (k + 1) L) c.inner_frame-inner.result ∷ rest) within at frames,
            (
              (c.inner_frame-inner.ensures.below, (c.rest_frame.ensures.below, outer-below q k L p within at)),
              (c.requires.trail, (c.requires.standing, c.requires.complete)),
            ),
          ),
        ),
      ),
    )

pub descend-search-requires : goal.descend-search-requires
descend-search-requires t c =
    let q = c.args.query.now in
    let k = c.args.k in
    let L = c.args.levels.now in
    let p = c.args.place.now in
    let e = entry_at q.table.now L k in
    let within = c.requires.within in
    let at = c.requires.place in
    let taken = machine.taken_out (pattern_tree p.child.now) e (inner_of q (take k L) p) in
    let outer = stack_frames q (take k L) p.outer.now in
    let rest = frame_of q (take (k + 1) L) c.rest_frame.result ∷ stack_frames q (take (k + 1) L) p.outer.now in
    let frames : rest ≡ machine.entered (pattern_tree p.child.now) e (taken ∷ outer) =
    rest-behind q k L p c.rest_frame.result taken within at c.rest_frame.ensures.frame c.rest_frame.ensures.below
    ∙ sym (entered-plain p.child.now e (taken ∷ outer) c.in_default.not-App) in (
      omega (arith, c.decreases, within),
      (
        omega (arith, within),
        (
          c.requires.node,
          (
            settle-more q k L p rest within at frames,
            (
              (c.rest_frame.ensures.below, outer-below q k L p within at),
              (c.requires.trail, (c.requires.standing, c.requires.complete)),
            ),
          ),
        ),
      ),
    )

pub follow-returns-then-leads_nowhere_at-clause-found : goal.follow-returns-then-leads_nowhere_at-clause-found
follow-returns-then-leads_nowhere_at-clause-found t c =
    let q = c.args.query.now in
    let k = c.args.k in
    let L = c.args.levels.now in
    follows.nowhere q k L c.args.mode (subst_of q c.args.trail.now) (subst_of q c.bind_at.new.trail) c.requires.within
    c.if-not-bind_at.ensures.bound (c.if-leads_nowhere_at.ensures refl (length L - suc k)) c.requires.complete

pub follow-descend-requires : goal.follow-descend-requires
follow-descend-requires t c =
    let q = c.args.query.now in
    let k = c.args.k in
    let L = c.args.levels.now in
    let L1 = c.leave_at.new.levels in
    let p = c.args.place.now in
    let r = c.requires in
    let l = c.leave_at.ensures in
    let ready = follows.ready q k L c.args.mode (subst_of q c.args.trail.now) L1 c.bind_at.new.trail r.within r.node
    r.allowed l.kept l.entries c.if-not-bind_at.ensures.trail c.if-not-bind_at.ensures.bound r.standing r.complete in (
      omega (arith, c.decreases, l.kept.many, r.within),
      (
        omega (arith, r.within, l.kept.many),
        (
          ready.node,
          (
            at-kept q k L L1 p r.place l.kept.front,
            (follows.rest-kept q k L L1 p l.kept.front l.own l.rest, (ready.trail, (ready.standing, ready.complete))),
          ),
        ),
      ),
    )

pub follow-returns-clause-found : goal.follow-returns-clause-found
follow-returns-clause-found t c =
    let q = c.args.query.now in
    let k = c.args.k in
    follows.found q k c.args.mode c.args.levels.now c.leave_at.new.levels c.descend.new.levels c.descend.result
    (subst_of q c.args.trail.now) (subst_of q c.bind_at.new.trail) (subst_of q c.descend.new.trail) c.requires.within
    c.leave_at.ensures.kept.many c.descend.ensures.kept.many c.leave_at.ensures.entries c.leave_at.ensures.kept.front
    c.descend.ensures.kept.front c.if-not-bind_at.ensures.bound c.descend.ensures.found

pub follow-returns-clause-own : goal.follow-returns-clause-own
follow-returns-clause-own t c =
    follows.own-more c.args.k c.descend.new.levels c.leave_at.new.levels c.descend.ensures.kept.front
    ∙ c.leave_at.ensures.own

pub follow-returns-clause-kept : goal.follow-returns-clause-kept
follow-returns-clause-kept t c =
    follows.kept c.args.query.now c.args.k c.args.levels.now c.leave_at.new.levels c.descend.new.levels c.args.trail.now
    c.bind_at.new.trail c.descend.new.trail c.requires.within c.leave_at.ensures.kept c.leave_at.ensures.entries
    c.if-not-bind_at.ensures.kept c.if-not-bind_at.ensures.spare c.if-not-bind_at.ensures.only c.descend.ensures.kept

pub search-visit-requires : goal.search-visit-requires
search-visit-requires t c =
    let q = c.args.query.now in
    let k = c.args.k in
    let L = c.args.levels.now in
    let within : k < length L = omega (arith, c.requires.within, c.if-k-levels.false) in (
      omega (arith, c.decreases, within),
      (
        within,
        (
          c.requires.node,
          (
            record { stands = sym c.in-Child.ensures.next ∙ c.requires.stands; within = c.in-Child.ensures.below },
            (c.requires.trail, (c.requires.standing, c.requires.complete)),
          ),
        ),
      ),
    )

pub try_each-loop-found-init : goal.try_each-loop-found-init
try_each-loop-found-init t c =
    let q = c.args.query.now in
    trying-init q c.args.place.now c.args.k c.args.levels.now c.args.trail.now c.args.from
    (record { front = refl; many = refl; levels = c.requires.node.levels }) c.requires.from

pub try_each-follow-requires : goal.try_each-follow-requires
try_each-follow-requires t c =
    let q = c.args.query.now in
    let k = c.args.k in
    let p = c.args.place.now in
    let L = c.args.levels.now in
    let N = c.loop-found.levels in
    let T = c.args.trail.now in
    let U = c.loop-found.trail in
    let r = c.requires in
    let i : IsTrying q p k L N T U c.args.from true =
    subst (λ b. IsTrying q p k L N T U c.args.from b) c.loop-found-test.true c.loop-found.invariant in (
      omega (arith, c.decreases, i.levels.many, r.within),
      (
        omega (arith, r.within, i.levels.many),
        (
          node-kept q k L N r.node i.levels,
          (
            at-kept q k L N p r.place i.levels.front,
            (
              subst (HasTrail q k N) (sym i.trail) (trail-kept q k L N T r.trail i.levels),
              (
                trying-allowed q p k L N T U c.args.from i r.drawn,
                (tt, trying-complete q p k L N T U c.args.from i r.drawn r.within r.complete),
              ),
            ),
          ),
        ),
      ),
    )

pub try_each-returns-then-follow-clause-found : goal.try_each-returns-then-follow-clause-found
try_each-returns-then-follow-clause-found t c =
    let q = c.args.query.now in
    let k = c.args.k in
    let p = c.args.place.now in
    let L = c.args.levels.now in
    let N = c.loop-found.levels in
    let T = c.args.trail.now in
    let U = c.loop-found.trail in
    let i : IsTrying q p k L N T U c.args.from true =
    subst (λ b. IsTrying q p k L N T U c.args.from b) c.loop-found-test.true c.loop-found.invariant in
    trying-found q p k L N T U c.args.from i c.requires.drawn (table_of q.table.now (drop k N))
    (table_of q.table.now (drop k c.follow.new.levels), subst_of q c.follow.new.trail) c.if-follow.ensures.found

pub try_each-returns-then-follow-clause-kept : goal.try_each-returns-then-follow-clause-kept
try_each-returns-then-follow-clause-kept t c =
    follows.kept-after c.args.query.now c.args.k c.args.levels.now c.loop-found.levels c.follow.new.levels
    c.args.trail.now c.loop-found.trail c.follow.new.trail c.loop-found.invariant.levels c.loop-found.invariant.trail
    c.follow.ensures.kept

pub try_each-undo-requires : goal.try_each-undo-requires
try_each-undo-requires t c =
    let m = c.mark-mark.ensures in
    let w = length-kept c.loop-found.trail c.follow.new.trail c.follow.ensures.kept.cut in
    let i = ap (λ u. length u.stack) c.loop-found.invariant.trail in
    omega (arith, m, w, i)

pub try_each-next_at-found-requires-clause-node : goal.try_each-next_at-found-requires-clause-node
try_each-next_at-found-requires-clause-node t c =
    let q = c.args.query.now in
    let k = c.args.k in
    let i = c.loop-found.invariant.levels in
    let f = c.follow.ensures.kept in
    node-kept q k c.args.levels.now c.follow.new.levels c.requires.node
    (record { front = f.front ∙ i.front; many = f.many ∙ i.many; levels = f.levels })

pub try_each-next_at-found-requires-clause-place : goal.try_each-next_at-found-requires-clause-place
try_each-next_at-found-requires-clause-place t c =
    at-kept c.args.query.now c.args.k c.args.levels.now c.follow.new.levels c.args.place.now c.requires.place
    (c.follow.ensures.kept.front ∙ c.loop-found.invariant.levels.front)

pub try_each-next_at-found-requires-clause-pool : goal.try_each-next_at-found-requires-clause-pool
try_each-next_at-found-requires-clause-pool t c =
    pool-kept c.args.query.now c.args.k c.args.levels.now c.follow.new.levels c.requires.drawn.pool
    (draws-kept c.args.k c.follow.new.levels c.loop-found.levels c.follow.ensures.own ∙ c.loop-found.invariant.draws)

pub try_each-next_at-found-requires-clause-drawn : goal.try_each-next_at-found-requires-clause-drawn
try_each-next_at-found-requires-clause-drawn t c =
    let q = c.args.query.now in
    let k = c.args.k in
    let L = c.args.levels.now in
    let L1 = c.follow.new.levels in
    let i = c.loop-found.invariant in
    member-kept q c.args.place.now k L c.loop-found.levels L1 (i.member c.loop-found-test.true)
    (c.follow.ensures.kept.front ∙ i.levels.front) i.draws c.follow.ensures.own

pub try_each-loop-found-smaller : goal.try_each-loop-found-smaller
try_each-loop-found-smaller t c =
    let q = c.args.query.now in
    let k = c.args.k in
    let p = c.args.place.now in
    let L = c.args.levels.now in
    let N = c.loop-found.levels in
    let T = c.args.trail.now in
    let U = c.loop-found.trail in
    let f = c.follow.ensures in
    let x = c.next_at-found.ensures in
    let i : IsTrying q p k L N T U c.args.from true =
    subst (λ b. IsTrying q p k L N T U c.args.from b) c.loop-found-test.true c.loop-found.invariant in
    subst
    (λ d. length (to_try c.next_at-found.result (entry_at q.table.now c.next_at-found.new.levels k)
    (drawn_at q p c.next_at-found.new.levels k))
    < length (to_try d (entry_at q.table.now N k) (drawn_at q p N k))) (sym c.loop-found-test.true)
    (trying-falls q p k L N T U c.args.from i c.requires.drawn c.follow.new.levels c.next_at-found.new.levels
    c.undo.new.self
    c.next_at-found.result (table_of q.table.now (drop k N)) f.kept.front f.own x.kept x.draws x.choice)

pub try_each-loop-found-preserved : goal.try_each-loop-found-preserved
try_each-loop-found-preserved t c =
    let q = c.args.query.now in
    let k = c.args.k in
    let p = c.args.place.now in
    let L = c.args.levels.now in
    let N = c.loop-found.levels in
    let T = c.args.trail.now in
    let U = c.loop-found.trail in
    let f = c.follow.ensures in
    let x = c.next_at-found.ensures in
    let i : IsTrying q p k L N T U c.args.from true =
    subst (λ b. IsTrying q p k L N T U c.args.from b) c.loop-found-test.true c.loop-found.invariant in
    let undone = cut-back U c.follow.new.trail c.undo.new.self (length_at c.mark-mark.result)
    (c.mark-mark.ensures ∙ ap (λ u. length u.stack) (sym i.trail)) f.kept.cut c.undo.ensures.trail in
    trying-next q p k L N T U c.args.from i c.requires.drawn c.follow.new.levels c.next_at-found.new.levels
    c.undo.new.self
    c.next_at-found.result
    (table_of q.table.now (drop k N)) f.kept.front f.own x.kept x.draws x.choice f.kept.many undone
    c.if-follow.ensures.found

pub try_each-returns-clause-found : goal.try_each-returns-clause-found
try_each-returns-clause-found t c =
    let q = c.args.query.now in
    let k = c.args.k in
    let p = c.args.place.now in
    let L = c.args.levels.now in
    let g = items_with q k L (subst_of q c.args.trail.now) in
    sym (subst
    (λ b. filter (good q) (flat_map g (to_try b (entry_at q.table.now c.loop-found.levels k) (drawn_at q p L k)))
    ≡ filter (good q) (flat_map g (to_try c.args.from (entry_at q.table.now L k) (drawn_at q p L k))))
    c.loop-found-test.false c.loop-found.invariant.tried)

pub try_each-returns-clause-kept : goal.try_each-returns-clause-kept
try_each-returns-clause-kept t c =
    follows.kept-levels c.args.query.now c.args.k c.args.levels.now c.loop-found.levels c.args.trail.now
    c.loop-found.trail
    c.loop-found.invariant.levels c.loop-found.invariant.trail c.requires.trail.trail

pub visit_next-returns-then-not-pass_at-clause-found : goal.visit_next-returns-then-not-pass_at-clause-found
visit_next-returns-then-not-pass_at-clause-found t c =
    let q = c.args.query.now in
    let L = c.args.levels.now in
    let r = c.requires in
    let a = c.pass_at.ensures in
    ap (wanted q c.args.mode (table_of q.table.now (drop c.args.k L)))
    (nexts.shut-items q c.args.k L c.args.place.now c.args.trail.now r.within r.place r.next c.pass_at.new.levels
    c.pass_at.new.trail a.levels a.kept a.only a.trail a.spare c.if-not-pass_at.ensures.passed)

pub visit_next-returns-then-not-pass_at-clause-kept : goal.visit_next-returns-then-not-pass_at-clause-kept
visit_next-returns-then-not-pass_at-clause-kept t c =
    let r = c.requires in
    let a = c.pass_at.ensures in
    nexts.shut-keeps c.args.query.now c.args.k c.args.levels.now c.args.place.now c.args.trail.now r.within r.place
    r.next c.pass_at.new.levels c.pass_at.new.trail a.levels a.kept a.only a.trail a.spare
    c.if-not-pass_at.ensures.passed

pub visit_next-returns-then-fails-clause-found
    : goal.visit_next-returns-then-fails-clause-found
visit_next-returns-then-fails-clause-found t c =
    let q = c.args.query.now in
    let k = c.args.k in
    let L = c.args.levels.now in
    let N = c.pass_at.new.levels in
    let T = c.args.trail.now in
    let U = c.pass_at.new.trail in
    let p = c.args.place.now in
    let s = subst_of q T in
    let r = c.requires in
    let a = c.pass_at.ensures in
    let b = c.if-not-pass_at.ensures.passed in
    let is = nexts.new-items q k L p T r.within r.place r.next N U a.levels a.kept a.only a.trail a.spare r.node
    r.trail b in
    let bound = nexts.new-bound q k L p T r.within r.place r.next N U a.levels a.kept a.only a.trail a.spare r.node
    r.trail b in
    let within = nexts.new-within q k L p T r.within r.place r.next N U a.levels a.kept a.only a.trail a.spare r.node
    r.trail b in
    sym (nexts.first-wanted q k L s r.within (entry_at q.table.now N k) c.args.mode (table_of q.table.now (drop k N))
    (table_of q.table.now (drop k L)) (items_with q k N s (entry_at q.table.now N k)) c.in-First.is is)
    ∙ follows.nowhere q k N First s (subst_of q U) within bound
    (none-good q (length N - suc k)
    (machine.onward (place_after q (take k N)) (entry_at q.table.now N k)) (subst_of q U)
    (c.fails.ensures c.if-fails.true)) (subst (AreComplete q) is r.complete)

pub visit_next-returns-then-fails-clause-kept : goal.visit_next-returns-then-fails-clause-kept
visit_next-returns-then-fails-clause-kept t c =
    let r = c.requires in
    let a = c.pass_at.ensures in
    nexts.passed-keeps c.args.query.now c.args.k c.args.levels.now c.args.place.now c.args.trail.now r.within r.place
    r.next c.pass_at.new.levels c.pass_at.new.trail a.levels a.kept a.only a.trail a.spare
    c.if-not-pass_at.ensures.passed

pub visit_next-search_within-requires : goal.visit_next-search_within-requires
visit_next-search_within-requires t c =
    let q = c.args.query.now in
    let k = c.args.k in
    let L = c.args.levels.now in
    let N = c.pass_at.new.levels in
    let T = c.args.trail.now in
    let U = c.pass_at.new.trail in
    let p = c.args.place.now in
    let r = c.requires in
    let a = c.pass_at.ensures in
    let b = c.if-not-pass_at.ensures.passed in
    let is = nexts.new-items q k L p T r.within r.place r.next N U a.levels a.kept a.only a.trail a.spare r.node
    r.trail b in
    let bound = nexts.new-bound q k L p T r.within r.place r.next N U a.levels a.kept a.only a.trail a.spare r.node
    r.trail b in
    let trail = nexts.new-trail q k L p T r.within r.place r.next N U a.levels a.kept a.only a.trail a.spare r.node
    r.trail b in
    let allowed = nexts.new-allowed q k L p T r.within r.place r.next N U a.levels a.kept a.only a.trail a.spare
    r.node r.trail b in
    let within : k < length N = omega (arith, a.levels.many, r.within) in
    let ready = follows.ready q k N First (subst_of q T) N U within (node-kept q k L N r.node a.levels) allowed
    (record { front = refl; many = refl; levels = a.levels.levels }) refl trail bound tt
    (subst (AreComplete q) is r.complete) in
    let at = at-kept q k L N p r.place a.levels.front in
    let e = entry_at q.table.now N k in
    let taken = machine.taken_out (pattern_tree p.child.now) e (inner_of q (take k N) p) in
    let outer = stack_frames q (take k N) p.outer.now in
    let rest = frame_of q (take (k + 1) N) c.rest_frame-rest.result ∷ stack_frames q (take (k + 1) N) p.outer.now in
    let frames : rest ≡ machine.entered (pattern_tree p.child.now) e (taken ∷ outer) =
    rest-behind q k N p c.rest_frame-rest.result taken within at c.rest_frame-rest.ensures.frame
    c.rest_frame-rest.ensures.below
    ∙ sym (nexts.entered-leaf (pattern_tree p.child.now) e (taken ∷ outer) r.next.leaf) in (
      omega (arith, c.decreases, a.levels.many, r.within),
      (
        omega (arith, within),
        (
          ready.node,
          (
            settle-more q k N p rest within at frames,
            (
              (c.rest_frame-rest.ensures.below, outer-below q k N p within at),
              (ready.trail, (ready.standing, ready.complete)),
            ),
          ),
        ),
      ),
    )

pub visit_next-rest_frame-rest-requires-clause-rest : goal.visit_next-rest_frame-rest-requires-clause-rest
visit_next-rest_frame-rest-requires-clause-rest t c =
    let q = c.args.query.now in
    let k = c.args.k in
    let N = c.pass_at.new.levels in
    c.if-not-pass_at.ensures.rest refl
    ∙ ap (λ ls. without tree_cmp (entry_at q.table.now N k).terms (left_of q ls c.args.place.now.left))
    (sym c.pass_at.ensures.levels.front)

pub visit_next-returns-else-fails-clause-found
    : goal.visit_next-returns-else-fails-clause-found
visit_next-returns-else-fails-clause-found t c =
    let q = c.args.query.now in
    let k = c.args.k in
    let L = c.args.levels.now in
    let N = c.pass_at.new.levels in
    let T = c.args.trail.now in
    let U = c.pass_at.new.trail in
    let p = c.args.place.now in
    let s = subst_of q T in
    let r = c.requires in
    let a = c.pass_at.ensures in
    let b = c.if-not-pass_at.ensures.passed in
    let is = nexts.new-items q k L p T r.within r.place r.next N U a.levels a.kept a.only a.trail a.spare r.node
    r.trail b in
    let bound = nexts.new-bound q k L p T r.within r.place r.next N U a.levels a.kept a.only a.trail a.spare r.node
    r.trail b in
    let within : k < length N = omega (arith, a.levels.many, r.within) in
    follows.told-same c.search_within.result _ _ _ _
    (nexts.first-wanted q k L s r.within (entry_at q.table.now N k) c.args.mode (table_of q.table.now (drop k N))
    (table_of q.table.now (drop k L)) (items_with q k N s (entry_at q.table.now N k)) c.in-First.is is) refl
    (follows.found q k First N N c.search_within.new.levels c.search_within.result s (subst_of q U)
    (subst_of q c.search_within.new.trail) within refl c.search_within.ensures.kept.many refl refl
    c.search_within.ensures.kept.front
    bound c.search_within.ensures.found)

pub visit_next-returns-else-fails-clause-kept : goal.visit_next-returns-else-fails-clause-kept
visit_next-returns-else-fails-clause-kept t c =
    let q = c.args.query.now in
    let k = c.args.k in
    let L = c.args.levels.now in
    let N = c.pass_at.new.levels in
    let T = c.args.trail.now in
    let U = c.pass_at.new.trail in
    let r = c.requires in
    let a = c.pass_at.ensures in
    let spare = nexts.new-spare q k L c.args.place.now T r.within r.place r.next N U a.levels a.kept a.only a.trail
    a.spare r.node r.trail c.if-not-pass_at.ensures.passed in
    let within : k < length N = omega (arith, a.levels.many, r.within) in
    follows.kept-after q k L N c.search_within.new.levels T T c.search_within.new.trail a.levels refl
    (follows.kept q k N N c.search_within.new.levels T U c.search_within.new.trail within
    (record { front = refl; many = refl; levels = a.levels.levels }) refl a.kept spare a.only
    c.search_within.ensures.kept)

pub visit_next-returns-then-not-stands-clause-found : goal.visit_next-returns-then-not-stands-clause-found
visit_next-returns-then-not-stands-clause-found t c =
    let q = c.args.query.now in
    nexts.other-wanted q c.args.k c.args.levels.now (subst_of q c.args.trail.now) c.requires.within c.args.mode
    c.in_default.not-First c.requires.standing (sym c.if-not-stands.ensures)

pub visit_next-returns-then-not-stands-clause-kept : goal.visit_next-returns-then-not-stands-clause-kept
visit_next-returns-then-not-stands-clause-kept t c =
    follows.kept-levels c.args.query.now c.args.k c.args.levels.now c.args.levels.now c.args.trail.now c.args.trail.now
    (record { front = refl; many = refl; levels = c.requires.node.levels }) refl c.requires.trail.trail

pub visit_next-follow-requires : goal.visit_next-follow-requires
visit_next-follow-requires t c =
    let q = c.args.query.now in
    let k = c.args.k in
    let L = c.args.levels.now in
    let s = subst_of q c.args.trail.now in
    let r = c.requires in
    let allowed = sym c.if-not-stands.ensures in
    let is = nexts.only-items q k L s r.within (entry_at q.table.now L k)
    (nexts.place-choice q (take k L) c.args.place.now (entry_at q.table.now L k) r.place r.next allowed) in (
      omega (arith, c.decreases, r.within),
      (
        r.within,
        (
          r.node,
          (
            r.place,
            (
              r.trail,
              (
                allowed,
                (
                  subst (IsStanding c.args.mode (table_of q.table.now (drop k L))) is r.standing,
                  subst (AreComplete q) is r.complete,
                ),
              ),
            ),
          ),
        ),
      ),
    )

pub visit_next-returns-else-not-stands-clause-found : goal.visit_next-returns-else-not-stands-clause-found
visit_next-returns-else-not-stands-clause-found t c =
    let q = c.args.query.now in
    let k = c.args.k in
    let L = c.args.levels.now in
    let e = entry_at q.table.now L k in
    follows.told-same c.follow.result _ _ _ _
    (ap (wanted q c.args.mode (table_of q.table.now (drop k L)))
    (sym (nexts.only-items q k L (subst_of q c.args.trail.now) c.requires.within e
    (nexts.place-choice q (take k L) c.args.place.now e c.requires.place c.requires.next
    (sym c.if-not-stands.ensures))))) refl c.follow.ensures.found

pub visit-visit_next-requires : goal.visit-visit_next-requires
visit-visit_next-requires t c =
    let r = c.requires in (
      omega (arith, c.decreases, r.within),
      (
        r.within,
        (
          r.node,
          (
            r.place,
            (
              c.takes_the_next.ensures c.if-takes_the_next.true,
              (r.trail, (r.standing, r.complete)),
            ),
          ),
        ),
      ),
    )

pub visit-try_each-requires : goal.visit-try_each-requires
visit-try_each-requires t c =
    let q = c.args.query.now in
    let k = c.args.k in
    let p = c.args.place.now in
    let L = c.args.levels.now in
    let L1 = c.prepare_at.new.levels in
    let L2 = c.first_at-found.new.levels in
    let T = c.args.trail.now in
    let s = subst_of q T in
    let r = c.requires in
    let a = c.prepare_at.ensures in
    let x = c.first_at-found.ensures in
    let both = levels-after q k L L1 L2 a.kept x.kept in (
      omega (arith, c.decreases, both.many, r.within),
      (
        omega (arith, r.within, both.many),
        (
          node-kept q k L L2 r.node both,
          (
            at-kept q k L L2 p r.place both.front,
            (
              trail-kept q k L L2 T r.trail both,
              (
                visits.drawn-same q p k L1 L2 s a.drawn x.kept.front x.draws,
                (
                  visits.first-drawn q p k L1 L2 c.first_at-found.result x.kept.front x.draws x.choice,
                  subst (AreComplete q) (sym (visits.items-kept q k L L2 s both.front both.many)) r.complete,
                ),
              ),
            ),
          ),
        ),
      ),
    )

pub visit-returns-in-First-clause-found : goal.visit-returns-in-First-clause-found
visit-returns-in-First-clause-found t c =
    let q = c.args.query.now in
    let k = c.args.k in
    let L = c.args.levels.now in
    let x = c.first_at-found.ensures in
    follows.told-same c.try_each.result _ _ _ _
    (visits.first-tried q k L (subst_of q c.args.trail.now) c.requires.within c.args.place.now c.prepare_at.new.levels
    c.first_at-found.new.levels c.first_at-found.result c.args.mode (table_of q.table.now (drop k L)) c.in-First.is
    c.prepare_at.ensures.drawn c.prepare_at.ensures.kept x.kept x.draws x.choice) refl c.try_each.ensures.found

pub visit-returns-then-not-may_stand-clause-found : goal.visit-returns-then-not-may_stand-clause-found
visit-returns-then-not-may_stand-clause-found t c =
    let q = c.args.query.now in
    visits.at-other q c.args.k c.args.levels.now (subst_of q c.args.trail.now) c.requires.within c.args.mode c.in-At.is
    (sym c.if-not-may_stand.ensures)

pub visit-returns-then-not-may_stand-clause-kept : goal.visit-returns-then-not-may_stand-clause-kept
visit-returns-then-not-may_stand-clause-kept t c =
    follows.kept-levels c.args.query.now c.args.k c.args.levels.now c.args.levels.now c.args.trail.now c.args.trail.now
    (record { front = refl; many = refl; levels = c.requires.node.levels }) refl c.requires.trail.trail

pub visit-follow-requires : goal.visit-follow-requires
visit-follow-requires t c =
    let q = c.args.query.now in
    let k = c.args.k in
    let L = c.args.levels.now in
    let s = subst_of q c.args.trail.now in
    let r = c.requires in
    let allowed = sym c.if-not-may_stand.ensures in (
      omega (arith, c.decreases, r.within),
      (
        r.within,
        (
          r.node,
          (
            r.place,
            (
              r.trail,
              (
                allowed,
                (
                  visits.standing-at q k L s r.within c.args.mode c.in-At.is,
                  visits.complete-entry q k L s r.within allowed r.complete,
                ),
              ),
            ),
          ),
        ),
      ),
    )

pub visit-returns-else-not-may_stand-clause-found : goal.visit-returns-else-not-may_stand-clause-found
visit-returns-else-not-may_stand-clause-found t c =
    let q = c.args.query.now in
    follows.told-same c.follow.result _ _ _ _
    (visits.at-entry q c.args.k c.args.levels.now (subst_of q c.args.trail.now) c.requires.within c.args.mode c.in-At.is
    (sym c.if-not-may_stand.ensures)) refl c.follow.ensures.found

pub visit-returns-then-has_one_way_at-clause-found : goal.visit-returns-then-has_one_way_at-clause-found
visit-returns-then-has_one_way_at-clause-found t c =
    let q = c.args.query.now in
    let k = c.args.k in
    let L = c.args.levels.now in
    none-after q c.args.mode (table_of q.table.now (drop k L)) (items_from q k L (subst_of q c.args.trail.now))
    c.in-After.is c.requires.standing (c.if-has_one_way_at.ensures refl)

pub visit-returns-then-has_one_way_at-clause-kept : goal.visit-returns-then-has_one_way_at-clause-kept
visit-returns-then-has_one_way_at-clause-kept t c =
    follows.kept-levels c.args.query.now c.args.k c.args.levels.now c.args.levels.now c.args.trail.now c.args.trail.now
    (record { front = refl; many = refl; levels = c.requires.node.levels }) refl c.requires.trail.trail

pub visit-follow-requires-in-After : goal.visit-follow-requires-in-After
visit-follow-requires-in-After t c =
    let q = c.args.query.now in
    let k = c.args.k in
    let L = c.args.levels.now in
    let s = subst_of q c.args.trail.now in
    let r = c.requires in
    let b = visits.begins q k L s r.within c.args.mode c.in-After.is r.standing in (
      omega (arith, c.decreases, r.within),
      (
        r.within,
        (
          r.node,
          (
            r.place,
            (
              r.trail,
              (
                b.allowed,
                (
                  visits.standing-entry q k L s r.within c.args.mode c.in-After.is b,
                  visits.complete-entry q k L s r.within b.allowed r.complete,
                ),
              ),
            ),
          ),
        ),
      ),
    )

pub visit-returns-then-follow-clause-found : goal.visit-returns-then-follow-clause-found
visit-returns-then-follow-clause-found t c =
    let q = c.args.query.now in
    let k = c.args.k in
    let L = c.args.levels.now in
    let s = subst_of q c.args.trail.now in
    let r = c.requires in
    let b = visits.begins q k L s r.within c.args.mode c.in-After.is r.standing in
    visits.after-found q k L s r.within c.args.mode
    (table_of q.table.now (drop k c.follow-in-After.new.levels), subst_of q c.follow-in-After.new.trail) c.in-After.is
    b.allowed
    c.if-follow.ensures.found

pub visit-takes_all_at-last-requires-clause-allowed : goal.visit-takes_all_at-last-requires-clause-allowed
visit-takes_all_at-last-requires-clause-allowed t c =
    let q = c.args.query.now in
    (visits.begins q c.args.k c.args.levels.now (subst_of q c.args.trail.now) c.requires.within c.args.mode
    c.in-After.is c.requires.standing).allowed

pub visit-returns-then-last-clause-found : goal.visit-returns-then-last-clause-found
visit-returns-then-last-clause-found t c =
    let q = c.args.query.now in
    let k = c.args.k in
    let L = c.args.levels.now in
    let s = subst_of q c.args.trail.now in
    let r = c.requires in
    let b = visits.begins q k L s r.within c.args.mode c.in-After.is r.standing in
    visits.after-last q k L s r.within c.args.mode c.in-After.is b.allowed c.if-follow.ensures.found
    (c.takes_all_at-last.ensures c.if-last.true)

pub visit-returns-then-told-clause-found : goal.visit-returns-then-told-clause-found
visit-returns-then-told-clause-found t c =
    let q = c.args.query.now in
    visits.after-told q c.args.k c.args.levels.now (subst_of q c.args.trail.now) c.requires.within c.args.mode
    c.args.place.now c.in-After.is c.requires.place (c.is_told_at-told.ensures c.if-told.true) c.requires.standing
    c.if-follow.ensures.found

pub visit-returns-then-told-clause-kept : goal.visit-returns-then-told-clause-kept
visit-returns-then-told-clause-kept t c =
    let T = c.args.trail.now in
    let f = c.follow-in-After.ensures in
    let undone = cut-back T c.follow-in-After.new.trail c.undo.new.self (length_at c.mark-mark.result)
    c.mark-mark.ensures f.kept.cut c.undo.ensures.trail in
    follows.kept-levels c.args.query.now c.args.k c.args.levels.now c.follow-in-After.new.levels T c.undo.new.self
    (record { front = f.kept.front; many = f.kept.many; levels = f.kept.levels }) undone c.requires.trail.trail

pub visit-returns-then-last-clause-kept : goal.visit-returns-then-last-clause-kept
visit-returns-then-last-clause-kept t c =
    let T = c.args.trail.now in
    let f = c.follow-in-After.ensures in
    let undone = cut-back T c.follow-in-After.new.trail c.undo.new.self (length_at c.mark-mark.result)
    c.mark-mark.ensures f.kept.cut c.undo.ensures.trail in
    follows.kept-levels c.args.query.now c.args.k c.args.levels.now c.follow-in-After.new.levels T c.undo.new.self
    (record { front = f.kept.front; many = f.kept.many; levels = f.kept.levels }) undone c.requires.trail.trail

pub visit-next_at-found-requires-clause-drawn : goal.visit-next_at-found-requires-clause-drawn
visit-next_at-found-requires-clause-drawn t c =
    let q = c.args.query.now in
    let k = c.args.k in
    let L = c.args.levels.now in
    let T = c.args.trail.now in
    let s = subst_of q T in
    let r = c.requires in
    let f = c.follow-in-After.ensures in
    let a = c.prepare_at-in-After.ensures in
    let b = visits.begins q k L s r.within c.args.mode c.in-After.is r.standing in
    let undone = cut-back T c.follow-in-After.new.trail c.undo.new.self
    (length_at c.mark-mark.result) c.mark-mark.ensures
    f.kept.cut c.undo.ensures.trail in
    visits.drawn-entry q k L s r.within c.args.place.now c.follow-in-After.new.levels c.prepare_at-in-After.new.levels b
    (subst (λ u. IsDrawn q c.args.place.now c.prepare_at-in-After.new.levels k (subst_of q u)) undone a.drawn)
    f.kept.front
    f.own a.kept a.entry

pub visit-try_each-requires-in-After : goal.visit-try_each-requires-in-After
visit-try_each-requires-in-After t c =
    let q = c.args.query.now in
    let k = c.args.k in
    let p = c.args.place.now in
    let L = c.args.levels.now in
    let L2 = c.prepare_at-in-After.new.levels in
    let L3 = c.next_at-found.new.levels in
    let T = c.args.trail.now in
    let V = c.undo.new.self in
    let r = c.requires in
    let f = c.follow-in-After.ensures in
    let a = c.prepare_at-in-After.ensures in
    let x = c.next_at-found.ensures in
    let undone : V ≡ T = cut-back T c.follow-in-After.new.trail V (length_at c.mark-mark.result) c.mark-mark.ensures
    f.kept.cut c.undo.ensures.trail in
    let all = levels-after q k L L2 L3 (levels-after q k L c.follow-in-After.new.levels L2
    (record { front = f.kept.front; many = f.kept.many; levels = f.kept.levels }) a.kept) x.kept in
    let complete : AreComplete q (items_from q k L3 (subst_of q T)) =
    subst (AreComplete q) (sym (visits.items-kept q k L L3 (subst_of q T) all.front all.many)) r.complete in (
      omega (arith, c.decreases, all.many, r.within),
      (
        omega (arith, r.within, all.many),
        (
          node-kept q k L L3 r.node all,
          (
            at-kept q k L L3 p r.place all.front,
            (
              subst (HasTrail q k L3) (sym undone) (trail-kept q k L L3 T r.trail all),
              (
                visits.drawn-same q p k L2 L3 (subst_of q V) a.drawn x.kept.front x.draws,
                (
                  visits.next-drawn q p k L2 L3 c.next_at-found.result x.kept.front x.draws x.choice,
                  subst (λ u. AreComplete q (items_from q k L3 (subst_of q u))) (sym undone) complete,
                ),
              ),
            ),
          ),
        ),
      ),
    )

pub visit-returns-else-told-clause-found : goal.visit-returns-else-told-clause-found
visit-returns-else-told-clause-found t c =
    let q = c.args.query.now in
    let k = c.args.k in
    let p = c.args.place.now in
    let L = c.args.levels.now in
    let L2 = c.prepare_at-in-After.new.levels in
    let L3 = c.next_at-found.new.levels in
    let T = c.args.trail.now in
    let V = c.undo.new.self in
    let s = subst_of q T in
    let r = c.requires in
    let f = c.follow-in-After.ensures in
    let a = c.prepare_at-in-After.ensures in
    let x = c.next_at-found.ensures in
    let b = visits.begins q k L s r.within c.args.mode c.in-After.is r.standing in
    let undone : V ≡ T = cut-back T c.follow-in-After.new.trail V (length_at c.mark-mark.result) c.mark-mark.ensures
    f.kept.cut c.undo.ensures.trail in
    follows.told-same c.try_each-in-After.result
    (filter (good q)
    (flat_map (items_with q k L3 (subst_of q V))
    (to_try c.next_at-found.result (entry_at q.table.now L3 k) (drawn_at q p L3 k))))
    (wanted q c.args.mode (table_of q.table.now (drop k L)) (items_from q k L s))
    (Some (table_of q.table.now (drop k c.try_each-in-After.new.levels), subst_of q c.try_each-in-After.new.trail))
    (Some (table_of q.table.now (drop k c.try_each-in-After.new.levels), subst_of q c.try_each-in-After.new.trail))
    (ap
    (λ u. filter (good q)
    (flat_map (items_with q k L3 (subst_of q u))
    (to_try c.next_at-found.result (entry_at q.table.now L3 k) (drawn_at q p L3 k)))) undone
    ∙ visits.after-tried q k L s r.within p c.follow-in-After.new.levels L2 L3 c.next_at-found.result c.args.mode
    c.in-After.is
    b.allowed c.if-follow.ensures.found
    (subst (λ u. IsDrawn q p L2 k (subst_of q u)) undone a.drawn) f.kept.front f.kept.many f.own a.kept a.entry x.kept
    x.draws x.choice)
    refl c.try_each-in-After.ensures.found

pub search_within-visit-requires : goal.search_within-visit-requires
search_within-visit-requires t c =
    let q = c.args.query.now in
    let k = c.args.k in
    let B = take k c.args.levels.now in
    let f = c.args.frame in
    let r = c.requires in
    let fs = stack_frames q B c.args.outer.now in
    let first = first-pattern f.children.now c.child-item.result c.in-len1-up.len_at_least c.child-item.is in
    let stands = ap
    (λ ps. walk.settle (record {
      under = above f.under;
      children = ps;
      left = left_of q B f.left;
      owes = f.owes;
    } ∷ fs)) (sym first) ∙ r.stands in (
      omega (arith, c.decreases, c.if-k-levels.true),
      (
        omega (arith, c.if-k-levels.true),
        (
          r.node,
          (
            record {
              stands = stands;
              within = subst (λ i. LeftBelow i f.left × IsBelow i c.args.outer.now)
                  (sym (length-take_within k c.args.levels.now r.within)) r.below;
            },
            (r.trail, (r.standing, r.complete)),
          ),
        ),
      ),
    )

pub search_within-search-requires : goal.search_within-search-requires
search_within-search-requires t c =
    let q = c.args.query.now in
    let fs = stack_frames q (take c.args.k c.args.levels.now) c.args.outer.now in
    let r = c.requires in (
      omega (arith, c.decreases),
      (
        r.within,
        (
          r.node,
          (
            sym (c.is_behind.ensures c.if-is_behind.true fs) ∙ r.stands,
            (r.below.1, (r.trail, (r.standing, r.complete))),
          ),
        ),
      ),
    )
