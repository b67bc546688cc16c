use Rattle.std.proofs.Common.{◌≡◌, ◌≤◌, ◌<◌, ◌-◌, ◌∷◌, ◌++◌, ap, sym, ◌∙◌, subst, arith, inl, inr, length, map}
use Rattle.std.proofs.Common.{take, drop}
use Rattle.std.specs.Prelude.{List, slice_get}
use Rattle.std.specs.List.{AllByRecursion}
use Rattle.std.proofs.lemmas.Bool.Decides.{nat_tests}
use Rattle.mp_term.specs.Signature.{Sig}
use Rattle.mp_term.proofs.ListLaws.{all-map}
use Rattle.mp_pattern.specs.View.{pattern_tree}
use Rattle.mp_pattern.specs.declared.pattern.Pattern.{Pattern}
use Rattle.mp_table.specs.Table.{term_at, terms_at}
use Rattle.mp_theory.specs.Shape.{table_of}
use Rattle.mp_subst.specs.Trail.{Trail, cut}
use Rattle.mp_subst.proofs.TrailLaws.{cut-kept, cut-whole}
use Rattle.mp_search.specs.Wanted.{IsStanding}
use Rattle.mp_search.proofs.PartLaws.{first-item}
use Rattle.mp_ac.specs.Numbered.{IsTrailOf, numbered_subst}
use Rattle.mp_ac.specs.Seek.{IsLeading, seek_cost, sought_table}
use Rattle.mp_ac.proofs.SeekEach as each
use Rattle.mp_ac.proofs.SeekWith as with
use Rattle.mp_ac.proofs.seek.+seek.Goals.{seek_each-in-After, seek_each-in_default}
use Rattle.mp_ac.proofs.seek.+seek.Goals as goal

-- what the later children are
leads : (sig : Sig) (ps : List Pattern) → AllByRecursion (λ p. IsLeading sig (pattern_tree p)) ps
    → AllByRecursion (IsLeading sig) (map pattern_tree ps)
leads sig ps h = all-map (λ p. IsLeading sig (pattern_tree p)) (IsLeading sig) pattern_tree (λ p i. i) ps h

pub seek_with-take_out-requires-clause-ascending : goal.seek_with-take_out-requires-clause-ascending
seek_with-take_out-requires-clause-ascending t c =
    with.left-sorted c.args.sought c.requires.sought c.args.left.now c.requires.left

pub seek_with-take_out-requires-clause-room : goal.seek_with-take_out-requires-clause-room
seek_with-take_out-requires-clause-room t c = omega (
  arith,
  with.left-few c.args.sought c.requires.sought c.args.left.now c.requires.left,
  c.requires.wide,
  c.requires.room,
)

pub seek_with-returns-then-not-fill-clause-found : goal.seek_with-returns-then-not-fill-clause-found
seek_with-returns-then-not-fill-clause-found t c =
    let a = c.args.sought.asked in
    let ps = map pattern_tree c.args.later.now in
    with.with-not_filled c.args.sought c.requires.sought c.args.left.now c.requires.left c.args.rank c.requires.rank
    (pattern_tree c.args.child.now) ps (numbered_subst a.table.now c.args.trail.now.stack) c.args.mode
    (table_of (pattern_tree c.args.child.now) (term_at a.table.now c.args.rank)
    ++ sought_table a c.args.sought.choices.now ps c.args.picks.now c.args.levels.now) c.requires.shape
    c.if-not-fill.ensures.filled

pub seek_with-returns-then-not-fill-clause-kept : goal.seek_with-returns-then-not-fill-clause-kept
seek_with-returns-then-not-fill-clause-kept t c = c.fill.ensures.kept.cut

pub seek_with-returns-then-not-fill-clause-spare : goal.seek_with-returns-then-not-fill-clause-spare
seek_with-returns-then-not-fill-clause-spare t c = omega (
  arith,
  with.cost-own c.args.sought c.requires.sought c.args.left.now c.requires.left (pattern_tree c.args.child.now)
      (map pattern_tree c.args.later.now),
  c.fill.ensures.kept.spare,
)

pub seek_with-returns-then-not-take_out-clause-found : goal.seek_with-returns-then-not-take_out-clause-found
seek_with-returns-then-not-take_out-clause-found t c =
    let a = c.args.sought.asked in
    let ps = map pattern_tree c.args.later.now in
    with.with-not_left c.args.sought c.requires.sought c.args.left.now c.requires.left c.args.rank c.requires.rank
    (pattern_tree c.args.child.now) ps (numbered_subst a.table.now c.args.trail.now.stack) c.args.mode
    (table_of (pattern_tree c.args.child.now) (term_at a.table.now c.args.rank)
    ++ sought_table a c.args.sought.choices.now ps c.args.picks.now c.args.levels.now) c.if-not-take_out.ensures.taken

pub seek_with-returns-then-not-take_out-clause-kept : goal.seek_with-returns-then-not-take_out-clause-kept
seek_with-returns-then-not-take_out-clause-kept t c = c.fill.ensures.kept.cut

pub seek_with-returns-then-not-take_out-clause-spare : goal.seek_with-returns-then-not-take_out-clause-spare
seek_with-returns-then-not-take_out-clause-spare t c = omega (
  arith,
  with.cost-own c.args.sought c.requires.sought c.args.left.now c.requires.left (pattern_tree c.args.child.now)
      (map pattern_tree c.args.later.now),
  c.fill.ensures.kept.spare,
)

pub seek_with-seek-requires : goal.seek_with-seek-requires
seek_with-seek-requires t c =
    let x = c.args.sought in
    let p = pattern_tree c.args.child.now in
    let ps = map pattern_tree c.args.later.now in
    let s = numbered_subst x.asked.table.now c.args.trail.now.stack in
    let rest = c.as_slice.result.now in
    let taken = c.if-not-take_out.ensures.taken in
    let others = c.as_slice.ensures ∙ taken.1 in
    let nodes = with.rest-nodes x c.requires.sought c.args.left.now c.requires.left c.args.rank c.requires.rank p ps s
    taken.0 rest others in
    let costs = with.cost-apart x c.requires.sought c.args.left.now c.requires.left c.args.rank c.requires.rank p ps s
    taken.0 rest others in (
      omega (arith, c.decreases),
      (
        c.requires.sought,
        (
          c.requires.later,
          (
            with.rest-given x c.requires.sought c.args.left.now c.requires.left c.args.rank c.requires.rank p ps s
                taken.0 rest others,
            (
              omega (arith, nodes, c.requires.wide),
              (
                with.rest-picks x c.requires.sought c.args.left.now c.requires.left c.args.rank c.requires.rank p ps s
                    taken.0 rest others x.width x.choices.now c.args.picks.now c.requires.picks,
                (
                  c.requires.count,
                  (
                    c.requires.levels,
                    (
                      c.fill.ensures.kept.trail,
                      (
                        omega (arith, costs, c.requires.spare, c.fill.ensures.kept.spare),
                        (
                          c.requires.mode,
                          with.with-standing x c.requires.sought c.args.left.now c.requires.left c.args.rank
                              c.requires.rank p ps s taken.0 rest others c.requires.shape
                              (numbered_subst x.asked.table.now c.fill.new.trail.stack)
                              c.if-not-fill.ensures.filled c.args.mode
                              (sought_table x.asked x.choices.now ps c.args.picks.now c.args.levels.now)
                              c.requires.standing,
                        ),
                      ),
                    ),
                  ),
                ),
              ),
            ),
          ),
        ),
      ),
    )

pub seek_with-returns-clause-found : goal.seek_with-returns-clause-found
seek_with-returns-clause-found t c =
    let x = c.args.sought in
    let p = pattern_tree c.args.child.now in
    let ps = map pattern_tree c.args.later.now in
    let taken = c.if-not-take_out.ensures.taken in
    with.with-found x c.requires.sought c.args.left.now c.requires.left c.args.rank c.requires.rank p ps
    (numbered_subst x.asked.table.now c.args.trail.now.stack) taken.0 c.as_slice.result.now
    (c.as_slice.ensures ∙ taken.1) c.requires.shape (numbered_subst x.asked.table.now c.fill.new.trail.stack)
    c.if-not-fill.ensures.filled c.args.mode
    (sought_table x.asked x.choices.now ps c.args.picks.now c.args.levels.now)
    (sought_table x.asked x.choices.now ps c.seek.new.picks c.seek.new.levels)
    (numbered_subst x.asked.table.now c.seek.new.trail.stack) c.seek.result c.seek.ensures.found

pub seek_with-returns-clause-kept : goal.seek_with-returns-clause-kept
seek_with-returns-clause-kept t c = cut-kept c.args.trail.now c.fill.new.trail c.seek.new.trail
    c.fill.ensures.kept.cut c.seek.ensures.kept

pub seek_with-returns-clause-spare : goal.seek_with-returns-clause-spare
seek_with-returns-clause-spare t c =
    let x = c.args.sought in
    let p = pattern_tree c.args.child.now in
    let ps = map pattern_tree c.args.later.now in
    let taken = c.if-not-take_out.ensures.taken in
    omega (
      arith,
      with.cost-apart x c.requires.sought c.args.left.now c.requires.left c.args.rank c.requires.rank p ps
          (numbered_subst x.asked.table.now c.args.trail.now.stack) taken.0 c.as_slice.result.now
          (c.as_slice.ensures ∙ taken.1),
      c.fill.ensures.kept.spare,
      c.seek.ensures.spare,
    )

pub seek_each-loop-at-init : goal.seek_each-loop-at-init
seek_each-loop-at-init t c =
    let x = c.args.sought in
    let p = pattern_tree c.args.child.now in
    let ps = map pattern_tree c.args.later.now in
    each.each-begin x c.requires.sought p c.requires.child ps
    (leads x.asked.sig.now c.args.later.now c.requires.later) c.args.left.now c.args.trail.now c.args.own.now
    c.requires.own c.args.below.now c.args.levels.now c.args.mode c.requires.mode c.requires.levels
    c.requires.standing c.match-mode.at
    (elim c.match-mode.branch [
      | seek_each-in-After w ↦ inl (w.in-After.is, w.at-is)
      | seek_each-in_default w ↦ inr (w.in_default.not-After, w.at-is)
    ])

pub seek_each-offset_bounds-sought-at : goal.seek_each-offset_bounds-sought-at
seek_each-offset_bounds-sought-at t c =
    let v = c.loop-at.invariant in
    omega (arith, c.loop-at-test.true, (v.own_kept _ c.requires.own).within)

pub seek_each-bounds-sought-at : goal.seek_each-bounds-sought-at
seek_each-bounds-sought-at t c =
    let v = c.loop-at.invariant in
    omega (arith, c.loop-at-test.true, (v.own_kept _ c.requires.own).within)

pub seek_each-seek_with-requires : goal.seek_each-seek_with-requires
seek_each-seek_with-requires t c =
    let x = c.args.sought in
    let p = pattern_tree c.args.child.now in
    let ps = map pattern_tree c.args.later.now in
    let rs = c.args.left.now in
    let us = terms_at x.asked.table.now rs in
    let v = c.loop-at.invariant in
    let own = v.own_kept us c.requires.own in
    let less : c.loop-at.at < c.loop-at.own.end = grind (arith, nat_tests) in (
      omega (arith, c.decreases),
      (
        c.requires.sought,
        (
          c.requires.child,
          (
            c.requires.later,
            (
              c.requires.left,
              (
                c.requires.wide,
                (
                  each.place-held x c.requires.sought p c.requires.child ps
                      (leads x.asked.sig.now c.args.later.now c.requires.later) rs c.args.trail.now c.loop-at.own own
                      c.loop-at.at v.within less,
                  (
                    each.place-shaped x c.requires.sought p c.requires.child ps
                        (leads x.asked.sig.now c.args.later.now c.requires.later) rs c.args.trail.now c.loop-at.own own
                        c.loop-at.at v.within less,
                    (
                      own.room,
                      (
                        v.below_kept us c.requires.below,
                        (
                          omega (arith, v.count, c.requires.count),
                          (
                            v.levels_hold,
                            (
                              subst (IsTrailOf x.asked.table.now) (sym v.trail) c.requires.trail,
                              (
                                subst (λ (w : Trail). seek_cost x.asked (p ∷ ps) rs ≤ w.spare) (sym v.trail)
                                    c.requires.spare,
                                (
                                  v.onward,
                                  subst (λ w. IsStanding c.loop-at.mode
                                      (each.table_at x p ps rs c.loop-at.at c.loop-at.below c.loop-at.levels)
                                      (each.items_at x p ps rs w c.loop-at.at)) (sym v.trail) (v.standing less),
                                ),
                              ),
                            ),
                          ),
                        ),
                      ),
                    ),
                  ),
                ),
              ),
            ),
          ),
        ),
      ),
    )

pub seek_each-returns-then-seek_with-clause-found : goal.seek_each-returns-then-seek_with-clause-found
seek_each-returns-then-seek_with-clause-found t c =
    let x = c.args.sought in
    let less : c.loop-at.at < c.loop-at.own.end = grind (arith, nat_tests) in
    each.each-found x c.requires.sought (pattern_tree c.args.child.now) c.requires.child
    (map pattern_tree c.args.later.now) (leads x.asked.sig.now c.args.later.now c.requires.later) c.args.left.now
    c.args.trail.now c.args.own.now c.loop-at.own c.args.below.now c.loop-at.below c.args.levels.now c.loop-at.levels
    c.loop-at.trail c.args.mode c.loop-at.mode c.loop-at.at c.loop-at.invariant c.requires.own less c.seek_with.new.rest
    c.seek_with.new.picks c.seek_with.new.levels
    (numbered_subst x.asked.table.now c.seek_with.new.trail.stack) c.if-seek_with.ensures.found

pub seek_each-returns-then-seek_with-clause-own : goal.seek_each-returns-then-seek_with-clause-own
seek_each-returns-then-seek_with-clause-own t c us i =
    let x = c.args.sought in
    let v = c.loop-at.invariant in
    each.pick-moved x.asked.table.now us x.width x.choices.now (pattern_tree c.args.child.now)
    (slice_get (map pattern_tree c.args.later.now) 0) c.loop-at.own c.loop-at.at c.seek_with.new.rest
    c.seek_with.ensures.room v.within (grind (arith, nat_tests)) (v.own_kept us i)

pub seek_each-overflow_add-at : goal.seek_each-overflow_add-at
seek_each-overflow_add-at t c =
    let v = c.loop-at.invariant in
    omega (arith, c.loop-at-test.true, (v.own_kept _ c.requires.own).within)

pub seek_each-loop-at-preserved : goal.seek_each-loop-at-preserved
seek_each-loop-at-preserved t c =
    let x = c.args.sought in
    let v = c.loop-at.invariant in
    let less : c.loop-at.at < c.loop-at.own.end = grind (arith, nat_tests) in
    let kept = subst (λ (w : Trail). cut (length w.stack) c.seek_with.new.trail ≡ w) v.trail c.seek_with.ensures.kept in
    each.each-next x c.requires.sought (pattern_tree c.args.child.now) c.requires.child
    (map pattern_tree c.args.later.now) (leads x.asked.sig.now c.args.later.now c.requires.later) c.args.left.now
    c.args.trail.now c.args.own.now c.loop-at.own c.args.below.now c.loop-at.below c.args.levels.now c.loop-at.levels
    c.loop-at.trail c.args.mode c.loop-at.mode c.loop-at.at v c.requires.own less c.seek_with.new.rest
    c.seek_with.new.picks c.seek_with.new.levels
    c.undo.new.self
    (c.undo.ensures.trail ∙ ap (λ n. cut n c.seek_with.new.trail) c.mark-mark.ensures ∙ kept)
    c.seek_with.ensures.room c.seek_with.ensures.picks c.seek_with.ensures.rooms c.seek_with.ensures.count
    c.seek_with.ensures.levels c.if-seek_with.ensures.found

pub seek_each-returns-clause-kept : goal.seek_each-returns-clause-kept
seek_each-returns-clause-kept t c =
    let v = c.loop-at.invariant in ap (λ w. cut (length c.args.trail.now.stack) w) v.trail ∙ cut-whole c.args.trail.now

pub seek-returns-clause-picks : goal.seek-returns-clause-picks
seek-returns-clause-picks t c us i =
    let x = c.args.sought in
    let children = c.args.children.now in
    each.picks-moved x.asked.table.now us x.width x.choices.now children c.child-item.result
    (take (length children - 1) (drop 1 children))
    (first-item children c.child-item.result c.in-len1-up.len_at_least c.child-item.is) c.args.picks.now
    c.split_at_mut-own.result.0.now c.split_at_mut-own.result.1.now c.index-own-0.result c.seek_each.new.own
    c.seek_each.new.below c.split_at_mut-own.ensures.value c.split_at_mut-own.ensures.front_len
    (c.seek_each.ensures.own us) (c.seek_each.ensures.below us) i
