use Rattle.std.proofs.Common.{◌+◌, ◌≤◌, ◌∙◌, ap, subst, length, sym, refl}
use Rattle.mp_pattern.specs.View.{pattern_tree}
use Rattle.mp_search.specs.Reading.{subst_of}
use Rattle.mp_subst.proofs.TrailLaws.{cut-whole}
use Rattle.mp_search.proofs.BindAtLaws.{IsChildless, childless-room, childless-trail, childless-spare}
use Rattle.mp_search.proofs.BindAtLaws.{plain-trail, plain-bound, plain-spare, length-taken}
use Rattle.mp_search.proofs.OnlyLaws.{only-same}
use Rattle.mp_search.proofs.node.bind_at.Goals as goal

pub bind-requires-clause-spare : goal.bind-requires-clause-spare
bind-requires-clause-spare c =
    let q = c.args.query.now in
    let L = c.args.levels.now in
    let k = c.args.k in
    let own = c.index-levels-k in
    let same = ap (λ l. length l.take.items.items) own.is in
    subst (λ n. n + 3 ≤ c.args.trail.now.spare) (sym (same ∙ length-taken q.table.now L k own.result c.requires.within))
    (childless-room q k L c.args.place.now c.requires.within c.requires.place c.requires.allowed c.args.trail.now
    (subst IsChildless (sym (ap pattern_tree c.in-Wild.is)) tt) c.requires.trail)

pub returns-in-Wild-clause-trail : goal.returns-in-Wild-clause-trail
returns-in-Wild-clause-trail c =
    let q = c.args.query.now in
    let L = c.args.levels.now in
    let k = c.args.k in
    let own = c.index-levels-k in
    let same = ap (λ l. length l.take.items.items) own.is in
    childless-trail q k L c.args.place.now c.requires.within c.requires.place c.requires.allowed c.args.trail.now
    c.bind.new.trail (subst IsChildless (sym (ap pattern_tree c.in-Wild.is)) tt) c.requires.trail c.bind.ensures.kept
    (subst (λ n. c.args.trail.now.spare ≤ c.bind.new.trail.spare + (n + 3))
    (same ∙ length-taken q.table.now L k own.result c.requires.within) c.bind.ensures.spare) c.bind.ensures.trail

pub returns-in-Wild-clause-spare : goal.returns-in-Wild-clause-spare
returns-in-Wild-clause-spare c =
    let q = c.args.query.now in
    let L = c.args.levels.now in
    let k = c.args.k in
    let own = c.index-levels-k in
    let same = ap (λ l. length l.take.items.items) own.is in
    childless-spare q k L c.args.place.now c.requires.within c.requires.place c.requires.allowed c.args.trail.now
    c.bind.new.trail (subst IsChildless (sym (ap pattern_tree c.in-Wild.is)) tt)
    (subst (λ n. c.args.trail.now.spare ≤ c.bind.new.trail.spare + (n + 3))
    (same ∙ length-taken q.table.now L k own.result c.requires.within) c.bind.ensures.spare)

pub returns-in_default : goal.returns-in_default
returns-in_default c =
    let q = c.args.query.now in
    let L = c.args.levels.now in
    let k = c.args.k in
    let p = c.args.place.now in
    let r = c.requires in
    record {
      bound = plain-bound q k L p r.within r.place r.allowed (subst_of q c.args.trail.now) c.in_default.not-Wild;
      kept = cut-whole c.args.trail.now;
      only = only-same q.vars.now c.args.trail.now c.args.trail.now refl;
      spare = plain-spare q k L p r.within r.place r.allowed c.args.trail.now;
      trail = plain-trail q k L p r.within r.place r.allowed c.args.trail.now r.trail;
    }
