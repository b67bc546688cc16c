use Rattle.std.proofs.Common.{◌≡◌, true, map, length}
use Rattle.mp_pattern.specs.PatternTree.{patterns, app_pattern}
use Rattle.mp_pattern.specs.View.{pattern_tree}
use Rattle.mp_table.specs.Table.{term_at}
use Rattle.mp_theory.specs.MayMatch.{may_match}
use Rattle.mp_search.specs.declared.headed.Group.{Group}
use Rattle.mp_search.specs.Reading.{subst_of}
use Rattle.mp_search.proofs.HeadedLaws.{between-places}
use Rattle.mp_search.proofs.PlacesLaws.{match-group}
use Rattle.mp_search.proofs.candidates.group_places.Goals as goal

pub returns-clause-places : goal.returns-clause-places
returns-clause-places c = λ f.
    let q = c.args.query.now in
    let t = q.table.now in
    let s = subst_of q c.args.trail.now in
    let ps = patterns (map pattern_tree c.args.children.now) in
    let group : Group =
    record { op = c.args.op; count = length c.args.children.now; first = c.first_rank.result } in
    between-places t group c.args.list.now c.first_place-first.result c.place_behind.result
    (λ r. may_match q.sig.now s f (app_pattern c.args.op.0 ps) (term_at t r) ≡ true)
    (λ z h. match-group t q.sig.now s f group ps (term_at t z) c.requires.firm c.first_rank.ensures.plain
    c.first_rank.ensures.only h)
    c.first_place-first.ensures.within c.place_behind.ensures.within c.first_place-first.ensures.before
    c.place_behind.ensures.behind
