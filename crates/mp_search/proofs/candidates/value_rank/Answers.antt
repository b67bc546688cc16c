use Rattle.std.proofs.Common.{sym}
use Rattle.mp_pattern.specs.View.{pattern_tree}
use Rattle.mp_subst.specs.Bound.{bound_of, value_in}
use Rattle.mp_search.specs.Reading.{subst_of}
use Rattle.mp_search.proofs.MatchLaws.{known-value}
use Rattle.mp_search.proofs.PartLaws.{stands-first}
use Rattle.mp_search.proofs.PlacesLaws.{if_some-map}
use Rattle.mp_search.proofs.SubstLaws.{has-value}
use Rattle.mp_search.proofs.candidates.value_rank.Goals as goal

pub number_at-requires-clause-child : goal.number_at-requires-clause-child
number_at-requires-clause-child c =
    stands-first c.args.query.now c.args.node (pattern_tree c.args.child.now) c.requires.child

pub alone_in-requires : goal.alone_in-requires
alone_in-requires c = c.in-Some-binding.ensures.is_bound c.args.query.now.table.now c.requires.trail

pub returns-in-Some-binding-clause-only : goal.returns-in-Some-binding-clause-only
returns-in-Some-binding-clause-only c =
    let q = c.args.query.now in
    let p = pattern_tree c.args.child.now in
    let s = subst_of q c.args.trail.now in
    let v = value_in q.table.now (bound_of c.in-Some-binding.bound) in
    if_some-map c.alone_in.result
    (λ r h f t k. h q.sig.now f t (known-value q.sig.now s f p v t
    (has-value q p c.in-Some.var c.args.trail.now (bound_of c.in-Some-binding.bound) c.in-Some.ensures
    (sym c.in-Some-binding.ensures.value)) c.requires.wild k)) c.alone_in.ensures.only
