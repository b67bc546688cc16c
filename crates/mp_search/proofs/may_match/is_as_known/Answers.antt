use Rattle.std.proofs.Common.{sym}
use Rattle.mp_pattern.specs.View.{pattern_tree}
use Rattle.mp_subst.specs.Bound.{bound_of, value_in}
use Rattle.mp_table.specs.Table.{term_at}
use Rattle.mp_search.specs.Reading.{subst_of}
use Rattle.mp_search.proofs.MatchLaws.{known-value}
use Rattle.mp_search.proofs.PartLaws.{stands-first}
use Rattle.mp_search.proofs.SubstLaws.{has-value}
use Rattle.mp_search.proofs.may_match.is_as_known.Goals as goal

pub number_at-requires-clause-child : goal.number_at-requires-clause-child
number_at-requires-clause-child c =
    stands-first c.args.query.now c.args.node (pattern_tree c.args.child.now) c.requires.child

pub is_value-requires-clause-bound : goal.is_value-requires-clause-bound
is_value-requires-clause-bound c =
    c.in-Some-binding.ensures.is_bound c.args.query.now.table.now c.requires.trail

pub returns-in-Some-binding : goal.returns-in-Some-binding
returns-in-Some-binding c = λ f e.
    let q = c.args.query.now in
    let p = pattern_tree c.args.child.now in
    c.is_value.ensures q.sig.now f
    (known-value q.sig.now (subst_of q c.args.trail.now) f p (value_in q.table.now (bound_of c.in-Some-binding.bound))
    (term_at q.table.now c.args.rank)
    (has-value q p c.in-Some.var c.args.trail.now (bound_of c.in-Some-binding.bound) c.in-Some.ensures
    (sym c.in-Some-binding.ensures.value)) c.requires.wild e)
