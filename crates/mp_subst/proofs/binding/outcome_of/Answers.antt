use Rattle.std.proofs.Common.{sym, ◌∙◌, arith}
use Rattle.mp_subst.specs.Bound.{bound_of}
use Rattle.mp_subst.proofs.TrailViewLaws.{within-at}
use Rattle.mp_subst.proofs.OutcomeLaws.{first-outcome, old-outcome, new-outcome, no-outcome}
use Rattle.mp_subst.proofs.binding.outcome_of.Goals as goal

pub returns-in_default-clause-value : goal.returns-in_default-clause-value
returns-in_default-clause-value c t s =
    first-outcome c.args.ranks.now c.args.entries.now c.args.var (bound_of c.args.value.now)
    (sym c.last_place.ensures.place ∙ c.in_default.is) t

pub bound_at-requires : goal.bound_at-requires
bound_at-requires c =
    let laid = c.requires.laid in
    let within = within-at c.args.entries.now laid.0 c.in-Some.place _ laid.2 c.in-Some.ensures.within in
    (within.0, omega (arith, within.1, laid.1))

pub returns-in-Old-clause-value : goal.returns-in-Old-clause-value
returns-in-Old-clause-value c =
    old-outcome c.args.ranks.now c.args.entries.now c.args.var c.in-Some.place _
    (sym c.last_place.ensures.place ∙ c.in-Some.is) (bound_of c.bound_at.result) (bound_of c.args.value.now)
    c.bound_at.ensures c.join.result c.join.ensures c.in-Old.is

pub returns-in-New-clause-value : goal.returns-in-New-clause-value
returns-in-New-clause-value c =
    new-outcome c.args.ranks.now c.args.entries.now c.args.var c.in-Some.place _
    (sym c.last_place.ensures.place ∙ c.in-Some.is) (bound_of c.bound_at.result) (bound_of c.args.value.now)
    c.bound_at.ensures c.join.result c.join.ensures c.in-New.is

pub returns-in-Neither-clause-value : goal.returns-in-Neither-clause-value
returns-in-Neither-clause-value c =
    no-outcome c.args.ranks.now c.args.entries.now c.args.var c.in-Some.place _
    (sym c.last_place.ensures.place ∙ c.in-Some.is) (bound_of c.bound_at.result) (bound_of c.args.value.now)
    c.bound_at.ensures c.join.result c.join.ensures c.in-Neither.is
