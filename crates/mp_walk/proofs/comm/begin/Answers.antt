use Rattle.std.proofs.Common.{◌≡◌, arith, length, nat_eq, subst, sym}
use Rattle.std.specs.Prelude.{IfSome}
use Rattle.mp_ac.specs.Asked.{cost}
use Rattle.mp_ac.specs.Candidates.{given_terms}
use Rattle.mp_ac.specs.Search as search
use Rattle.mp_ac.specs.Search.{IsOver, mark_of, table_of}
use Rattle.mp_ac.proofs.BeginSearch.{given-nodes}
use Rattle.mp_walk.specs.Below.{IsSearchOf, pattern_of, term_of}
use Rattle.mp_walk.proofs.BelowLaws.{given-way}
use Rattle.mp_walk.proofs.comm.begin.Goals as goal

pub begin-requires-clause-given : goal.begin-requires-clause-given
begin-requires-clause-given c = given-way c.args.below c.requires.below c.args.way c.requires.way

pub begin-requires-clause-spare : goal.begin-requires-clause-spare
begin-requires-clause-spare c =
    let few = given-nodes (term_of c.args.below) (nat_eq c.args.way 1) in
    omega (arith, few, c.requires.spare)

pub returns-in_ok-new-in-Some-clause-search : goal.returns-in_ok-new-in-Some-clause-search
returns-in_ok-new-in-Some-clause-search c =
    let b = c.args.below in
    let few = given-nodes (term_of b) (nat_eq c.args.way 1) in
    let e = c.in_ok-begun.ensures in
    let costs = subst (λ o. IfSome o (λ s. search.cost_of s
    ≡ cost (pattern_of b) (given_terms (term_of b) (nat_eq c.args.way 1)))) c.in-Some.is e.cost in
    subst (IsSearchOf b c.args.trail.now) (sym c.in_ok-new-in-Some.ensures.ok) (record {
      over = subst (λ o. IfSome o (λ s. IsOver s c.args.trail.now)) c.in-Some.is e.over;
      mark = subst (λ o. IfSome o (λ s. mark_of s ≡ length c.args.trail.now.stack)) c.in-Some.is e.mark;
      table = subst (λ o. IfSome o (λ s. table_of s ≡ b.table.now)) c.in-Some.is e.table;
      cost = omega (arith, few, costs);
    })
