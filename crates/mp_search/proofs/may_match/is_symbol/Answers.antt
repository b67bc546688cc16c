use Rattle.std.proofs.Common.{◌≡◌, ap, sym, ◌∙◌, eq-eqb, nat_eq, subst, true}
use Rattle.std.specs.Prelude.{Some}
use Rattle.mp_pattern.specs.View.{pattern_tree}
use Rattle.mp_search.specs.Grounds.{ground_of}
use Rattle.mp_search.proofs.MatchLaws.{symbol-rank}
use Rattle.mp_search.proofs.PartLaws.{stands-first}
use Rattle.mp_search.proofs.may_match.is_symbol.Goals as goal

pub ground_rank-requires-clause-child : goal.ground_rank-requires-clause-child
ground_rank-requires-clause-child c =
    stands-first c.args.query.now c.args.node (pattern_tree c.args.child.now) c.requires.child

pub returns-in-Some : goal.returns-in-Some
returns-in-Some c = λ n is e.
    let t = c.args.query.now.table.now in
    let g = symbol-rank t c.requires.query.table n c.ground_rank.result c.args.rank c.ground_rank.ensures.within
    c.requires.rank (c.ground_rank.ensures.term ∙ ap ground_of is) e in
    let k : g.0 ≡ c.in-Some.own = let j : Some g.0 ≡ Some c.in-Some.own = sym g.1 ∙ c.in-Some.is in cc in
    subst (λ r. nat_eq r.0 c.args.rank.0 ≡ true) k (eq-eqb _ _ g.2)

pub returns-in-None : goal.returns-in-None
returns-in-None c = λ n is e.
    let t = c.args.query.now.table.now in
    let g = symbol-rank t c.requires.query.table n c.ground_rank.result c.args.rank c.ground_rank.ensures.within
    c.requires.rank (c.ground_rank.ensures.term ∙ ap ground_of is) e in
    let wrong : Some g.0 ≡ _ = sym g.1 ∙ c.in-None.is in cc
