use Rattle.std.proofs.Common.{◌≤◌, sym, subst, arith, refl}
use Rattle.std.specs.Prelude.{map, IfSome}
use Rattle.mp_pattern.specs.PatternTree.{patterns}
use Rattle.mp_pattern.specs.View.{pattern_tree}
use Rattle.mp_search.specs.Reading.{subst_of}
use Rattle.mp_search.specs.Shares.{StandFrom}
use Rattle.mp_search.proofs.BoundsLaws.{free-name, free-used, bounds-one, bounds-are}
use Rattle.mp_search.proofs.ShareLaws.{site-behind, few-children}
use Rattle.mp_search.proofs.SiteLaws.{site-node}
use Rattle.mp_search.proofs.bounds.bounds_of.Goals as goal

pub node_behind-next-requires-clause-child : goal.node_behind-next-requires-clause-child
node_behind-next-requires-clause-child c = site-node c.args.query.now c.args.site.now c.requires.site

pub shares_of-shares-requires-clause-children : goal.shares_of-shares-requires-clause-children
shares_of-shares-requires-clause-children c =
    let q = c.args.query.now in
    let x = c.args.site.now in
    subst (λ n. StandFrom q n (patterns (map pattern_tree x.later.now))) (sym c.node_behind-next.ensures)
    (site-behind q x c.requires.site)

pub shares_of-shares-requires-clause-few : goal.shares_of-shares-requires-clause-few
shares_of-shares-requires-clause-few c =
    let q = c.args.query.now in
    let x = c.args.site.now in
    omega (
      arith,
      few-children q _ x.later.now c.requires.query (site-behind q x c.requires.site),
      c.len.ensures.count,
      c.len.ensures.most,
    )

pub returns-then-is_later_application : goal.returns-then-is_later_application
returns-then-is_later_application c =
    let q = c.args.query.now in
    let x = c.args.site.now in
    bounds-one q x (subst_of q c.args.trail.now) (c.is_later_application.ensures c.if-is_later_application.true) _ refl
    refl refl

pub returns : goal.returns
returns c =
    let q = c.args.query.now in
    let x = c.args.site.now in
    let s = subst_of q c.args.trail.now in
    bounds-are q x s c.args.var c.requires.var _ c.shares_of-shares.result
    (c.shares_of-shares.ensures.shares (free-name q x s c.args.var c.requires.var)
    (free-used q x s c.args.var c.requires.var)) refl
    (λ l h n. omega (arith, c.max.ensures, c.least.ensures, n, c.least_share-low.ensures l h))
    (λ l h n. c.at_most.ensures l (subst (λ o. IfSome o (λ m. l ≤ m)) (sym c.most.ensures) h) n)
