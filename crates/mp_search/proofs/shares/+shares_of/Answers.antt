use Rattle.std.proofs.Common.{◌+◌, ◌-◌, sym, subst, arith, length, take, drop}
use Rattle.std.specs.Prelude.{map}
use Rattle.mp_pattern.specs.PatternTree.{patterns}
use Rattle.mp_pattern.specs.Size.{pattern_nodes}
use Rattle.mp_pattern.specs.View.{pattern_tree}
use Rattle.mp_search.specs.Shares.{StandFrom}
use Rattle.mp_search.proofs.ShareLaws.{stand-first, stand-rest, all-rest, rest-short}
use Rattle.mp_search.proofs.shares.+shares_of.Goals as goal

pub node_behind-next-requires-clause-child : goal.node_behind-next-requires-clause-child
node_behind-next-requires-clause-child t c = stand-first c.args.query.now c.args.node c.args.children.now
    c.child-item.result c.in-len1-up.len_at_least c.child-item.is c.requires.children

pub with_child-requires-clause-child : goal.with_child-requires-clause-child
with_child-requires-clause-child t c = stand-first c.args.query.now c.args.node c.args.children.now
    c.child-item.result c.in-len1-up.len_at_least c.child-item.is c.requires.children

pub shares_of-behind-requires : goal.shares_of-behind-requires
shares_of-behind-requires t c =
    let q = c.args.query.now in
    let cs = c.args.children.now in
    let short = rest-short cs c.in-len1-up.len_at_least in (
      omega (arith, c.decreases, short),
      (
        c.requires.query,
        (
          subst (λ n. StandFrom q n (patterns (map pattern_tree (take (length cs - 1) (drop 1 cs)))))
              (sym c.node_behind-next.ensures)
              (subst (λ ds. StandFrom q (c.args.node + pattern_nodes (pattern_tree c.child-item.result))
              (patterns (map pattern_tree ds))) (sym (all-rest cs))
              (stand-rest q c.args.node cs c.child-item.result c.in-len1-up.len_at_least c.child-item.is
              c.requires.children)),
          (c.requires.trail, omega (arith, short, c.requires.few)),
        ),
      ),
    )
