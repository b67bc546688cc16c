use Rattle.std.proofs.Common.{◌≡◌, ◌+◌, sym, ◌∙◌}
use Rattle.std.specs.Prelude.{Some, None}
use Rattle.mp_pattern.specs.Size.{pattern_nodes}
use Rattle.mp_pattern.specs.View.{pattern_tree}
use Rattle.mp_search.proofs.NumberedLaws.{node-behind}
use Rattle.mp_search.proofs.shares.node_behind.Goals as goal

pub unreachable-requires : goal.unreachable-requires
unreachable-requires c =
    let e : None ≡ Some (c.args.node + pattern_nodes (pattern_tree c.args.child.now)) = sym c.in-None.is
    ∙ node-behind c.args.query.now c.requires.query c.args.node _ c.end.result c.requires.child c.end.ensures in cc

pub returns : goal.returns
returns c =
    let e : Some c.in-Some.end ≡ Some (c.args.node + pattern_nodes (pattern_tree c.args.child.now)) = sym c.in-Some.is
    ∙ node-behind c.args.query.now c.requires.query c.args.node _ c.end.result c.requires.child c.end.ensures in cc
