use Rattle.std.proofs.Common.{◌≡◌, ◌+◌, length, sym, ◌∙◌}
use Rattle.std.specs.Prelude.{Some, None}
use Rattle.mp_pattern.specs.Subpatterns.{subpatterns}
use Rattle.mp_pattern.specs.View.{pattern_tree}
use Rattle.mp_search.proofs.PartLaws.{end-of}
use Rattle.mp_search.proofs.end.end_of.Goals as goal

pub unreachable-requires : goal.unreachable-requires
unreachable-requires c =
    let e = end-of c.args.query.now c.requires.query c.args.node _ c.end.result c.requires.child c.end.ensures in
    let wrong : None ≡ Some (c.args.node + length (subpatterns (pattern_tree c.args.child.now))) =
    sym c.in_default.is ∙ e in
    cc

pub returns : goal.returns
returns c =
    let e = end-of c.args.query.now c.requires.query c.args.node _ c.end.result c.requires.child c.end.ensures in
    let same : Some c.in-Some.end ≡ Some (c.args.node + length (subpatterns (pattern_tree c.args.child.now))) =
    sym c.in-Some.is ∙ e in
    cc
