use Rattle.std.proofs.Common.{◌≡◌, refl, map}
use Rattle.mp_pattern.specs.PatternTree.{patterns, app_pattern}
use Rattle.mp_pattern.specs.View.{pattern_tree}
use Rattle.mp_search.proofs.PartLaws.{stands-below}
use Rattle.mp_search.proofs.PlacesLaws.{if_some-map}
use Rattle.mp_search.proofs.partner.second_number.Goals as goal

pub second_variable-requires-clause-children : goal.second_variable-requires-clause-children
second_variable-requires-clause-children c =
    stands-below c.args.query.now c.args.node c.first_below.result c.in-App.op.0
    (patterns (map pattern_tree c.as_slice-children.result.now)) (pattern_tree c.args.child.now)
    (rw (c.in-App.is, c.as_slice-children.ensures) refl) c.first_below.ensures c.requires.child

pub returns-else-not-tells_first : goal.returns-else-not-tells_first
returns-else-not-tells_first c =
    let ps = patterns (map pattern_tree c.as_slice-children.result.now) in
    let e : pattern_tree c.args.child.now ≡ app_pattern c.in-App.op.0 ps = rw (c.in-App.is, c.as_slice-children.ensures)
    refl in
    let tells = c.tells_first.ensures c.if-not-tells_first.false in
    if_some-map c.second_variable.result
    (λ v h. record {
      op = c.in-App.op.0;
      children = ps;
      is = e;
      firm = tells.0;
      plain = tells.1;
      second = h;
    }) c.second_variable.ensures
