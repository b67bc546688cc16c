use Rattle.std.proofs.Common.{◌-◌, [], ◌∷◌, ap, sym, ◌∙◌, map, take, drop, length}
use Rattle.mp_pattern.specs.PatternTree.{more_patterns, no_patterns, patterns}
use Rattle.mp_pattern.specs.View.{pattern_tree}
use Rattle.mp_search.proofs.PartLaws.{stands-item, stands-others, first-pattern}
use Rattle.mp_search.proofs.PlacesLaws.{if_some-map, one-item}
use Rattle.mp_search.proofs.partner.second_variable.Goals as goal

pub end_of-end-requires-clause-child : goal.end_of-end-requires-clause-child
end_of-end-requires-clause-child c =
    stands-item c.args.query.now c.args.node c.args.children.now c.child-item.result c.in-len1-up.len_at_least
    c.child-item.is c.requires.children

pub dot_number-requires-clause-child : goal.dot_number-requires-clause-child
dot_number-requires-clause-child c =
    let cs = c.args.children.now in
    let behind = stands-others c.args.query.now c.args.node cs c.child-item.result c.in-len1-up.len_at_least
    c.child-item.is c.requires.children c.end_of-end.result c.end_of-end.ensures in
    stands-item c.args.query.now c.end_of-end.result (take (length cs - 1) (drop 1 cs)) c.second-item.result
    c.in-len1.len_at_least c.second-item.is behind

pub returns-else-not-is_flat : goal.returns-else-not-is_flat
returns-else-not-is_flat c =
    let cs = c.args.children.now in
    let ds = take (length cs - 1) (drop 1 cs) in
    let e = first-pattern cs c.child-item.result c.in-len1-up.len_at_least c.child-item.is in
    let one = one-item ds c.second-item.result c.in-len1.len_at_least c.in-len1.len_below
    ∙ ap (λ d. d ∷ []) (sym c.second-item.is) in
    if_some-map c.dot_number.result (λ v d. record {
      first = pattern_tree c.child-item.result;
      name = d.name;
      children = e ∙ ap (more_patterns (pattern_tree c.child-item.result))
          (ap (λ ds. patterns (map pattern_tree ds)) one ∙ ap (λ p. more_patterns p no_patterns) d.is);
      flat = c.is_flat.ensures c.if-not-is_flat.false;
      number = d.number;
    }) c.dot_number.ensures
