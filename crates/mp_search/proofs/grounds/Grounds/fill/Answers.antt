use Rattle.std.proofs.Common.{◌++◌, map, sym, subst, ap, ◌∙◌}
use Rattle.mp_pattern.specs.Subpatterns.{subpatterns}
use Rattle.mp_pattern.specs.View.{pattern_tree}
use Rattle.mp_search.specs.Grounds.{ground_in, AreGrounds}
use Rattle.mp_search.proofs.GroundLists.{are_grounds}
use Rattle.mp_search.proofs.grounds.Grounds.fill.Goals as goal

pub returns-clause-grounds : goal.returns-clause-grounds
returns-clause-grounds c =
    let ps = subpatterns (pattern_tree c.args.pattern.now) in
    let gs = map (ground_in c.args.table.now) ps in
    subst (AreGrounds c.args.table.now ps)
    (sym (c.add_grounds.ensures.grounds ∙ ap (λ hs. hs ++ gs) c.clear.ensures.items)) (are_grounds c.args.table.now ps)
