use Rattle.std.proofs.Common.{◌≡◌, ◌+◌, length, map, sym, arith}
use Rattle.mp_pattern.specs.PatternTree.{patterns}
use Rattle.mp_pattern.specs.Subpatterns.{subpatterns, all_subpatterns}
use Rattle.mp_pattern.specs.View.{pattern_tree}
use Rattle.mp_search.proofs.GroundLists.{nodes-element}
use Rattle.mp_ac.proofs.digest.+digest.Goals as goal

pub digest-own-requires : goal.digest-own-requires
digest-own-requires t c =
    let children = c.as_slice-child-items.result.now in
    let whole : length (subpatterns (pattern_tree c.args.pattern.now))
    ≡ length (all_subpatterns (patterns (map pattern_tree children))) + 1 =
    rw (c.in-App.is, c.as_slice-child-items.ensures) (omega arith) in
    let small = nodes-element children c.loop-child.child-index c.child-item.result c.loop-child-test.true in
    (omega (arith, c.decreases, whole, rw (sym c.child-item.is) at small), tt)
