use Rattle.std.proofs.Common.{◌≡◌, ◌+◌, length, map, sym, arith}
use Rattle.mp_pattern.specs.PatternTree.{patterns}
use Rattle.mp_pattern.specs.Subpatterns.{subpatterns, all_subpatterns}
use Rattle.mp_pattern.specs.View.{pattern_tree}
use Rattle.mp_search.proofs.GroundLists.{nodes-element}
use Rattle.mp_many.proofs.lists.+push_tokens.Goals as goal

pub push_tokens-requires : goal.push_tokens-requires
push_tokens-requires t c =
    let args = c.as_slice-arg-items.result.now in
    let whole : length (subpatterns (pattern_tree c.args.pattern.now))
    ≡ length (all_subpatterns (patterns (map pattern_tree args))) + 1 =
    rw (c.in-App.is, c.as_slice-arg-items.ensures) (omega arith) in
    let small = nodes-element args c.loop-arg.arg-index c.arg-item.result c.loop-arg-test.true in
    (omega (arith, c.decreases, whole, rw (sym c.arg-item.is) at small), tt)
