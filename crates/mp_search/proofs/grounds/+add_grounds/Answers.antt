use Rattle.std.proofs.Common.{◌≡◌, ◌+◌, ◌∙◌, map, drop, length, length-append, ap, sym, arith}
use Rattle.std.proofs.lemmas.List.{length-map}
use Rattle.mp_pattern.specs.PatternTree.{patterns}
use Rattle.mp_pattern.specs.View.{pattern_tree}
use Rattle.mp_pattern.specs.Subpatterns.{subpatterns, all_subpatterns}
use Rattle.mp_search.specs.Grounds.{ground_in}
use Rattle.mp_search.proofs.GroundLists.{nodes-element, nodes-from}
use Rattle.mp_search.proofs.grounds.+add_grounds.Goals as goal

pub add_grounds-requires : goal.add_grounds-requires
add_grounds-requires t c =
    let args = c.as_slice-arg-items.result.now in
    let i = c.loop-arg.arg-index in
    let own = c.loop-arg.list.items.items in
    let rest = all_subpatterns (patterns (map pattern_tree (drop i args))) in
    let f = ground_in c.args.table.now in
    let nodes = subpatterns (pattern_tree c.args.pattern.now) in
    let whole : length nodes
    ≡ length (all_subpatterns (patterns (map pattern_tree args))) + 1 =
    rw (c.in-App.is, c.as_slice-arg-items.ensures) (omega arith) in
    let small = nodes-element args i c.arg-item.result c.loop-arg-test.true in
    let more = nodes-from args i c.arg-item.result c.loop-arg-test.true c.arg-item.is in
    let sum : length own + length rest
    ≡ length c.args.list.now.items.items + length (subpatterns (pattern_tree c.args.pattern.now)) =
    ap (λ n. length own + n) (sym (length-map rest f)) ∙ sym (length-append own (map f rest))
    ∙ ap length c.loop-arg.invariant.added
    ∙ length-append c.args.list.now.items.items (map f nodes)
    ∙ ap (λ n. length c.args.list.now.items.items + n) (length-map nodes f) in (
      omega (arith, c.decreases, whole, rw (sym c.arg-item.is) at small),
      omega (arith, more, sum, c.requires, c.loop-arg.invariant.room),
    )
