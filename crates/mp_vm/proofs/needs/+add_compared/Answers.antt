use Rattle.std.proofs.Common.{◌+◌, ap, sym, ◌∙◌, drop, map, arith}
use Rattle.mp_pattern.specs.CondTree.{conds}
use Rattle.mp_pattern.specs.CondView.{cond_tree}
use Rattle.mp_program.specs.TokenPaths.{less_names, all_less_names}
use Rattle.mp_line.proofs.NamedLaws.{item-nodes}
use Rattle.mp_vm.specs.RuleNeeds.{with_places}
use Rattle.mp_vm.proofs.NeedLaws.{places-append, less-rest}
use Rattle.mp_vm.proofs.needs.+add_compared.Goals as goal

pub add_all_compared-add_compared-requires : goal.add_all_compared-add_compared-requires
add_all_compared-add_compared-requires t c =
    let small = item-nodes c.args.parts.now c.loop-part.part-index c.part-item.result c.loop-part-test.true
    c.part-item.is in
    (omega (arith, c.decreases, small), tt)

pub add_all_compared-loop-part-preserved : goal.add_all_compared-loop-part-preserved
add_all_compared-loop-part-preserved t c =
    let parts = c.args.parts.now in
    let i = c.loop-part.part-index in
    let rest = all_less_names (conds (map cond_tree (drop (i + 1) parts))) in
    ap (λ ns. with_places ns rest) c.in_ok-add_compared.ensures
    ∙ places-append c.loop-part.places.items (less_names (cond_tree c.part-item.result)) rest
    ∙ ap (with_places c.loop-part.places.items)
    (sym (less-rest parts i c.part-item.result c.loop-part-test.true c.part-item.is)) ∙ c.loop-part.invariant
