use Rattle.std.proofs.Common.{◌≡◌, ◌+◌, [], drop, map, arith, sym, ap, ◌∙◌}
use Rattle.std.specs.List.{list_any}
use Rattle.std.proofs.Math.ListN.{drop_of_length-le}
use Rattle.std.proofs.lemmas.Bool.{or_left}
use Rattle.std.proofs.lemmas.List.Folds.{list_any-append}
use Rattle.mp_parser.specs.Syntax.{condition}
use Rattle.mp_parser.specs.View.{alternative_tree}
use Rattle.mp_build.specs.Conditions.{literals_atoms, atoms}
use Rattle.mp_build.specs.ConditionChecks.{has_large_operand}
use Rattle.mp_term.proofs.ListLaws.{drop-item}
use Rattle.mp_build.proofs.ConditionTrees.{condition_tree-slice}
use Rattle.mp_build.proofs.condition_size.+some_is_large.Goals as goal

pub some_is_large-returns-then-some_in_alternative : goal.some_is_large-returns-then-some_in_alternative
some_is_large-returns-then-some_in_alternative t c =
    let items = c.deref-alternative-items.result.now in
    let i = c.loop-alternative.alternative-index in
    let x = c.alternative-item.result in
    let a = literals_atoms (alternative_tree x) in
    let others = atoms (condition (map alternative_tree (drop (i + 1) items))) in
    sym (ap (λ k. list_any has_large_operand (atoms k))
    (condition_tree-slice c.args.condition.now items c.deref-alternative-items.ensures.value)
    ∙ sym c.loop-alternative.invariant
    ∙ ap (λ l. list_any has_large_operand (atoms (condition (map alternative_tree l))))
    (drop-item items i x (omega arith) c.alternative-item.is)
    ∙ list_any-append has_large_operand a others
    ∙ or_left (list_any has_large_operand a) (list_any has_large_operand others)
    (sym c.some_in_alternative.ensures ∙ c.if-some_in_alternative.true))

pub some_is_large-returns : goal.some_is_large-returns
some_is_large-returns t c =
    let items = c.deref-alternative-items.result.now in
    let none : drop c.loop-alternative.alternative-index items ≡ [] = drop_of_length-le items (omega arith) in
    sym (ap (λ k. list_any has_large_operand (atoms k))
    (condition_tree-slice c.args.condition.now items c.deref-alternative-items.ensures.value)
    ∙ sym c.loop-alternative.invariant
    ∙ ap (λ l. list_any has_large_operand (atoms (condition (map alternative_tree l)))) none)
