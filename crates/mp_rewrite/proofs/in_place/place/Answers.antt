use Rattle.std.proofs.Common.{◌≡◌, sym, map, length, subst, arith, ◌≤◌}
use Rattle.std.proofs.lemmas.List.{length-map}
use Rattle.std.specs.Prelude.{slice_get, Some}
use Rattle.std.specs.List.{insert}
use Rattle.mp_term.specs.View.{tree}
use Rattle.mp_term.specs.OrderLaws.{tree_cmp_total}
use Rattle.mp_term.specs.Order.{tree_cmp}
use Rattle.std.proofs.lemmas.List.Sorted.{searchable_from_sorted}
use Rattle.mp_term.proofs.Sorting.{Ascends}
use Rattle.mp_term.proofs.NormalTestLaws.{ascending-from}
use Rattle.mp_rewrite.proofs.PutBack.{ascends-from}
use Rattle.mp_rewrite.proofs.Places.{ascends-twice, slice_get-holds, searched-between, sorted-from_ascends}
use Rattle.mp_rewrite.proofs.in_place.place.Goals as goal

pub returns-in-Ok-clause-ascending : goal.returns-in-Ok-clause-ascending
returns-in-Ok-clause-ascending c = λ comm up.
    let items = c.as_slice.result.now in
    let same : map tree items ≡ c.args.terms.now = c.as_slice.ensures in
    let x = tree c.args.term.now in
    let i = c.in-Ok.found in
    ascending-from (insert c.args.terms.now i x)
    (ascends-twice c.args.terms.now i x (ascends-from c.args.terms.now up)
    (subst (λ ts. slice_get ts i ≡ Some x) same
    (slice_get-holds tree items i x c.in-Ok.ensures.bound c.in-Ok.ensures.ok)))

pub returns-in-Err-clause-ascending : goal.returns-in-Err-clause-ascending
returns-in-Err-clause-ascending c = λ comm up.
    let items = c.as_slice.result.now in
    let same : map tree items ≡ c.args.terms.now = c.as_slice.ensures in
    let x = tree c.args.term.now in
    let i = c.in-Err.found in
    let ascends : Ascends tree_cmp (map tree items) =
    subst (Ascends tree_cmp) (sym same) (ascends-from c.args.terms.now up) in
    let within : i ≤ length items = c.in-Err.ensures.bound in
    ascending-from (insert c.args.terms.now i x)
    (subst (λ ts. Ascends tree_cmp (insert ts i x)) same
    (searched-between tree items i x within ascends (omega (arith, within, length-map items tree))
    (c.in-Err.ensures.position
    (searchable_from_sorted tree_cmp_total tree items x (sorted-from_ascends tree items ascends)))))
