use Rattle.std.proofs.Common.{◌∙◌, sym, ap, map}
use Rattle.std.proofs.lemmas.List.Sorted.{searchable_from_sorted}
use Rattle.mp_term.specs.NormalTest.{has_head}
use Rattle.mp_term.specs.Order.{tree_cmp}
use Rattle.mp_term.specs.OrderLaws.{tree_cmp_total}
use Rattle.mp_term.specs.View.{tree}
use Rattle.mp_term.proofs.Sorting.{Ascends, tally}
use Rattle.mp_rewrite.proofs.Places.{slice_get-holds, sorted-from_ascends}
use Rattle.mp_rewrite.proofs.PutBack.{ascends-from}
use Rattle.mp_rewrite.proofs.CancellationSteps.{same-argument, not-found}
use Rattle.mp_rewrite.proofs.taken.under_at.Goals as goal

pub returns-in-Ok : goal.returns-in-Ok
returns-in-Ok c = (
  tree c.in-Some.only.now,
  c.in-Some.ensures,
  slice_get-holds tree c.args.args.now c.in-Ok.found (tree c.in-Some.only.now) c.in-Ok.ensures.bound c.in-Ok.ensures.ok,
)

pub returns-in-Err : goal.returns-in-Err
returns-in-Err c = λ v h.
    let xs = c.args.args.now in
    let x = tree c.in-Some.only.now in
    let same = same-argument c.args.inner.0 (tree c.args.term.now) x v c.in-Some.ensures h in
    let ascends : Ascends tree_cmp (map tree xs) = ascends-from (map tree xs) c.requires in (
      ap (has_head c.args.op.0) (sym same) ∙ sym c.has_head.ensures ∙ c.if-has_head.false,
      ap (λ u. tally tree_cmp u (map tree xs)) (sym same) ∙ not-found tree xs c.in-Err.field-0 x
          (c.in-Err.ensures.position
          (searchable_from_sorted tree_cmp_total tree xs x (sorted-from_ascends tree xs ascends))),
    )
