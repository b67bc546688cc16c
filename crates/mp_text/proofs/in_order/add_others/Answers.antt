use Rattle.std.proofs.Common.{sym, ◌∙◌}
use Rattle.mp_text.proofs.InOrderLaws.{IsDraftRead-file}
use Rattle.mp_text.proofs.in_order.add_others.Goals as goal

pub loop-alloc-init : goal.loop-alloc-init
loop-alloc-init c = (c.requires, λ bytes was. was)

pub loop-alloc-preserved : goal.loop-alloc-preserved
loop-alloc-preserved c =
    let was = c.loop-alloc.invariant in
    let added = c.in_ok-add_next.ensures.added c.if-not-branch.false in
    ((was.0.0, added was.0.0 was.0.1), λ bytes before. added bytes (was.1 bytes before))

pub add_next-requires-clause-few : goal.add_next-requires-clause-few
add_next-requires-clause-few c = c.loop-alloc.invariant.0.1.draft.few

pub returns : goal.returns
returns c = λ yes bytes before. IsDraftRead-file bytes c.loop-alloc.parser c.loop-alloc.draft
    (c.loop-alloc.invariant.1 bytes before) (sym c.is_at_end.ensures ∙ c.loop-alloc-test.false)
