use Rattle.std.proofs.Common.{◌+◌, ◌∙◌, ap, sym, subst, arith, length}
use Rattle.std.specs.Prelude.{Some, slice_index_or, slice_get}
use Rattle.mp_table.specs.Table.{terms_at}
use Rattle.mp_ac.specs.CommPlan.{nodes_below}
use Rattle.mp_ac.specs.Search.{leading_of}
use Rattle.mp_ac.specs.Seek.{AreTaken, picks_table}
use Rattle.mp_ac.specs.declared.comm_plan.CommPlan.{CommPlan}
use Rattle.mp_ac.proofs.OverLaws as laws
use Rattle.mp_ac.proofs.search.CommSearch.entry.Goals as goal

pub entry_picked-requires-clause-taken : goal.entry_picked-requires-clause-taken
entry_picked-requires-clause-taken c =
    let s = c.args.self.now in
    subst (AreTaken s.table.now c.deref.result.now (leading_of s)) (sym c.deref-2.ensures.value)
    (subst (λ cs. AreTaken s.table.now cs (leading_of s) s.room.picks.items) (sym c.deref.ensures.value)
    (laws.over-taken s c.requires.over.0 c.requires.over.1 c.in-Standing.is))

pub returns-in-Ok-clause-entry : goal.returns-in-Ok-clause-entry
returns-in-Ok-clause-entry c =
    let s = c.args.self.now in
    laws.entry-first s c.requires.over.0 c.requires.over.1 c.in-Standing.is c.args.node _
    (ap (λ cs. slice_get (picks_table s.table.now cs (leading_of s) s.room.picks.items) c.args.node)
    (sym c.deref.ensures.value)
    ∙ ap (λ ks. slice_get (picks_table s.table.now c.deref.result.now (leading_of s) ks) c.args.node)
    (sym c.deref-2.ensures.value)
    ∙ c.in-Ok.ensures.entry)

pub returns-then-left-nodes-clause-entry : goal.returns-then-left-nodes-clause-entry
returns-then-left-nodes-clause-entry c =
    let s = c.args.self.now in
    let e = ap (λ cs. length (picks_table s.table.now cs (leading_of s) c.deref-2.result.now)) c.deref.ensures.value
    ∙ ap (λ ks. length (picks_table s.table.now s.room.choices.items (leading_of s) ks)) c.deref-2.ensures.value in
    laws.entry-none s c.requires.over.0 c.requires.over.1 c.in-Standing.is c.args.node c.in-Err.left
    (ap (λ n. c.in-Err.left + n) (sym e) ∙ c.in-Err.ensures.entry)
    (omega (
      arith,
      c.if-left-nodes.true,
      c.nodes.ensures,
      ap (λ (p : CommPlan). nodes_below p.plan.pattern) c.get.ensures,
    ))

pub returns-in-Some-clause-entry : goal.returns-in-Some-clause-entry
returns-in-Some-clause-entry c =
    let s = c.args.self.now in
    let l = c.in-Some.level.now in
    let e = ap (λ cs. length (picks_table s.table.now cs (leading_of s) c.deref-2.result.now)) c.deref.ensures.value
    ∙ ap (λ ks. length (picks_table s.table.now s.room.choices.items (leading_of s) ks)) c.deref-2.ensures.value in
    ap (λ rs. Some (record { terms = terms_at s.table.now rs; collapsed = l.collapsed })) c.as_slice.ensures
    ∙ laws.entry-other s c.requires.over.0 c.requires.over.1 c.in-Standing.is c.args.node c.in-Err.left
    (ap (λ n. c.in-Err.left + n) (sym e) ∙ c.in-Err.ensures.entry) l
    (omega (
      arith,
      c.if-left-nodes.false,
      c.nodes.ensures,
      ap (λ (p : CommPlan). nodes_below p.plan.pattern) c.get.ensures,
    ))
    (c.in-Some.ensures.lookup.1 ∙ ap (λ ls. slice_index_or ls c.in-Err.left l) c.deref-3.ensures.value)
