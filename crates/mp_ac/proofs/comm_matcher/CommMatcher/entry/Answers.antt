use Rattle.std.proofs.Common.{◌≡◌, ◌-◌, ◌∙◌, ap, arith, length}
use Rattle.std.specs.Prelude.{Some, None, slice_index_or}
use Rattle.mp_table.specs.Table.{terms_at}
use Rattle.mp_ac.specs.Matcher.{entry_of}
use Rattle.mp_ac.proofs.EntryLaws as laws
use Rattle.mp_ac.proofs.comm_matcher.CommMatcher.entry.Goals as goal
use Rattle.mp_ac.proofs.comm_matcher.CommMatcher.entry.Goals.{then-node-self-via-then-node-self}
use Rattle.mp_ac.proofs.comm_matcher.CommMatcher.entry.Goals.{then-node-self-via-else-node-self+then-node-self-2}

pub returns-then-node-self-clause-entry : goal.returns-then-node-self-clause-entry
returns-then-node-self-clause-entry c =
    let m = c.args.self.now in
    elim c.then-node-self.branch as (λ _. None ≡ entry_of m c.args.node) [
      | then-node-self-via-then-node-self w ↦ laws.none-before m c.requires c.args.node w.if-node-self.true
      | then-node-self-via-else-node-self+then-node-self-2 w ↦
          laws.none-behind m c.requires w.len.result c.args.node w.len.ensures.count w.if-node-self.false
          w.if-node-self-2.true
    ]

pub returns-in-None-clause-entry : goal.returns-in-None-clause-entry
returns-in-None-clause-entry c =
    let m = c.args.self.now in
    let l = laws.level-there m c.requires c.len.result c.args.node c.len.ensures.count c.if-node-self.false
    c.if-node-self-2.false in
    let n = c.in-None.ensures.lookup in
    absurd (omega (arith, l, n.3, ap length c.deref.ensures.value))

pub returns-in-Some-clause-entry : goal.returns-in-Some-clause-entry
returns-in-Some-clause-entry c =
    let m = c.args.self.now in
    let l = c.in-Some.level.now in
    let n = c.in-Some.ensures.lookup in
    ap (λ rs. Some (record { terms = terms_at m.table.now rs; collapsed = l.collapsed })) c.as_slice.ensures
    ∙ laws.level-at m c.requires c.len.result c.args.node l c.len.ensures.count c.if-node-self.false
    c.if-node-self-2.false
    (n.1 ∙ ap (λ ls. slice_index_or ls (c.args.node - m.node - 1) l) c.deref.ensures.value)
