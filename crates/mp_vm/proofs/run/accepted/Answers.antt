use Rattle.std.proofs.Common.{◌∙◌, ap, sym, subst}
use Rattle.std.specs.Prelude.{IfSome}
use Rattle.mp_walk.specs.CodeConstants.{IsCodeTable}
use Rattle.mp_walk.specs.Ranked.{pairs_of, AreOver}
use Rattle.mp_walk.specs.WalkItems.{IsLeafItem, AreLeafItems}
use Rattle.mp_table.specs.Table.{subject_of}
use Rattle.mp_walk.proofs.ListLaws.{first-holds}
use Rattle.mp_program.specs.ProgramView.{program_view}
use Rattle.mp_vm.proofs.RunLaws.{HasFound, added-over, found-first, found-last, found-next, leaf-accepts}
use Rattle.mp_vm.proofs.RunLaws.{listing-program, none-left, shorter}
use Rattle.mp_vm.proofs.run.accepted.Goals as goal

pub begin-requires-clause-table : goal.begin-requires-clause-table
begin-requires-clause-table c =
    subst (λ code. IsCodeTable c.args.sig.now code c.args.table.now) (sym c.requires.code) c.requires.table

pub add_pairs-requires-clause-item : goal.add_pairs-requires-clause-item
add_pairs-requires-clause-item c =
    let sig = c.args.sig.now in
    let p = program_view c.args.program.now in
    let inv = c.loop-found.invariant in
    subst (λ table. IfSome c.next.new.self.item (IsLeafItem sig p.code (subject_of table)))
    (sym (c.next.ensures.kept.2 ∙ inv.table))
    (first-holds (IsLeafItem sig p.code (subject_of c.args.table.now)) c.loop-found.walk.to_come c.next.new.self.item
    (ap (λ w. w.item) c.in_ok-next.ensures.moved) inv.found.items)

pub loop-found-init : goal.loop-found-init
loop-found-init c =
    let sig = c.args.sig.now in
    let p = program_view c.args.program.now in
    let t = subject_of c.args.table.now in
    let walk = c.in_ok-walk.walk in
    let set = c.in_ok-walk.ensures.setting in
    record {
      sig = set.0;
      code = set.1 ∙ c.requires.code;
      table = set.2;
      found = subst (λ fs. HasFound sig p t fs walk.to_come) (sym c.new-found.ensures.none)
          (found-first sig p c.requires.runnable t walk.to_come
          (subst (λ cs. AreLeafItems sig cs t walk.to_come) c.requires.code c.in_ok-walk.ensures.list));
      over = c.new-found.ensures.table;
    }

pub loop-found-smaller : goal.loop-found-smaller
loop-found-smaller c =
    let next = c.in_ok-next.ensures in
    shorter c.loop-found.walk.to_come c.next.new.self.to_come c.next.new.self.item (ap (λ w. w.item) next.moved)
    (next.answer.0 c.if-branch.true) (ap (λ w. w.to_come) next.moved)

pub loop-found-preserved : goal.loop-found-preserved
loop-found-preserved c =
    let sig = c.args.sig.now in
    let p = program_view c.args.program.now in
    let t = subject_of c.args.table.now in
    let inv = c.loop-found.invariant in
    let next = c.in_ok-next.ensures in
    let kept = c.next.ensures.kept in
    let walk = c.next.new.self in
    let new = c.add_pairs.new.found.pairs in
    let accepts = c.accepts-accepts.result.now in
    record {
      sig = kept.0 ∙ inv.sig;
      code = kept.1 ∙ inv.code;
      table = kept.2 ∙ inv.table;
      found = subst (λ is. HasFound sig p t new is) (sym (ap (λ w. w.to_come) next.moved))
          (found-next sig p c.requires.runnable t c.loop-found.found.pairs new c.loop-found.walk.to_come walk.item
          inv.found (ap (λ w. w.item) next.moved) (next.answer.0 c.if-branch.true)
          (added-over sig p c.loop-found.found.pairs new walk.item (subject_of walk.table) t accepts
          (ap subject_of (kept.2 ∙ inv.table))
          (leaf-accepts walk.item c.leaf.result c.args.code.now.instrs p.code accepts c.leaf.ensures
          c.accepts-accepts.ensures c.requires.code)
          c.in_ok-add_pairs.ensures.pairs));
      over = c.add_pairs.ensures.over;
    }

pub returns-clause-pairs : goal.returns-clause-pairs
returns-clause-pairs c =
    let sig = c.args.sig.now in
    let p = program_view c.args.program.now in
    let t = subject_of c.args.table.now in
    let found = c.loop-found.found.pairs in
    let next = c.in_ok-next.ensures in
    let ended = none-left c.loop-found.walk.to_come c.next.new.self.item (λ h. let b = next.answer.1 h in cc)
    (ap (λ w. w.item) next.moved) in
    listing-program sig p c.requires.runnable t found (pairs_of c.into_pairs.result.items)
    (found-last sig p c.requires.runnable t found c.loop-found.walk.to_come c.loop-found.invariant.found ended)
    c.into_pairs.ensures.pairs

pub returns-clause-table : goal.returns-clause-table
returns-clause-table c =
    subst (λ t. AreOver t c.into_pairs.result.items) c.loop-found.invariant.over c.into_pairs.ensures.over
