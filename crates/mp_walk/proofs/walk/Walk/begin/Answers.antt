use Rattle.std.proofs.Common.{sym, subst}
use Rattle.mp_search.proofs.TableLaws.{subject-normal}
use Rattle.mp_walk.specs.WalkItems.{AreLeafItems}
use Rattle.mp_table.specs.Table.{subject_of}
use Rattle.mp_walk.proofs.WalkTheorem.{walk_items}
use Rattle.mp_walk.proofs.walk.Walk.begin.Goals as goal

pub begin-requires-clause-setting : goal.begin-requires-clause-setting
begin-requires-clause-setting c = record {
  walkable = c.requires.walkable;
  plans = c.requires.plans;
  table = c.len.ensures.valid;
  normal = c.requires.table.normal;
  held = c.requires.table.constants;
}

pub returns-clause-list : goal.returns-clause-list
returns-clause-list c =
    let sig = c.args.sig.now in
    let code = c.args.code.now.instrs in
    let t = c.args.table.now in
    subst (AreLeafItems sig code (subject_of t)) (sym c.in_ok-begin.ensures.to_come)
    (walk_items sig (subject_of t) (subject-normal sig t c.len.ensures.valid c.requires.table.normal) code
    c.requires.walkable)
