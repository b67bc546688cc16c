use Rattle.std.proofs.Common.{ap, arith}
use Rattle.mp_term.specs.Size.{node_count}
use Rattle.mp_term.specs.View.{tree}
use Rattle.mp_pattern.specs.Planned.{planned_rule}
use Rattle.mp_pattern.proofs.SoundRules.{HasConditionOver-HasSoundCondition}
use Rattle.mp_cursor.proofs.FirstLaws.{subject-built, constants-held}
use Rattle.mp_tests.proofs.items.check_items.Goals as goal

pub room_for-requires : goal.room_for-requires
room_for-requires g c =
    let m = c.args.m in
    omega (
      arith,
      ap node_count
          (subject-built m.table.now (tree m.subject.now) m.planned.now.constants c.requires.table),
      c.requires.few,
    )

pub begin-cursor-requires-clause-condition : goal.begin-cursor-requires-clause-condition
begin-cursor-requires-clause-condition g c =
    let m = c.args.m in
    let r = planned_rule m.planned.now in
    HasConditionOver-HasSoundCondition m.sig.now r.pattern r.condition c.requires.planned.sound.condition

pub begin-cursor-requires-clause-constants : goal.begin-cursor-requires-clause-constants
begin-cursor-requires-clause-constants g c =
    let m = c.args.m in
    constants-held m.table.now (tree m.subject.now) m.planned.now.constants c.requires.table
    (planned_rule m.planned.now) c.requires.planned.constants
