use Rattle.mp_term.specs.View.{tree}
use Rattle.mp_pattern.specs.Planned.{planned_rule}
use Rattle.mp_pattern.proofs.SoundRules.{HasConditionOver-HasSoundCondition}
use Rattle.mp_cursor.proofs.FirstLaws.{constants-held}
use Rattle.mp_tests.proofs.matched.begin.Goals as goal

pub begin-requires-clause-condition : goal.begin-requires-clause-condition
begin-requires-clause-condition g c =
    let m = c.args.m in
    let r = planned_rule m.planned.now in
    HasConditionOver-HasSoundCondition m.sig.now r.pattern r.condition c.requires.matched.planned.sound.condition

pub begin-requires-clause-constants : goal.begin-requires-clause-constants
begin-requires-clause-constants g c =
    let m = c.args.m in
    constants-held m.table.now (tree m.subject.now) m.planned.now.constants c.requires.matched.table
    (planned_rule m.planned.now) c.requires.matched.planned.constants
