use Rattle.std.proofs.Common.{ap}
use Rattle.std.specs.Prelude.{IsSome, is_some, ⊤}
use Rattle.std.proofs.lemmas.Result.{MatchResult-weaker}
use Rattle.mp_term.specs.View.{tree}
use Rattle.mp_pattern.specs.Planned.{planned_rule}
use Rattle.mp_pattern.proofs.SoundRules.{HasConditionOver-HasSoundCondition}
use Rattle.mp_cursor.specs.Listing.{Listing}
use Rattle.mp_cursor.proofs.FirstLaws.{constants-held}
use Rattle.mp_tests.proofs.cursors.resume.Goals as goal

pub resume-requires-clause-condition : goal.resume-requires-clause-condition
resume-requires-clause-condition g c =
    let m = c.args.m in
    let r = planned_rule m.planned.now in
    HasConditionOver-HasSoundCondition m.sig.now r.pattern r.condition c.requires.planned.sound.condition

pub resume-requires-clause-constants : goal.resume-requires-clause-constants
resume-requires-clause-constants g c =
    let m = c.args.m in
    constants-held m.table.now (tree m.subject.now) m.planned.now.constants c.requires.table
    (planned_rule m.planned.now) c.requires.planned.constants

pub returns : goal.returns
returns g c = MatchResult-weaker c.resume.result {P' = λ (l : Listing). IsSome l.item} {Q' = λ _. ⊤} c.resume.ensures
    (λ l q. ap is_some q.2.item) (λ e q. tt)
