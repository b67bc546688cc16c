use Rattle.mp_pattern.proofs.SoundRules.{DefaultsAreSmall-IsFormed, HasConditionOver-HasSoundCondition}
use Rattle.mp_pattern.proofs.SoundRules.{plan_fault-IsSoundPattern}
use Rattle.mp_pattern.proofs.laws.sound_rules_can_be_matched.Goals as goal

pub returns : goal.returns
returns c = record {
  defaults = λ sig r sound. DefaultsAreSmall-IsFormed sig r.pattern sound.pattern.formed;
  condition = λ sig r sound. HasConditionOver-HasSoundCondition sig r.pattern r.condition sound.condition;
  plan = λ sig r sound. plan_fault-IsSoundPattern sig r.pattern sound.pattern;
}
