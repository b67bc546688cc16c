use Rattle.mp_pattern.proofs.TemplateLaws.{instance-IsSoundTemplate, well_formed-IsSoundTemplate}
use Rattle.mp_pattern.proofs.laws.instances_of_sound_templates_are_well_formed.Goals as goal

pub returns : goal.returns
returns c = record {
  instance = λ sig p x t s table signature sound template formed fits.
      instance-IsSoundTemplate sig signature.ops_in_order p sound.formed t formed s table fits x template;
  well_formed = λ sig p x t s table signature sound template formed fits.
      well_formed-IsSoundTemplate sig signature.ops_in_order p sound.formed t formed s table fits x template;
}
