use Rattle.mp_cond.proofs.ExtensionLaws.{holds-extension}
use Rattle.mp_cond.proofs.laws.conditions_hold_of_extensions_as_of_the_trail.Goals as goal

pub returns : goal.returns
returns c sig t p trail s cond extends settled = holds-extension t p trail s extends sig cond settled
