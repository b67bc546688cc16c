use Rattle.mp_text.proofs.Whole.{fault_of-exact}
use Rattle.mp_text.proofs.reader.fault_is_computed.Goals as goal

pub returns : goal.returns
returns c = fault_of-exact
