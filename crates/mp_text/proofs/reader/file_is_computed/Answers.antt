use Rattle.mp_text.proofs.Whole.{file_of-exact}
use Rattle.mp_text.proofs.reader.file_is_computed.Goals as goal

pub returns : goal.returns
returns c = file_of-exact
