use Rattle.mp_round_trip.proofs.FileAgain.{printed-file}
use Rattle.mp_round_trip.proofs.file.printed_file_is_read.Goals as goal

pub returns : goal.returns
returns c = printed-file
