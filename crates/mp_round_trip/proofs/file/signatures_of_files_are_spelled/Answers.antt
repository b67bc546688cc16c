use Rattle.mp_round_trip.proofs.FileAgain.{spelled-signature}
use Rattle.mp_round_trip.proofs.file.signatures_of_files_are_spelled.Goals as goal

pub returns : goal.returns
returns c = spelled-signature
