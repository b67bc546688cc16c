use Rattle.mp_round_trip.proofs.SpelledStatements.{file-again}
use Rattle.mp_round_trip.proofs.file.printed_file_is_its_statements.Goals as goal

pub returns : goal.returns
returns c = file-again
