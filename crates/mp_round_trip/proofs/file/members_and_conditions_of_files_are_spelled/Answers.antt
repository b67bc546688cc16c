use Rattle.mp_round_trip.proofs.FileAgain.{named-members, shallow-rules}
use Rattle.mp_round_trip.proofs.file.members_and_conditions_of_files_are_spelled.Goals as goal

pub returns-clause-members : goal.returns-clause-members
returns-clause-members c = named-members

pub returns-clause-shallow : goal.returns-clause-shallow
returns-clause-shallow c = shallow-rules
