use Rattle.mp_text.proofs.Whole.{ReadGives-only, ReadGives-fault, ReadGives-only_fault, ReadGives-computed}
use Rattle.mp_text.proofs.SoundFile.{IsSoundFile-ReadGives}
use Rattle.mp_text.proofs.reader.read_file.Goals as goal

pub returns-clause-only : goal.returns-clause-only
returns-clause-only c = ReadGives-only c.args.bytes.now c.read.result c.read.ensures

pub returns-clause-fault : goal.returns-clause-fault
returns-clause-fault c = ReadGives-fault c.args.bytes.now c.read.result c.read.ensures

pub returns-clause-only_fault : goal.returns-clause-only_fault
returns-clause-only_fault c = ReadGives-only_fault c.args.bytes.now c.read.result c.read.ensures

pub returns-clause-computed : goal.returns-clause-computed
returns-clause-computed c = ReadGives-computed c.args.bytes.now c.read.result c.read.ensures

pub returns-clause-sound : goal.returns-clause-sound
returns-clause-sound c = IsSoundFile-ReadGives c.args.bytes.now c.read.result c.read.ensures
