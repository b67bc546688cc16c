use Rattle.std.specs.Prelude.{None}
use Rattle.mp_program.specs.ProgramOf.{renamed_cond}
use Rattle.mp_program_laws.proofs.RenamedLaws.{renamed-readable}
use Rattle.mp_program_laws.proofs.conditions.a_renamed_condition_is_read.Goals as goal

pub returns-clause-passes : goal.returns-clause-passes
returns-clause-passes c = λ sig names d few h. renamed-readable sig names few d h

pub returns-clause-read : goal.returns-clause-read
returns-clause-read c = λ sig names bytes d few spelled h. (
    let law = c.printed_condition_is_read.ensures in
    law.readable sig None (renamed_cond names d) spelled
    (renamed-readable sig names few d (law.passes sig None bytes d spelled h))
    )
