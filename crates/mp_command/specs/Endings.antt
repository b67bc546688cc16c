-- The status and the line of each ending.
use Rattle.std.specs.Prelude.{ℕ, []}
use Rattle.mp_io.specs.Devices.{Text}
use Rattle.mp_command.specs.Messages.{deep_line, fault_line, large_line, limit_line, long_line, memory_line}
use Rattle.mp_command.specs.Messages.{no_item_line, no_template_line, not_syntactic_line, open_line, read_line}
use Rattle.mp_command.specs.Messages.{program_fault_line, spelling_line, usage_line, write_line}
use Rattle.mp_command.specs.declared.ending.Told.{Told}
use Rattle.mp_command.specs.declared.ending.Told.TheVariants as told
use Rattle.mp_command.specs.declared.ending.Ending.{Ending}
use Rattle.mp_command.specs.declared.ending.Ending.TheVariants as ending

-- the status of what is told of the words or of a file
abbrev pub told_status : Told → ℕ
told_status told.Done = 0
told_status told.Empty = 1
told_status told.Usage = 2
told_status (told.BadText name fault) = 3
told_status (told.BadProgram name fault) = 12
told_status (told.TooLong name) = 4
told_status (told.Misspelt at) = 9
told_status told.NoItem = 9
told_status (told.NotSyntactic rule) = 10
told_status (told.NoTemplate rule) = 11
told_status (told.TurnLimit subject max) = 6
told_status (told.TooLarge subject nodes) = 7
told_status (told.TooDeep subject depth) = 7

-- the line of what is told, and none where all went well
abbrev pub told_line : Told → Text
told_line told.Done = []
told_line told.Empty = []
told_line told.Usage = usage_line
told_line (told.BadText name fault) = fault_line name.now fault
told_line (told.BadProgram name fault) = program_fault_line name.now fault
told_line (told.TooLong name) = long_line name.now
told_line (told.Misspelt at) = spelling_line at
told_line told.NoItem = no_item_line
told_line (told.NotSyntactic rule) = not_syntactic_line rule
told_line (told.NoTemplate rule) = no_template_line rule
told_line (told.TurnLimit subject max) = limit_line subject max
told_line (told.TooLarge subject nodes) = large_line subject nodes
told_line (told.TooDeep subject depth) = deep_line subject depth

-- the status of an ending
abbrev pub status_of : Ending → ℕ
status_of (ending.Told t) = told_status t
status_of ending.Memory = 8
status_of ending.CannotWrite = 5
status_of (ending.CannotOpen name) = 4
status_of (ending.CannotRead name) = 4

-- the line of an ending
abbrev pub line_of : Ending → Text
line_of (ending.Told t) = told_line t
line_of ending.Memory = memory_line
line_of ending.CannotWrite = write_line
line_of (ending.CannotOpen name) = open_line name.now
line_of (ending.CannotRead name) = read_line name.now
