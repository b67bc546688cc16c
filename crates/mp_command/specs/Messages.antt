-- The lines of standard error.
use Rattle.std.specs.Prelude.{ℕ, [], ◌∷◌, ◌++◌, codes, decimal}
use Rattle.mp_io.specs.Devices.{Text}
use Rattle.mp_term.specs.declared.size.Excess.{Excess}
use Rattle.mp_term.specs.declared.size.Excess.TheVariants as excess
use Rattle.mp_build.specs.declared.fault.TextFault.{TextFault}
use Rattle.mp_build.specs.declared.fault.TextKind.{TextKind}
use Rattle.mp_build.specs.declared.fault.TextKind.TheVariants.{BadByte, Syntax, TooDeep, DuplicateName, TooMany}
use Rattle.mp_build.specs.declared.fault.TextKind.TheVariants.{BadFlags, UnknownOp, BareOperation, UnknownKind, Arity}
use Rattle.mp_build.specs.declared.fault.TextKind.TheVariants.{KindClash, LooseSequence, WildcardInTerm}
use Rattle.mp_build.specs.declared.fault.TextKind.TheVariants.{UnboundVariable}
use Rattle.mp_build.specs.declared.fault.TextKind.TheVariants.{ConditionKind, UnknownSubject, BadPosition, Overlap}
use Rattle.mp_build.specs.declared.fault.TextKind.TheVariants.{BadCount}
use Rattle.mp_program.specs.declared.fault.ProgramError.{ProgramError}
use Rattle.mp_program.specs.declared.fault.ProgramError.TheVariants.{WrongVersion, BadLine, BackwardTarget}
use Rattle.mp_program.specs.declared.fault.ProgramError.TheVariants.{BadReference, Unbalanced, Memory}

-- what is said after the program's name, as a line
abbrev pub told : Text → Text
told text = codes "matchpy: " ++ (text ++ 10 ∷ [])

-- the line that says something of a name
abbrev pub said_of : Text → Text → Text
said_of name text = codes "matchpy: " ++ (name ++ (text ++ 10 ∷ []))

-- the words are no request
abbrev pub usage_line : Text
usage_line =
    codes "usage: matchpy ACTION [FILE ..] [--engine E] [--limit N] [--resume TOKEN] [--max N] [--from PROGRAM]"
    ++ 10 ∷ []

-- there wasn't enough memory
abbrev pub memory_line : Text
memory_line = told (codes "want of memory")

-- standard output failed
abbrev pub write_line : Text
write_line = told (codes "cannot write")

-- the file can't be opened
abbrev pub open_line : Text → Text
open_line name = said_of name (codes ": cannot open")

-- the file can't be read
abbrev pub read_line : Text → Text
read_line name = said_of name (codes ": cannot read")

-- the file has more bytes than its limit
abbrev pub long_line : Text → Text
long_line name = said_of name (codes ": too long")

-- how a kind of fault is called
abbrev pub kind_text : TextKind → Text
kind_text BadByte = codes "BadByte"
kind_text Syntax = codes "Syntax"
kind_text TooDeep = codes "TooDeep"
kind_text DuplicateName = codes "DuplicateName"
kind_text TooMany = codes "TooMany"
kind_text BadFlags = codes "BadFlags"
kind_text UnknownOp = codes "UnknownOp"
kind_text BareOperation = codes "BareOperation"
kind_text UnknownKind = codes "UnknownKind"
kind_text Arity = codes "Arity"
kind_text KindClash = codes "KindClash"
kind_text LooseSequence = codes "LooseSequence"
kind_text WildcardInTerm = codes "WildcardInTerm"
kind_text UnboundVariable = codes "UnboundVariable"
kind_text ConditionKind = codes "ConditionKind"
kind_text UnknownSubject = codes "UnknownSubject"
kind_text BadPosition = codes "BadPosition"
kind_text Overlap = codes "Overlap"
kind_text BadCount = codes "BadCount"

-- the line that says at which line and column of a named file what stands
abbrev pub said_at : Text → Text → Text → Text → Text
said_at name line column text = codes "matchpy: "
    ++ (name ++ (codes ":" ++ (line ++ (codes ":" ++ (column ++ (codes ": " ++ (text ++ 10 ∷ [])))))))

-- a fault of a file's text
abbrev pub fault_line : Text → TextFault → Text
fault_line name fault = said_at name (decimal fault.line) (decimal fault.column) (kind_text fault.kind)

-- the line that says at which line of a named file what stands
abbrev pub said_at_line : Text → Text → Text → Text
said_at_line name line text = codes "matchpy: " ++ (name ++ (codes ":" ++ (line ++ (codes ": " ++ (text ++ 10 ∷ [])))))

-- how a kind of fault of a program is called; want of memory is none
abbrev pub program_kind_text : ProgramError → Text
program_kind_text WrongVersion = codes "WrongVersion"
program_kind_text (BadLine line) = codes "BadLine"
program_kind_text (BackwardTarget line) = codes "BackwardTarget"
program_kind_text (BadReference line) = codes "BadReference"
program_kind_text (Unbalanced line) = codes "Unbalanced"
program_kind_text Memory = []

-- the line of a program's text at which a fault stands; the format is named in the first one
abbrev pub fault_line_number : ProgramError → ℕ
fault_line_number WrongVersion = 1
fault_line_number (BadLine line) = line
fault_line_number (BackwardTarget line) = line
fault_line_number (BadReference line) = line
fault_line_number (Unbalanced line) = line
fault_line_number Memory = 0

-- a fault of a program file's text
abbrev pub program_fault_line : Text → ProgramError → Text
program_fault_line name fault = said_at_line name (decimal (fault_line_number fault)) (program_kind_text fault)

-- the line that says something of a name, with the digits of a number in it
abbrev pub said_number : Text → Text → Text → Text → Text
said_number name before digits behind = codes "matchpy: " ++ (name ++ (before ++ (digits ++ (behind ++ 10 ∷ []))))

-- the token is misspelt: a token begins with so many of its bytes, and none with more
abbrev pub spelling_line : ℕ → Text
spelling_line at = said_number (codes "token") (codes ": spelling at ") (decimal at) []

-- the token is that of no match
abbrev pub no_item_line : Text
no_item_line = told (codes "token: not an item")

-- the rule isn't syntactic
abbrev pub not_syntactic_line : Text → Text
not_syntactic_line name = said_of name (codes ": not syntactic")

-- the rule has no template
abbrev pub no_template_line : Text → Text
no_template_line name = said_of name (codes ": no template")

-- of the subject, so many steps were made, and more could be
abbrev pub limit_line : Text → ℕ → Text
limit_line name limit = said_number name (codes ": turn limit ") (decimal limit) []

-- what the subject would become has so many nodes
abbrev pub large_line : Text → ℕ → Text
large_line name nodes = said_number name (codes ": too large: ") (decimal nodes) (codes " nodes")

-- what the subject would become is so deep
abbrev pub deep_line : Text → ℕ → Text
deep_line name depth = said_number name (codes ": too deep: depth ") (decimal depth) []

-- what the subject would become is too large or too deep
abbrev pub excess_line : Text → Excess → Text
excess_line name (excess.TooLarge nodes) = large_line name nodes
excess_line name (excess.TooDeep depth) = deep_line name depth
