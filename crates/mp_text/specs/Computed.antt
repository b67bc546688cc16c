-- The file and the fault of bytes, as functions over the reader's machine.
use Rattle.std.specs.Prelude.{◌≡◌, ℕ, List, [], ◌∷◌, Option, Some, None, option_and_then, Result, Ok, Err}
use Rattle.mp_parser.specs.declared.fault.Fault.{Fault}
use Rattle.mp_parser.specs.Syntax.{Statement}
use Rattle.mp_syntax.specs.Reading.{reading, syntax_of}
use Rattle.mp_build.specs.declared.fault.TextFault.{TextFault}
use Rattle.mp_build.specs.declared.fault.TextError.{TextError}
use Rattle.mp_build.specs.declared.fault.TextError.TheVariants.{Text, Memory}
use Rattle.mp_text.specs.declared.file.File as code
use Rattle.mp_text.specs.File.{FileTree, file_tree}
use Rattle.mp_text.specs.FileBuild.{file_tree_of}
use Rattle.mp_text.specs.FileChecks.{faults}
use Rattle.mp_build.specs.Answers.{first}
use Rattle.mp_text.specs.Reading.{IsFileOf}
use Rattle.mp_build.specs.SyntaxFaults.{syntax_fault}

-- the file, where there is no fault
abbrev pub file_without : List TextFault → FileTree → Option FileTree
file_without [] f = Some f
file_without (fault ∷ others) f = None

-- the file that the statements stand for, where no check finds a fault
abbrev pub checked_file : List Statement → Option FileTree
checked_file ss = file_without (faults ss) (file_tree_of ss)

-- the file of the bytes, where they are one
abbrev pub file_of : List ℕ → Option FileTree
file_of bytes = option_and_then checked_file (syntax_of bytes)

-- the fault of what was read
abbrev pub fault_in : Result (List Statement) Fault → Option TextFault
fault_in (Ok ss) = first (faults ss)
fault_in (Err f) = Some (syntax_fault f)

-- the fault of the bytes, where they have one
abbrev pub fault_of : List ℕ → Option TextFault
fault_of bytes = fault_in (reading bytes)

-- the file of the bytes, or their fault, or memory ran out
abbrev pub ReadGives : List ℕ → Result code.File TextError → Type 0
ReadGives bytes (Ok f) = IsFileOf bytes (file_tree f)
ReadGives bytes (Err (Text t)) = fault_of bytes ≡ Some t
ReadGives bytes (Err Memory) = Unit {0}

-- the answer is this file where there is no fault, or else this fault, or memory ran out
abbrev pub IsComputed : Result code.File TextError → Option FileTree → Option TextFault → Type 0
IsComputed (Ok f) file fault = (file ≡ Some (file_tree f)) × (fault ≡ None)
IsComputed (Err (Text t)) file fault = fault ≡ Some t
IsComputed (Err Memory) file fault = Unit {0}
