-- Which bytes are which file, and which fault others have.
use Rattle.std.specs.Prelude.{◌≡◌, ◌⊎◌, ℕ, List, [], Some, Result, Ok, Err}
use Rattle.mp_parser.specs.Syntax.{Statement, IsSyntaxOf}
use Rattle.mp_syntax.specs.Begins.{OfFile}
use Rattle.mp_build.specs.declared.fault.TextFault.{TextFault}
use Rattle.mp_build.specs.declared.fault.TextError.{TextError}
use Rattle.mp_build.specs.declared.fault.TextError.TheVariants as errors
use Rattle.mp_text.specs.declared.file.File as code
use Rattle.mp_text.specs.File.{FileTree, file_tree}
use Rattle.mp_text.specs.FileBuild.{file_tree_of}
use Rattle.mp_text.specs.FileChecks.{faults}
use Rattle.mp_build.specs.Answers.{first}
use Rattle.mp_build.specs.SyntaxFaults.{HasSyntaxFault}

-- the bytes are this file: they are statements in which no check finds a fault, and the file is what those stand for
pub record IsFileOf (bytes : List ℕ) (f : FileTree) : Type 0 where
  pub statements : List Statement
  pub syntax : IsSyntaxOf bytes statements
  pub faultless : faults statements ≡ []
  pub file : f ≡ file_tree_of statements

-- the bytes are statements in which the checks find this fault first
abbrev pub HasFault : List ℕ → TextFault → Type 0
HasFault bytes t = (ss : List Statement) × IsSyntaxOf bytes ss × (first (faults ss) ≡ Some t)

-- the fault of the bytes: the first that tokens and grammar have, or else the first that the checks find in statements
abbrev pub IsFaultOf : List ℕ → TextFault → Type 0
IsFaultOf bytes t = HasSyntaxFault OfFile bytes t ⊎ HasFault bytes t

-- a file of which the fact holds, or memory ran out
abbrev pub IsFileOrMemory : Result code.File TextError → (FileTree → Type 0) → Type 0
IsFileOrMemory (Ok f) P = P (file_tree f)
IsFileOrMemory (Err (errors.Text t)) P = ⊥
IsFileOrMemory (Err errors.Memory) P = Unit {0}
