-- Faults of tokens and grammar as faults of a text.
use Rattle.std.specs.Prelude.{◌≡◌, ℕ, List}
use Rattle.mp_parser.specs.declared.fault.Fault.{Fault}
use Rattle.mp_parser.specs.declared.fault.FaultKind.{FaultKind}
use Rattle.mp_parser.specs.declared.fault.FaultKind.TheVariants as syntax
use Rattle.mp_parser.specs.declared.fault.SyntaxError.{SyntaxError}
use Rattle.mp_parser.specs.declared.fault.SyntaxError.TheVariants as syntax_errors
use Rattle.mp_syntax.specs.Begins.{Text}
use Rattle.mp_syntax.specs.FirstFault.{IsFirstFault}
use Rattle.mp_build.specs.declared.fault.TextKind.{TextKind}
use Rattle.mp_build.specs.declared.fault.TextKind.TheVariants.{BadByte, Syntax, TooDeep, TooMany}
use Rattle.mp_build.specs.declared.fault.TextFault.{TextFault}
use Rattle.mp_build.specs.declared.fault.TextError.{TextError}
use Rattle.mp_build.specs.declared.fault.TextError.TheVariants as errors
use Rattle.mp_build.specs.Checks.{fault_at}

-- what tokens or grammar have against a token
abbrev pub syntax_kind : FaultKind → TextKind
syntax_kind syntax.BadByte = BadByte
syntax_kind syntax.TooMany = TooMany
syntax_kind syntax.Syntax = Syntax
syntax_kind syntax.TooDeep = TooDeep

-- a fault of tokens or grammar as a fault of the text
abbrev pub syntax_fault : Fault → TextFault
syntax_fault f = fault_at (syntax_kind f.kind) f.place

-- the error for a text without a syntax tree: its first fault, or memory ran out
abbrev pub text_error : SyntaxError → TextError
text_error syntax_errors.Memory = errors.Memory
text_error (syntax_errors.Fault f) = errors.Text (syntax_fault f)

-- tokens or grammar refuse the bytes as a text of this sort, and this is their first fault
abbrev pub HasSyntaxFault : Text → List ℕ → TextFault → Type 0
HasSyntaxFault sort bytes t = (f : Fault) × IsFirstFault sort bytes f × (t ≡ syntax_fault f)
