-- A file that is built statement by statement, its declarations first.
use Rattle.std.specs.Prelude.{◌≡◌, ℕ, List, [], Bool, true, false}
use Rattle.mp_parser.specs.declared.parser.Parser.{Parser}
use Rattle.mp_parser.specs.Tokens.{first_place}
use Rattle.mp_parser.specs.Lexing.{lexemes}
use Rattle.mp_parser.specs.Syntax.{Statement, OpOf, KindOf, RuleOf, SubjectOf, EditOf}
use Rattle.mp_parser.specs.Machine.{Top, run}
use Rattle.mp_parser.specs.Parsing.{ahead}
use Rattle.mp_build.specs.Build.{sig_of}
use Rattle.mp_text.specs.declared.reader.Draft.{Draft}
use Rattle.mp_text.specs.Draft.{IsDraftOf}
use Rattle.mp_text.specs.FileChecks.{faults}

-- the statement declares an operation or a kind
abbrev pub is_declaration : Statement → Bool
is_declaration (OpOf name least more flags) = true
is_declaration (KindOf name members) = true
is_declaration (RuleOf name p x c) = false
is_declaration (SubjectOf name t) = false
is_declaration (EditOf subject changes) = false

-- what is read of the bytes is what is read from where the parser stands, behind these statements
abbrev pub HasRead : List ℕ → List Statement → Parser → Type 0
HasRead bytes read p = run [] Top (lexemes bytes first_place) ≡ run read Top (ahead p)

-- the draft is that of the statements that were read of the bytes, in which no check finds a fault
pub record IsDraftRead (bytes : List ℕ) (p : Parser) (d : Draft) : Type 0 where
  pub statements : List Statement
  pub read : HasRead bytes statements p
  pub faultless : faults statements ≡ []
  pub draft : IsDraftOf (sig_of statements) statements d
