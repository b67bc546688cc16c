-- The reading of a whole file, and of an expression or a condition alone, as functions.
use Rattle.std.specs.Prelude.{List, [], ◌∷◌, ℕ, map, Option, Some, None, Result, Ok, Err}
use Rattle.std.specs.Global.{Vec}
use Rattle.mp_parser.specs.declared.place.Place.{Place}
use Rattle.mp_parser.specs.declared.fault.Fault.{Fault}
use Rattle.mp_parser.specs.declared.fault.FaultKind.TheVariants.{BadByte, TooMany}
use Rattle.mp_parser.specs.declared.fault.SyntaxError.{SyntaxError}
use Rattle.mp_parser.specs.declared.fault.SyntaxError.TheVariants as errors
use Rattle.mp_parser.specs.declared.tree.Expr.{Expr}
use Rattle.mp_parser.specs.declared.tree.Statement as code
use Rattle.mp_parser.specs.declared.condition_tree.Condition as code_condition
use Rattle.mp_parser.specs.Tokens.{Token, Long, Bad, Placed, first_place}
use Rattle.mp_parser.specs.Lexing.{lexemes}
use Rattle.mp_parser.specs.Syntax.{Tree, Condition, Statement}
use Rattle.mp_syntax.specs.Begins.{Text, OfFile, OfExpr, OfCondition}
use Rattle.mp_parser.specs.View.{expr_tree, condition_tree, statement_tree}
use Rattle.mp_parser.specs.Machine.{State, Top, BeforeExpr, BeforeLiteral, Alone, ConditionAlone, no_level, Single}
use Rattle.mp_parser.specs.Machine.{SingleExpr, SingleCondition, Parsed, no_fault, run}

-- the state before a text of this sort
abbrev pub start : Text → State
start OfFile = Top
start OfExpr = BeforeExpr Alone []
start OfCondition = BeforeLiteral ConditionAlone [] no_level

-- the fault of a bad byte or of a word that is too long, and else of what lies behind the token
abbrev pub bad_or : Token → Place → Option Fault → Option Fault
bad_or Long place others = Some (record { kind = TooMany; place = place })
bad_or Bad place others = Some (record { kind = BadByte; place = place })
bad_or _ place others = others

-- the first of these faults among tokens
abbrev pub first_bad : List Placed → Option Fault
first_bad [] = None
first_bad (t ∷ ts) = bad_or t.token t.place (first_bad ts)

-- the fault of the tokens, and without one what the machine reads
abbrev pub checked : Option Fault → Result Parsed Fault → Result Parsed Fault
checked (Some f) read = Err f
checked None read = read

-- what is read of a text of this sort: all its tokens are looked at first
abbrev pub text_reading : Text → List ℕ → Result Parsed Fault
text_reading sort bytes =
    checked (first_bad (lexemes bytes first_place)) (run [] (start sort) (lexemes bytes first_place))

-- what is asked of the statements that are read and of what is read alone: a value, where they are one
abbrev pub Pick : Type 0 → Type 0
Pick A = List Statement → Option Single → Option A

-- statements without an expression or a condition
abbrev pub statements_alone : Pick (List Statement)
statements_alone ss None = Some ss
statements_alone ss (Some s) = None

-- an expression without statements
abbrev pub expr_alone : Pick Tree
expr_alone [] (Some (SingleExpr t)) = Some t
expr_alone ss o = None

-- a condition without statements
abbrev pub condition_alone : Pick Condition
condition_alone [] (Some (SingleCondition c)) = Some c
condition_alone ss o = None

-- the value, where there is one
abbrev pub or_no_fault : {A : Type 0} → Option A → Result A Fault
or_no_fault (Some v) = Ok v
or_no_fault None = Err no_fault

-- the value that is picked of what is read, or the fault
abbrev pub read_by : {A : Type 0} → Pick A → Result Parsed Fault → Result A Fault
read_by pick (Ok p) = or_no_fault (pick p.statements p.single)
read_by pick (Err f) = Err f

-- the statements that are read, or the fault
abbrev pub statements_read : Result Parsed Fault → Result (List Statement) Fault
statements_read = read_by statements_alone

-- the statements of a file, or its first fault
abbrev pub reading : List ℕ → Result (List Statement) Fault
reading bytes = statements_read (text_reading OfFile bytes)

-- the expression of a text, or its first fault
abbrev pub expr_reading : List ℕ → Result Tree Fault
expr_reading bytes = read_by expr_alone (text_reading OfExpr bytes)

-- the condition of a text, or its first fault
abbrev pub condition_reading : List ℕ → Result Condition Fault
condition_reading bytes = read_by condition_alone (text_reading OfCondition bytes)

-- the value of an Ok
abbrev pub read_value : {A : Type 0} → Result A Fault → Option A
read_value (Ok v) = Some v
read_value (Err f) = None

-- the statements of a file, where it has any
abbrev pub syntax_of : List ℕ → Option (List Statement)
syntax_of bytes = read_value (reading bytes)

-- the fact of the fault, where the error is one
abbrev pub IfFault : SyntaxError → (Fault → Type 0) → Type 0
IfFault errors.Memory P = Unit {0}
IfFault (errors.Fault f) P = P f

-- the fact of the value, where it is answered, and else memory ran out
abbrev pub IsAnswerOrMemory : {A B : Type 0} → (A → B) → Result A SyntaxError → (B → Type 0) → Type 0
IsAnswerOrMemory view (Ok a) P = P (view a)
IsAnswerOrMemory view (Err errors.Memory) P = Unit {0}
IsAnswerOrMemory view (Err (errors.Fault f)) P = ⊥

-- the same of statements
abbrev pub IsOkOrMemory : Result (Vec code.Statement) SyntaxError → (List Statement → Type 0) → Type 0
IsOkOrMemory = IsAnswerOrMemory (λ v. map statement_tree v.items)

-- the same of an expression
abbrev pub IsExprOrMemory : Result Expr SyntaxError → (Tree → Type 0) → Type 0
IsExprOrMemory = IsAnswerOrMemory expr_tree

-- the same of a condition
abbrev pub IsConditionOrMemory : Result code_condition.Condition SyntaxError → (Condition → Type 0) → Type 0
IsConditionOrMemory = IsAnswerOrMemory condition_tree
