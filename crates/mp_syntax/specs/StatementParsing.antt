-- What each function that reads statements gives, as an equation between two runs of the machine, and what is read of a
-- whole text.
use Rattle.std.specs.Prelude.{◌≡◌, List, [], ◌∷◌, ◌++◌, map, Option, Some, None, Result, Ok, Err}
use Rattle.std.specs.Borrow.{Bor}
use Rattle.std.specs.Global.{Vec}
use Rattle.mp_parser.specs.declared.word.Word as code_word
use Rattle.mp_parser.specs.declared.token.Punct.TheVariants.{Colon}
use Rattle.mp_parser.specs.declared.fault.Fault.{Fault}
use Rattle.mp_parser.specs.declared.fault.FaultKind.TheVariants.{Syntax}
use Rattle.mp_parser.specs.declared.fault.SyntaxError.{SyntaxError}
use Rattle.mp_syntax.specs.declared.statement.Keyword.{Keyword}
use Rattle.mp_syntax.specs.declared.statement.Keyword.TheVariants as keywords
use Rattle.mp_parser.specs.declared.tree.Expr.{Expr}
use Rattle.mp_parser.specs.declared.tree.Statement as code
use Rattle.mp_parser.specs.declared.condition_tree.Condition as code_condition
use Rattle.mp_parser.specs.Tokens.{Placed}
use Rattle.mp_parser.specs.Syntax.{Spot, Tree, Statement, RuleOf}
use Rattle.mp_parser.specs.View.{spot_of, expr_tree, condition_tree, statement_tree, arrow_tree, if_tree}
use Rattle.mp_parser.specs.Machine.{State, Top, AfterOp, AfterKind, AfterRole, AfterExpr, AfterEdit, Step, Go, Refuse}
use Rattle.mp_parser.specs.Machine.{Role, OfRule, OfSubject, heading, InStatement, SingleExpr, SingleCondition, Parsed}
use Rattle.mp_parser.specs.Machine.{parsed, word_of, run}
use Rattle.mp_parser.specs.Parsing.{Fails, Passes, WantsText, WantsPunct}

-- the state behind a keyword
abbrev pub start_of : Keyword → State
start_of keywords.Op = AfterOp
start_of keywords.Kind = AfterKind
start_of keywords.Rule = AfterRole OfRule
start_of keywords.Subject = AfterRole OfSubject
start_of keywords.Edit = AfterEdit

-- the step over a keyword
abbrev pub keyword_step : Option Keyword → Step
keyword_step (Some k) = Go (start_of k)
keyword_step None = Refuse Syntax

-- a keyword is passed, or refused
abbrev pub KeywordGives : Result Keyword SyntaxError → List Placed → List Placed → Type 0
KeywordGives result old new = (done : List Statement)
    → Passes (run done Top) (λ k. run done (start_of k)) result old new

-- from this state on a statement is passed, or the first fault is given
abbrev pub StatementFrom : State → Result code.Statement SyntaxError → List Placed → List Placed → Type 0
StatementFrom at result old new = (done : List Statement)
    → Passes (run done at) (λ x. run (done ++ statement_tree x ∷ []) Top) result old new

-- a name and a colon are passed, or the first fault is given
abbrev pub HeadingGives : Result code_word.Word SyntaxError → List Placed → List Placed → Type 0
HeadingGives result old new = (done : List Statement) (at : State) (name next : Spot → State)
    → WantsText word_of at name → ((w : Spot) (t : Placed) → WantsPunct t (name w) Colon (Go (next w)))
    → Passes (run done at) (λ w. run done (next (spot_of w))) result old new

-- what follows the keyword of a rule or subject is passed up to the end of its expression, or the first fault is given
abbrev pub NamedExprGives : Result (code_word.Word × Expr) SyntaxError → List Placed → List Placed → Type 0
NamedExprGives result old new = (done : List Statement) (role : Role)
    → Passes (run done (AfterRole role))
    (λ x. run done (AfterExpr (InStatement (heading role (spot_of x.0))) [] (expr_tree x.1))) result old new

-- behind the pattern of a rule its template and its condition are passed, where it has them, and the semicolon, or the
-- first fault is given
abbrev pub RuleEndGives : Result (Option (Bor Expr) × Option code_condition.Condition) SyntaxError → List Placed
    → List Placed → Type 0
RuleEndGives result old new = (done : List Statement) (name : Spot) (e : Tree)
    → Passes (run done (AfterExpr (InStatement (heading OfRule name)) [] e))
    (λ r. run (done ++ RuleOf name e (arrow_tree r.0) (if_tree r.1) ∷ []) Top) result old new

-- the value is the one that is read, or the fault is the one that is read
abbrev pub Gives : {A : Type 0} → (A → Parsed) → Result A SyntaxError → Result Parsed Fault → Type 0
Gives parsed_of (Ok a) read = read ≡ Ok (parsed_of a)
Gives parsed_of (Err e) read = Fails e read

-- the statements are those that are read, or the fault is the one that is read
abbrev pub FileGives : Result (Vec code.Statement) SyntaxError → Result Parsed Fault → Type 0
FileGives = Gives (λ v. parsed (map statement_tree v.items) None)

-- the expression is the one that is read alone, or the fault is the one that is read
abbrev pub AloneGives : Result Expr SyntaxError → Result Parsed Fault → Type 0
AloneGives = Gives (λ e. parsed [] (Some (SingleExpr (expr_tree e))))

-- the condition is the one that is read alone, or the fault is the one that is read
abbrev pub ConditionAloneGives : Result code_condition.Condition SyntaxError → Result Parsed Fault → Type 0
ConditionAloneGives = Gives (λ c. parsed [] (Some (SingleCondition (condition_tree c))))
