-- What each function of the parser gives, as an equation between two runs of the machine.
use Rattle.std.specs.Prelude.{◌≡◌, ℕ, ◌+◌, Bool, true, false, List, [], ◌∷◌, ◌++◌, map, Option, Some, None, Result}
use Rattle.std.specs.Prelude.{Ok, Err, ◌&&◌, if◌then◌else◌, codes}
use Rattle.std.specs.Borrow.{Bor}
use Rattle.std.specs.Global.{Vec}
use Rattle.mp_parser.specs.declared.limits.TheConstants.{MAX_OPEN}
use Rattle.mp_parser.specs.declared.place.Place.{Place}
use Rattle.mp_parser.specs.declared.word.Word as code_word
use Rattle.mp_parser.specs.declared.token.Punct.{Punct}
use Rattle.mp_parser.specs.declared.token.Punct.TheVariants.{Comma, Colon}
use Rattle.mp_parser.specs.declared.fault.Fault.{Fault}
use Rattle.mp_parser.specs.declared.fault.FaultKind.TheVariants.{Syntax}
use Rattle.mp_parser.specs.declared.fault.SyntaxError.{SyntaxError}
use Rattle.mp_parser.specs.declared.fault.SyntaxError.TheVariants as errors
use Rattle.mp_parser.specs.declared.parser.Parser.{Parser}
use Rattle.mp_parser.specs.declared.declaration.FlagWord.{FlagWord}
use Rattle.mp_parser.specs.declared.declaration.FlagWord.TheVariants as flag_words
use Rattle.mp_parser.specs.declared.tree.Expr.{Expr}
use Rattle.mp_parser.specs.declared.tree.Flag as code_flag
use Rattle.mp_parser.specs.declared.tree.Wildcard as code_wildcard
use Rattle.mp_parser.specs.declared.tree.Position as code_position
use Rattle.mp_parser.specs.declared.tree.Replacement as code_replacement
use Rattle.mp_parser.specs.declared.tree.Change as code_change
use Rattle.mp_parser.specs.Tokens.{Token, Placed}
use Rattle.mp_parser.specs.Lexing.{behind, lexemes, token_of}
use Rattle.mp_parser.specs.Syntax as syntax
use Rattle.mp_parser.specs.Syntax.{Spot, Wildcard, Tree, InfixOf, Assoc, Comm, One, OpOf, KindOf, Position, Path}
use Rattle.mp_parser.specs.Syntax.{EditOf, Statement, trees}
use Rattle.mp_parser.specs.View.{placed, spot_of, wildcard_of, flag_of, expr_tree, position_of, replacement_tree}
use Rattle.mp_parser.specs.View.{change_tree}
use Rattle.mp_parser.specs.Machine.{State, Top, AfterFlags, AfterInfix, BeforeMember}
use Rattle.mp_parser.specs.Machine.{BeforeExpr, AfterWord, AfterWildcard, AfterExpr, AfterDollar, Step, Go, Refuse}
use Rattle.mp_parser.specs.Machine.{OfRule, heading, Within, InStatement, InTemplate}
use Rattle.mp_parser.specs.Machine.{Parsed, Frame, Operands, Default, open_count, Declared, declared}
use Rattle.mp_parser.specs.Machine.{with_flag, is_punct, is_sign, is_arrow, is_dot, on_punct, on_text, on_number}
use Rattle.mp_parser.specs.Machine.{on_arrow, step, after_step, run, Edited, edited, change, BeforeChange}
use Rattle.mp_parser.specs.Machine.{AfterPosition, AfterArrow, AfterSquare, AfterChange}

-- the tokens from the one held on
abbrev pub ahead : Parser → List Placed
ahead p = placed p.token ∷ behind (token_of p.token.kind) (lexemes p.lexer.rest.now p.lexer.place)

-- a fault is the one that is read
abbrev pub Fails : SyntaxError → Result Parsed Fault → Type 0
Fails errors.Memory read = Unit {0}
Fails (errors.Fault f) read = read ≡ Err f

-- what is read of tokens
abbrev pub Reading : Type 0
Reading = List Placed → Result Parsed Fault

-- from the old tokens the first reads what behind a value the second reads from the new ones; or the first fault is
-- given
abbrev pub Passes : {A : Type 0} → Reading → (A → Reading) → Result A SyntaxError → List Placed → List Placed → Type 0
Passes from to (Ok a) old new = from old ≡ to a new
Passes from to (Err e) old new = Fails e (from old)

-- what is read behind a step
abbrev pub onward : Place → List Statement → Step → Reading
onward place done next ts = after_step done place (λ d a. run d a ts) next

-- at the token t the state has this punctuation character
abbrev pub WantsPunct : Placed → State → Punct → Step → Type 0
WantsPunct t at p next = step at t ≡ on_punct p t.token next

-- the character is passed, or the token t that was held is refused
abbrev pub PunctGives : Placed → Punct → Result (Unit {0}) SyntaxError → List Placed → List Placed → Type 0
PunctGives t p result old new = (done : List Statement) (at : State) (next : Step) → WantsPunct t at p next
    → Passes (run done at) (λ _. onward t.place done next) result old new

-- the state has a token with a text
abbrev pub WantsText : (Token → Option (List ℕ)) → State → (Spot → State) → Type 0
WantsText text_of at next = (t : Placed) → step at t ≡ on_text t (λ w. Go (next w)) (text_of t.token)

-- a token with a text is passed, or refused
abbrev pub TextGives : {A : Type 0} → (A → Spot) → (Token → Option (List ℕ)) → Result A SyntaxError → List Placed
    → List Placed → Type 0
TextGives view text_of result old new = (done : List Statement) (at : State) (next : Spot → State)
    → WantsText text_of at next
    → Passes (run done at) (λ w. run done (next (view w))) result old new

-- at the token t the state has a number
abbrev pub WantsNumber : Placed → State → (Spot → State) → Type 0
WantsNumber t at next = step at t ≡ on_number t next

-- a number is passed, or the token t that was held is refused
abbrev pub NumberGives : Placed → Result code_word.Word SyntaxError → List Placed → List Placed → Type 0
NumberGives t result old new = (done : List Statement) (at : State) (next : Spot → State) → WantsNumber t at next
    → Passes (run done at) (λ w. run done (next (spot_of w))) result old new

-- the state may have a plus
abbrev pub TakesPlus : State → (Bool → State) → Type 0
TakesPlus at next = (t : Placed)
    → step at t ≡ (if is_sign (codes "+") t.token then Go (next true) else step (next false) t)

-- a plus is passed, where it stands there
abbrev pub PlusGives : Bool → List Placed → List Placed → Type 0
PlusGives more old new = (done : List Statement) (at : State) (next : Bool → State) → TakesPlus at next
    → run done at old ≡ run done (next more) new

-- at the token t the state has the arrow
abbrev pub WantsArrow : Placed → State → State → Type 0
WantsArrow t at next = step at t ≡ on_arrow t.token (Go next)

-- the arrow is passed, or the token t that was held is refused
abbrev pub ArrowGives : Placed → Result (Unit {0}) SyntaxError → List Placed → List Placed → Type 0
ArrowGives t result old new = (done : List Statement) (at next : State) → WantsArrow t at next
    → Passes (run done at) (λ _. run done next) result old new

-- the state behind the word of a flag
abbrev pub behind_flag_word : Declared → FlagWord → State
behind_flag_word d flag_words.Assoc = AfterFlags (with_flag d Assoc)
behind_flag_word d flag_words.Comm = AfterFlags (with_flag d Comm)
behind_flag_word d flag_words.One = AfterFlags (with_flag d One)
behind_flag_word d flag_words.Infix = AfterInfix d

-- the step over the word of a flag
abbrev pub flag_step : Declared → Option FlagWord → Step
flag_step d (Some f) = Go (behind_flag_word d f)
flag_step d None = Refuse Syntax

-- the word of a flag is passed, or refused
abbrev pub FlagWordGives : Result FlagWord SyntaxError → List Placed → List Placed → Type 0
FlagWordGives result old new = (done : List Statement) (d : Declared)
    → Passes (run done (AfterFlags d)) (λ f. run done (behind_flag_word d f)) result old new

-- a flag is passed, or refused
abbrev pub FlagGives : Result code_flag.Flag SyntaxError → List Placed → List Placed → Type 0
FlagGives result old new = (done : List Statement) (d : Declared)
    → Passes (run done (AfterFlags d)) (λ f. run done (AfterFlags (with_flag d (flag_of f)))) result old new

-- flags and the semicolon are passed, or the first fault is given
abbrev pub FlagsGive : Result (Vec code_flag.Flag) SyntaxError → List Placed → List Placed → Type 0
FlagsGive result old new = (done : List Statement) (name least : Spot) (more : Bool)
    → Passes (run done (AfterFlags (declared name least more [])))
    (λ fs. run (done ++ OpOf name least more (map flag_of fs.items) ∷ []) Top) result old new

-- the members of a kind and the semicolon are passed, or the first fault is given
abbrev pub MembersGive : Result (Vec code_word.Word) SyntaxError → List Placed → List Placed → Type 0
MembersGive result old new = (done : List Statement) (name : Spot)
    → Passes (run done (BeforeMember name []))
    (λ ws. run (done ++ KindOf name (map spot_of ws.items) ∷ []) Top) result old new

-- room brackets more may stand open than these frames have open, where at most limit may stand open
abbrev pub HasRoomIn : ℕ → List Frame → ℕ → Type 0
HasRoomIn limit k room = open_count k + room ≡ limit

-- the same, where at most 100 may stand open
abbrev pub HasRoom : List Frame → ℕ → Type 0
HasRoom = HasRoomIn MAX_OPEN

-- an expression is passed, with room brackets more to open, or the first fault is given
abbrev pub ExprFrom : (Within → List Frame → State) → ℕ → Result Expr SyntaxError → List Placed → List Placed → Type 0
ExprFrom at room result old new = (done : List Statement) (x : Within) (k : List Frame) → HasRoom k room
    → Passes (run done (at x k)) (λ e. run done (AfterExpr x k (expr_tree e))) result old new

-- an expression is passed, or the first fault is given
abbrev pub ExprGives : ℕ → Result Expr SyntaxError → List Placed → List Placed → Type 0
ExprGives = ExprFrom BeforeExpr

-- the same behind a word
abbrev pub WordLeads : ℕ → Spot → Result Expr SyntaxError → List Placed → List Placed → Type 0
WordLeads room w = ExprFrom (λ x k. AfterWord x k w) room

-- the same behind a wildcard
abbrev pub WildcardLeads : ℕ → Wildcard → Result Expr SyntaxError → List Placed → List Placed → Type 0
WildcardLeads room w = ExprFrom (λ x k. AfterWildcard x k w) room

-- a word is passed behind a `$` at this place, or refused
abbrev pub DollarLeads : Place → Result Expr SyntaxError → List Placed → List Placed → Type 0
DollarLeads place result old new = (done : List Statement) (x : Within) (k : List Frame)
    → Passes (run done (AfterDollar x k place)) (λ e. run done (AfterExpr x k (expr_tree e))) result old new

-- the state behind a wildcard, where there is one
abbrev pub behind_wildcard : Within → List Frame → Option code_wildcard.Wildcard → State
behind_wildcard x k (Some w) = AfterWildcard x k (wildcard_of w)
behind_wildcard x k None = BeforeExpr x k

-- a wildcard is passed, where one is held
abbrev pub WildcardGives : Option code_wildcard.Wildcard → List Placed → List Placed → Type 0
WildcardGives o old new = (done : List Statement) (x : Within) (k : List Frame)
    → run done (BeforeExpr x k) old ≡ run done (behind_wildcard x k o) new

-- what the default of the last of these wildcards stands in
abbrev pub within_defaults : List Wildcard → List Frame → List Frame
within_defaults [] k = k
within_defaults (w ∷ ws) k = within_defaults ws (Default w ∷ k)

-- at this token the default of a wildcard doesn't follow
abbrev pub HasNoDefaultBehind : Wildcard → Token → Type 0
HasNoDefaultBehind w t = (is_punct Colon t && is_dot w) ≡ false

-- a wildcard and its count, where it has one, are passed, or the first fault is given
abbrev pub CountGives : Wildcard → Result Expr SyntaxError → List Placed → List Placed → Type 0
CountGives w result old new = (done : List Statement) (x : Within) (k : List Frame)
    → Passes (run done (AfterWildcard x k w)) (λ e. run done (AfterExpr x k (expr_tree e))) result old new

-- wildcards with a colon behind each are passed, and behind them a wildcard, where one stands there; only memory can
-- run out
abbrev pub ChainGives : Result (Bor (List code_wildcard.Wildcard) × Option code_wildcard.Wildcard) SyntaxError
    → List Placed → List Placed → Type 0
ChainGives (Ok r) old new = (done : List Statement) (x : Within) (k : List Frame)
    → run done (BeforeExpr x k) old
    ≡ run done (behind_wildcard x (within_defaults (map wildcard_of r.0.now) k) r.1) new
ChainGives (Err e) old new = e ≡ errors.Memory

-- behind a chain whose last wildcard is passed, where there is one, its default is passed, or the first fault is given
abbrev pub DefaultGives : ℕ → Option code_wildcard.Wildcard → Result Expr SyntaxError → List Placed → List Placed
    → Type 0
DefaultGives room last = ExprFrom (λ x k. behind_wildcard x k last) room

-- the expression is this one, unless memory runs out
abbrev pub IsTreeOrMemory : Tree → Result Expr SyntaxError → Type 0
IsTreeOrMemory t (Ok e) = expr_tree e ≡ t
IsTreeOrMemory t (Err e) = e ≡ errors.Memory

-- behind an expression in this open bracket there is a comma, or what closes it
abbrev pub IsRow : Punct → Within → List Frame → (List Tree → Frame) → (List Tree → State) → Type 0
IsRow ending x k frame to = (es : List Tree) (e : Tree) (t : Placed)
    → step (AfterExpr x (frame es ∷ k) e) t
    ≡ (if is_punct Comma t.token then Go (BeforeExpr x (frame (es ++ e ∷ []) ∷ k))
    else on_punct ending t.token (Go (to (es ++ e ∷ []))))

-- an expression is passed and put behind these, or the first fault is given
abbrev pub ExprAdded : ℕ → List Expr → List Expr → Result (Unit {0}) SyntaxError → List Placed → List Placed → Type 0
ExprAdded room before after (Ok _) old new = (e : Expr) × (after ≡ before ++ e ∷ [])
    × ((done : List Statement) (x : Within) (k : List Frame) → HasRoom k room
    → run done (BeforeExpr x k) old ≡ run done (AfterExpr x k (expr_tree e)) new)
ExprAdded room before after (Err err) old new = (done : List Statement) (x : Within) (k : List Frame) → HasRoom k room
    → Fails err (run done (BeforeExpr x k) old)

-- expressions are passed up to what closes the bracket, or the first fault is given
abbrev pub RowGives : Punct → ℕ → Result (Bor (List Expr)) SyntaxError → List Placed → List Placed → Type 0
RowGives ending room result old new = (done : List Statement) (x : Within) (k : List Frame) (frame : List Tree → Frame)
    (to : List Tree → State) → IsRow ending x k frame to
    → ((es : List Tree) → HasRoom (frame es ∷ k) room)
    → Passes (run done (BeforeExpr x (frame [] ∷ k))) (λ es. run done (to (map expr_tree es.now))) result old new

-- operands behind the first sign are passed up to the closing bracket, or the first fault is given
abbrev pub OperandsGive : ℕ → Tree → Spot → Result (Bor (List Expr)) SyntaxError → List Placed → List Placed → Type 0
OperandsGive room first sign result old new = (done : List Statement) (x : Within) (k : List Frame) (place : Place)
    → HasRoom (Operands place sign first [] ∷ k) room
    → Passes (run done (BeforeExpr x (Operands place sign first [] ∷ k)))
    (λ es. run done (AfterExpr x k (InfixOf place sign (trees (map expr_tree es.now))))) result old new

-- the arrow and the template of a rule are passed, where the arrow stands there, or the first fault is given; where it
-- doesn't, the token that is held then is no arrow
abbrev pub TemplateGives : Token → Result (Option (Bor Expr)) SyntaxError → List Placed → List Placed → Type 0
TemplateGives t (Ok None) old new = (old ≡ new) × (is_arrow t ≡ false)
TemplateGives t (Ok (Some e)) old new = (done : List Statement) (name : Spot) (pattern : Tree)
    → run done (AfterExpr (InStatement (heading OfRule name)) [] pattern) old
    ≡ run done (AfterExpr (InTemplate name pattern) [] (expr_tree e.now)) new
TemplateGives t (Err e) old new = (done : List Statement) (name : Spot) (pattern : Tree)
    → Fails e (run done (AfterExpr (InStatement (heading OfRule name)) [] pattern) old)

-- changes and the semicolon are passed, or the first fault is given
abbrev pub ChangesGive : Result (Vec code_change.Change) SyntaxError → List Placed → List Placed → Type 0
ChangesGive result old new = (done : List Statement) (subject : Spot)
    → Passes (run done (BeforeChange (edited subject [])))
    (λ cs. run (done ++ EditOf subject (map change_tree cs.items) ∷ []) Top) result old new

-- a change is passed, or the first fault is given
abbrev pub ChangeGives : Result code_change.Change SyntaxError → List Placed → List Placed → Type 0
ChangeGives result old new = (done : List Statement) (d : Edited)
    → Passes (run done (BeforeChange d)) (λ c. run done (AfterChange d (change_tree c))) result old new

-- a position and the arrow are passed, or the first fault is given
abbrev pub PositionGives : Result code_position.Position SyntaxError → List Placed → List Placed → Type 0
PositionGives result old new = (done : List Statement) (d : Edited)
    → Passes (run done (BeforeChange d)) (λ p. run done (AfterArrow d (position_of p))) result old new

-- the further numbers of a position and the arrow are passed, or the first fault is given
abbrev pub IndicesGive : Result (Vec code_word.Word) SyntaxError → List Placed → List Placed → Type 0
IndicesGive result old new = (done : List Statement) (d : Edited) (first : Spot)
    → Passes (run done (AfterPosition d (Path first [])))
    (λ ws. run done (AfterArrow d (Path first (map spot_of ws.items)))) result old new

-- what stands at a position then is passed, or the first fault is given
abbrev pub ReplacementGives : Result code_replacement.Replacement SyntaxError → List Placed → List Placed → Type 0
ReplacementGives result old new = (done : List Statement) (d : Edited) (p : Position)
    → Passes (run done (AfterArrow d p)) (λ r. run done (AfterChange d (change p (replacement_tree r)))) result old new

-- the expressions of a list are passed up to the square bracket that closes it, or the first fault is given
abbrev pub ListedGives : Result (Bor (List Expr)) SyntaxError → List Placed → List Placed → Type 0
ListedGives result old new = (done : List Statement) (d : Edited) (p : Position)
    → Passes (run done (AfterSquare d p))
    (λ es. run done (AfterChange d (change p (syntax.Listed (trees (map expr_tree es.now)))))) result old new
