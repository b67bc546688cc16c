-- What each function of the parser gives that reads conditions, as an equation between two runs of the machine.
use Rattle.std.specs.Prelude.{◌≡◌, ℕ, Bool, false, List, [], ◌∷◌, ◌++◌, Option, Some, None, Result, Ok, Err, codes}
use Rattle.mp_parser.specs.declared.fault.SyntaxError.{SyntaxError}
use Rattle.mp_parser.specs.declared.tree.Expr.{Expr}
use Rattle.mp_parser.specs.declared.condition_tree.Sense.{Sense}
use Rattle.mp_parser.specs.declared.condition_tree.Relation.{Relation}
use Rattle.mp_parser.specs.declared.condition_tree.Property.{Property}
use Rattle.mp_parser.specs.declared.condition_tree.Measure.{Measure}
use Rattle.mp_parser.specs.declared.condition_tree.Amount as code_amount
use Rattle.mp_parser.specs.declared.condition_tree.Atom as code_atom
use Rattle.mp_parser.specs.declared.condition_tree.Alternative as code_alternative
use Rattle.mp_parser.specs.declared.condition_tree.Condition as code
use Rattle.mp_parser.specs.Tokens.{Token, Placed}
use Rattle.mp_parser.specs.Syntax.{Spot, Tree, Amount, Measured, Literal, Literals, literals, condition}
use Rattle.mp_parser.specs.Syntax.{Statement}
use Rattle.mp_parser.specs.View.{expr_tree, amount_tree, atom_tree, alternative_tree, condition_tree}
use Rattle.mp_parser.specs.Machine.{State, Within, InCondition, Frame, Operand, Level, no_level, all_alternatives}
use Rattle.mp_parser.specs.Machine.{Site, site, Side, Lead, OfMeasure, OfRelation, OfProperty, with_atom, with_amount}
use Rattle.mp_parser.specs.Machine.{BeforeLiteral, BeforeBody, BeforeOperand, AfterAmount, AfterSense, AfterLiteral}
use Rattle.mp_parser.specs.Machine.{AfterExpr, is_word, on_word, step, step_amount}
use Rattle.mp_parser.specs.Machine.{step_rule, run}
use Rattle.mp_parser.specs.Parsing.{Fails, Passes, HasRoom}

-- the token is no `and`
abbrev pub EndsAlternative : Token → Type 0
EndsAlternative t = is_word (codes "and") t ≡ false

-- the token is neither `and` nor `or`
abbrev pub EndsCondition : Token → Type 0
EndsCondition t = EndsAlternative t × (is_word (codes "or") t ≡ false)

-- the token is not `if`, or behind a condition it is neither `and` nor `or`
abbrev pub EndsIf : Option code.Condition → Token → Type 0
EndsIf None t = is_word (codes "if") t ≡ false
EndsIf (Some c) t = EndsCondition t

-- a condition is passed, with room brackets more to open, or the first fault is given
abbrev pub ConditionGives : ℕ → Result code.Condition SyntaxError → List Placed → List Placed → Type 0
ConditionGives room (Ok c) old new = (v : Level) × (l : Literal) × (condition (all_alternatives v l) ≡ condition_tree c)
    × ((done : List Statement) (x : Within) (k : List Frame) → HasRoom k room
    → run done (BeforeLiteral x k no_level) old ≡ run done (AfterLiteral x k v l) new)
ConditionGives room (Err e) old new = (done : List Statement) (x : Within) (k : List Frame) → HasRoom k room
    → Fails e (run done (BeforeLiteral x k no_level) old)

-- in an alternative behind these, and behind these literals of it
abbrev pub level : List Literals → List Literal → Level
level alternatives literals = record { alternatives = alternatives; literals = literals }

-- the literals of an alternative are passed, or the first fault is given
abbrev pub AlternativeGives : ℕ → Result code_alternative.Alternative SyntaxError → List Placed → List Placed → Type 0
AlternativeGives room (Ok a) old new = (ls : List Literal) × (l : Literal)
    × (literals (ls ++ l ∷ []) ≡ alternative_tree a)
    × ((done : List Statement) (x : Within) (k : List Frame) (before : List Literals) → HasRoom k room
    → run done (BeforeLiteral x k (level before [])) old ≡ run done (AfterLiteral x k (level before ls) l) new)
AlternativeGives room (Err e) old new = (done : List Statement) (x : Within) (k : List Frame) (before : List Literals)
    → HasRoom k room
    → Fails e (run done (BeforeLiteral x k (level before [])) old)

-- from this state on a literal is passed and put behind these, or the first fault is given
abbrev pub LiteralAddedFrom : (Within → List Frame → Level → State) → ℕ → List Literal → List Literal
    → Result (Unit {0}) SyntaxError → List Placed → List Placed → Type 0
LiteralAddedFrom at room before after (Ok _) old new = (l : Literal) × (after ≡ before ++ l ∷ [])
    × ((done : List Statement) (x : Within) (k : List Frame) (v : Level) → HasRoom k room
    → run done (at x k v) old ≡ run done (AfterLiteral x k v l) new)
LiteralAddedFrom at room before after (Err e) old new = (done : List Statement) (x : Within) (k : List Frame)
    (v : Level) → HasRoom k room → Fails e (run done (at x k v) old)

-- a literal is passed and put behind these, or the first fault is given
abbrev pub LiteralAdded : ℕ → List Literal → List Literal → Result (Unit {0}) SyntaxError → List Placed → List Placed
    → Type 0
LiteralAdded = LiteralAddedFrom BeforeLiteral

-- the same of a literal, negated or not, from behind the place of its `not` on
abbrev pub BodyAdded : ℕ → Bool → List Literal → List Literal → Result (Unit {0}) SyntaxError → List Placed
    → List Placed → Type 0
BodyAdded room negated = LiteralAddedFrom (λ x k v. BeforeBody x k (site v negated)) room

-- `not` is passed, where it stands there
abbrev pub NegationGives : Bool → List Placed → List Placed → Type 0
NegationGives negated old new = (done : List Statement) (x : Within) (k : List Frame) (v : Level)
    → run done (BeforeLiteral x k v) old ≡ run done (BeforeBody x k (site v negated)) new

-- from this state of a site on an atom is passed, or the first fault is given
abbrev pub AtomFrom : (Within → List Frame → Site → State) → ℕ → Result code_atom.Atom SyntaxError → List Placed
    → List Placed → Type 0
AtomFrom at room result old new = (done : List Statement) (x : Within) (k : List Frame) (s : Site) → HasRoom k room
    → Passes (run done (at x k s)) (λ a. run done (with_atom x k s (atom_tree a))) result old new

-- an atom is passed, or the first fault is given
abbrev pub AtomGives : ℕ → Result code_atom.Atom SyntaxError → List Placed → List Placed → Type 0
AtomGives = AtomFrom BeforeBody

-- the operands of a relation are passed, or the first fault is given
abbrev pub RelationGives : ℕ → Relation → Result code_atom.Atom SyntaxError → List Placed → List Placed → Type 0
RelationGives room r = AtomFrom (λ x k s. BeforeOperand x k s (OfRelation r)) room

-- the operand and the name of a property are passed, or the first fault is given
abbrev pub PropertyGives : ℕ → Property → Result code_atom.Atom SyntaxError → List Placed → List Placed → Type 0
PropertyGives room p = AtomFrom (λ x k s. BeforeOperand x k s (OfProperty p)) room

-- at the token t the state has an amount on this side
abbrev pub WantsAmount : Placed → State → Within → List Frame → Site → Side → Type 0
WantsAmount t at x k s side = step at t ≡ on_word t (λ w. step_amount x k s side w)

-- an amount is passed, or the first fault is given
abbrev pub AmountGives : ℕ → Placed → Result code_amount.Amount SyntaxError → List Placed → List Placed → Type 0
AmountGives room t result old new = (done : List Statement) (at : State) (x : Within) (k : List Frame) (s : Site)
    (side : Side)
    → WantsAmount t at x k s side → HasRoom k room
    → Passes (run done at) (λ a. run done (with_amount x k s side (amount_tree a))) result old new

-- the operand of a measure is passed in its brackets, or the first fault is given
abbrev pub MeasureGives : ℕ → Result Expr SyntaxError → List Placed → List Placed → Type 0
MeasureGives room result old new = (done : List Statement) (x : Within) (k : List Frame) (s : Site) (side : Side)
    (m : Measure) → HasRoom k room
    → Passes (run done (BeforeOperand x k s (OfMeasure side m)))
    (λ e. run done (with_amount x k s side (Measured m (expr_tree e)))) result old new

-- an operand is passed behind the opening bracket, or the first fault is given
abbrev pub OperandGives : ℕ → Result Expr SyntaxError → List Placed → List Placed → Type 0
OperandGives room result old new = (done : List Statement) (x : Within) (k : List Frame) (s : Site) (lead : Lead)
    → HasRoom k room
    → Passes (run done (BeforeOperand x k s lead))
    (λ e. run done (AfterExpr x (Operand s lead ∷ k) (expr_tree e))) result old new

-- the sign of a comparison is passed, or refused
abbrev pub SenseGives : Result Sense SyntaxError → List Placed → List Placed → Type 0
SenseGives result old new = (done : List Statement) (x : Within) (k : List Frame) (s : Site) (a : Amount)
    → Passes (run done (AfterAmount x k s a)) (λ sense. run done (AfterSense x k s a sense)) result old new

-- at the token t the state has what stands behind the pattern of a rule, or behind its template
abbrev pub EndsRule : Placed → State → Spot → Tree → Option Tree → Type 0
EndsRule t at name e template = step at t ≡ step_rule name e template t.token

-- `if` and the condition of a rule are passed, where `if` is the token t that was held, or the first fault is given
abbrev pub IfGives : Placed → Result (Option code.Condition) SyntaxError → List Placed → List Placed → Type 0
IfGives t (Ok None) old new = old ≡ new
IfGives t (Ok (Some c)) old new = (v : Level) × (l : Literal) × (condition (all_alternatives v l) ≡ condition_tree c)
    × ((done : List Statement) (at : State) (name : Spot) (e : Tree) (template : Option Tree)
    → EndsRule t at name e template
    → run done at old ≡ run done (AfterLiteral (InCondition name e template) [] v l) new)
IfGives t (Err err) old new = (done : List Statement) (at : State) (name : Spot) (e : Tree) (template : Option Tree)
    → EndsRule t at name e template → Fails err (run done at old)
