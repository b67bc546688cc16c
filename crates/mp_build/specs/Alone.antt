-- Which bytes are which term or pattern alone, and which fault others have.
use Rattle.std.specs.Prelude.{◌≡◌, ◌⊎◌, ℕ, List, [], ◌++◌, Some, Result, Ok, Err}
use Rattle.mp_term.specs.Tree as term
use Rattle.mp_term.specs.Signature.{Sig}
use Rattle.mp_term.specs.Normal.{normal}
use Rattle.mp_pattern.specs.PatternTree as pattern
use Rattle.mp_parser.specs.declared.place.Place.{Place}
use Rattle.mp_parser.specs.declared.fault.Fault.{Fault}
use Rattle.mp_parser.specs.Syntax.{Tree, Symbol, Apply, InfixOf, Wild, Optional, Counted, Variable, IsExprOf}
use Rattle.mp_syntax.specs.Begins.{OfExpr}
use Rattle.mp_syntax.specs.Begins as begins
use Rattle.mp_build.specs.declared.fault.TextKind.TheVariants.{TooMany}
use Rattle.mp_build.specs.declared.fault.TextFault.{TextFault}
use Rattle.mp_build.specs.declared.fault.TextError.{TextError}
use Rattle.mp_build.specs.declared.fault.TextError.TheVariants.{Text, Memory}
use Rattle.mp_build.specs.Answers.{first, Gives}
use Rattle.mp_build.specs.Build.{term_of, pattern_of}
use Rattle.mp_build.specs.Checks.{fault_if, is_large_term, is_large_pattern, term_faults, whole_pattern_faults}
use Rattle.mp_build.specs.SyntaxFaults.{syntax_fault, HasSyntaxFault}

-- ---- faults

-- the place of the first token of an expression
abbrev pub start : Tree → Place
start (Symbol w) = w.place
start (Apply f args) = f.place
start (InfixOf opened sign operands) = opened
start (Wild w) = w.place
start (Optional w others default) = w.place
start (Counted w count more) = w.place
start (Variable x) = x.place

-- the faults of a term alone: it is too large, at its first token; and its faults by token
abbrev pub term_alone_faults : Sig → Tree → List TextFault
term_alone_faults sig t = fault_if (is_large_term t) TooMany (start t) ++ term_faults sig t

-- the faults of a pattern alone, in the same way
abbrev pub pattern_alone_faults : Sig → Tree → List TextFault
pattern_alone_faults sig p = fault_if (is_large_pattern p) TooMany (start p) ++ whole_pattern_faults sig p

-- ---- values

-- the bytes are a syntax tree without faults, which has this value
pub record IsValueOf {S A : Type 0} (IsSyntax : List ℕ → S → Type 0) (faults : S → List TextFault) (value : S → A)
    (bytes : List ℕ) (v : A) : Type 0 where
  pub syntax_tree : S
  pub syntax : IsSyntax bytes syntax_tree
  pub faultless : faults syntax_tree ≡ []
  pub is : v ≡ value syntax_tree

-- the normal form of the term that an expression stands for
abbrev pub normal_term_of : Sig → Tree → term.Tree
normal_term_of sig t = normal sig (term_of sig t)

-- the bytes are a term, of which this is the normal form
abbrev pub IsTermOf : Sig → List ℕ → term.Tree → Type 0
IsTermOf sig = IsValueOf IsExprOf (term_alone_faults sig) (normal_term_of sig)

-- the bytes are this pattern, as it is written, with its defaults in normal form
abbrev pub IsPatternOf : Sig → List ℕ → pattern.Pattern → Type 0
IsPatternOf sig = IsValueOf IsExprOf (pattern_alone_faults sig) (pattern_of sig)

-- the fault of the bytes as a text of this sort: the first that tokens and grammar have, or else the first of the
-- syntax tree that they are
abbrev pub IsFaultBy : {S : Type 0} → begins.Text → (List ℕ → S → Type 0) → (S → List TextFault) → List ℕ → TextFault
    → Type 0
IsFaultBy {S = S} sort IsSyntax faults bytes f = HasSyntaxFault sort bytes f
    ⊎ ((s : S) × IsSyntax bytes s × (first (faults s) ≡ Some f))

-- the bytes are no term, for this fault
abbrev pub IsTermFaultOf : Sig → List ℕ → TextFault → Type 0
IsTermFaultOf sig = IsFaultBy OfExpr IsExprOf (term_alone_faults sig)

-- the bytes are no pattern, for this fault
abbrev pub IsPatternFaultOf : Sig → List ℕ → TextFault → Type 0
IsPatternFaultOf sig = IsFaultBy OfExpr IsExprOf (pattern_alone_faults sig)

-- ---- answers

-- the fault of tokens or grammar is told, or memory ran out
abbrev pub Tells : {T : Type 0} → Fault → Result T TextError → Type 0
Tells f (Ok v) = ⊥
Tells f (Err (Text t)) = t ≡ syntax_fault f
Tells f (Err Memory) = Unit {0}

-- what is answered to the syntax tree that is read, or to its fault
abbrev pub Answers : {S T A : Type 0} → (S → List TextFault) → (S → A) → (T → A) → Result S Fault → Result T TextError
    → Type 0
Answers faults value view (Ok s) r = Gives r (faults s) (λ v. view v ≡ value s)
Answers faults value view (Err f) r = Tells f r

-- a value of which the fact holds, or memory ran out
abbrev pub IsValueOrMemory : {T : Type 0} → Result T TextError → (T → Type 0) → Type 0
IsValueOrMemory (Ok v) P = P v
IsValueOrMemory (Err (Text f)) P = ⊥
IsValueOrMemory (Err Memory) P = Unit {0}
