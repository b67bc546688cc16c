-- Patterns that are read without a tree of their expressions.
use Rattle.std.specs.Prelude.{◌≡◌, ◌≤◌, ℕ, List, [], ◌∷◌, ◌++◌, Bool, true, false, map}
use Rattle.std.specs.List.{AllByRecursion}
use Rattle.mp_term.specs.Signature.{Sig}
use Rattle.mp_pattern.specs.PatternTree.{Pattern}
use Rattle.mp_pattern.specs.SoundRule.{pattern_least, pattern_most, reaches}
use Rattle.mp_parser.specs.declared.limits.TheConstants.{MAX_OPEN}
use Rattle.mp_parser.specs.Tokens.{Placed}
use Rattle.mp_parser.specs.Syntax.{Spot, Tree, Statement, Apply, trees}
use Rattle.mp_parser.specs.Machine.{State, BeforeExpr, AfterExpr, Within, Frame, Arguments, run}
use Rattle.mp_parser.specs.Parsing.{HasRoom}
use Rattle.mp_build.specs.Build.{pattern_of}
use Rattle.mp_build.specs.Checks.{nodes, all_nodes, has_large_default, some_large_default, is_large_pattern}
use Rattle.mp_build.specs.Checks.{pattern_faults, all_pattern_faults, whole_pattern_faults}
use Rattle.mp_build.specs.Wildcards.{PatternWildcard, pattern_wildcards, all_pattern_wildcards}

-- a pattern that may take exactly one argument
abbrev pub MayTakeOne : Pattern → Type 0
MayTakeOne p = (pattern_least p ≤ 1) × ((assoc : Bool) → reaches 1 (pattern_most assoc p) ≡ true)

module _ (sig : Sig) where
  -- An expression is passed, with room brackets more to open: it has so many nodes and no fault as a pattern behind
  -- these wildcards, which is this one and may take exactly one argument; its wildcards are added to them.
  pub record IsPatternRead (at : Within → List Frame → State) (room number : ℕ) (p : Pattern)
      (before after : List PatternWildcard) (old new : List Placed) : Type 0 where
    pub expr : Tree
    pub read : (done : List Statement) (x : Within) (k : List Frame) → HasRoom k room
        → run done (at x k) old ≡ run done (AfterExpr x k expr) new
    pub faultless : pattern_faults sig before expr ≡ []
    pub pattern : p ≡ pattern_of sig expr
    pub one : MayTakeOne p
    pub wildcards : after ≡ before ++ pattern_wildcards sig expr
    pub count : number ≡ nodes expr
    pub small : has_large_default expr ≡ false

  -- The same of the arguments of an operation, and of the bracket that closes them.
  pub record AreArgumentPatternsRead (room number : ℕ) (ps : List Pattern) (before after : List PatternWildcard)
      (old new : List Placed) : Type 0 where
    pub exprs : List Tree
    pub read : (done : List Statement) (x : Within) (k : List Frame) (f : Spot)
        → ((es : List Tree) → HasRoom (Arguments f es ∷ k) room)
        → run done (BeforeExpr x (Arguments f [] ∷ k)) old ≡ run done (AfterExpr x k (Apply f (trees exprs))) new
    pub faultless : all_pattern_faults sig before (trees exprs) ≡ []
    pub patterns : ps ≡ map (pattern_of sig) exprs
    pub ones : AllByRecursion MayTakeOne ps
    pub wildcards : after ≡ before ++ all_pattern_wildcards sig (trees exprs)
    pub count : number ≡ all_nodes (trees exprs)
    pub small : some_large_default (trees exprs) ≡ false

  -- the expression isn't too large and has no fault as the pattern of a rule, which is this one, with these wildcards
  pub record IsWholePatternOf (expr : Tree) (p : Pattern) (ws : List PatternWildcard) : Type 0 where
    pub faultless : whole_pattern_faults sig expr ≡ []
    pub pattern : p ≡ pattern_of sig expr
    pub wildcards : ws ≡ pattern_wildcards sig expr
    pub small : is_large_pattern expr ≡ false

  -- An expression is passed in which no bracket is open yet, and which is so.
  pub record IsWholePatternRead (p : Pattern) (ws : List PatternWildcard) (old new : List Placed) : Type 0 where
    pub expr : Tree
    pub read : (done : List Statement) (x : Within) (k : List Frame) → HasRoom k MAX_OPEN
        → run done (BeforeExpr x k) old ≡ run done (AfterExpr x k expr) new
    pub whole : IsWholePatternOf expr p ws
