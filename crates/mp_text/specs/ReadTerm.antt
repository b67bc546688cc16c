-- Terms that are read without a tree of their expressions.
use Rattle.std.specs.Prelude.{◌≡◌, ℕ, List, [], ◌∷◌, ◌++◌, false, map}
use Rattle.mp_term.specs.Tree as term
use Rattle.mp_term.specs.Signature.{Sig}
use Rattle.mp_parser.specs.Tokens.{Placed}
use Rattle.mp_parser.specs.Syntax.{Spot, Tree, Statement, Apply, SubjectOf, trees}
use Rattle.mp_parser.specs.Machine.{State, Top, BeforeExpr, AfterExpr, Within, Frame, Arguments, run}
use Rattle.mp_parser.specs.Parsing.{HasRoom}
use Rattle.mp_build.specs.Build.{term_of}
use Rattle.mp_build.specs.Checks.{nodes, all_nodes, has_large_default, some_large_default, is_large_term}
use Rattle.mp_build.specs.Checks.{term_faults, all_term_faults}

module _ (sig : Sig) where
  -- An expression is passed, with room brackets more to open: it has so many nodes and no fault as a term, which is
  -- this one.
  pub record IsTermRead (at : Within → List Frame → State) (room number : ℕ) (t : term.Tree) (old new : List Placed)
      : Type 0 where
    pub expr : Tree
    pub read : (done : List Statement) (x : Within) (k : List Frame) → HasRoom k room
        → run done (at x k) old ≡ run done (AfterExpr x k expr) new
    pub faultless : term_faults sig expr ≡ []
    pub term : t ≡ term_of sig expr
    pub count : number ≡ nodes expr
    pub small : has_large_default expr ≡ false

  -- The same of the arguments of an operation, and of the bracket that closes them.
  pub record AreArgumentsRead (room number : ℕ) (ts : List term.Tree) (old new : List Placed) : Type 0 where
    pub exprs : List Tree
    pub read : (done : List Statement) (x : Within) (k : List Frame) (f : Spot)
        → ((es : List Tree) → HasRoom (Arguments f es ∷ k) room)
        → run done (BeforeExpr x (Arguments f [] ∷ k)) old ≡ run done (AfterExpr x k (Apply f (trees exprs))) new
    pub faultless : all_term_faults sig (trees exprs) ≡ []
    pub terms : ts ≡ map (term_of sig) exprs
    pub count : number ≡ all_nodes (trees exprs)
    pub small : some_large_default (trees exprs) ≡ false

  -- A statement is passed, which gives a subject of this name a term without a fault, which is this one.
  pub record IsSubjectRead (name : Spot) (t : term.Tree) (old new : List Placed) : Type 0 where
    pub expr : Tree
    pub read : (done : List Statement) → run done Top old ≡ run (done ++ SubjectOf name expr ∷ []) Top new
    pub faultless : term_faults sig expr ≡ []
    pub term : t ≡ term_of sig expr
    pub small : is_large_term expr ≡ false
