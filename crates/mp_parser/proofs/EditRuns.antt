-- Steps of the machine over edits.
use Rattle.std.proofs.Common.{◌≡◌, true, false, List, [], ◌∷◌, ◌++◌, refl}
use Rattle.mp_parser.specs.declared.token.Punct.TheVariants.{OpenSquare, CloseSquare, Comma, Semicolon, Dot}
use Rattle.mp_parser.specs.Tokens.{Placed}
use Rattle.mp_parser.specs.Syntax as syntax
use Rattle.mp_parser.specs.Syntax.{Spot, Tree, trees, Position, Root, Path, Change, EditOf, Statement}
use Rattle.mp_parser.specs.Machine.{Edited, change, with_change, InChange, Listing, BeforeExpr, AfterExpr}
use Rattle.mp_parser.specs.Machine.{BeforeChange, AfterPosition, BeforeIndex, AfterArrow, AfterSquare, AfterChange}
use Rattle.mp_parser.specs.Machine.{Go, Emit, is_punct, is_arrow, step, run}
use Rattle.mp_parser.specs.Parsing.{WantsPunct, WantsNumber}

-- the dot is the root
pub root-step : (d : Edited) (t : Placed) → is_punct Dot t.token ≡ true
    → step (BeforeChange d) t ≡ Go (AfterPosition d (Root t.place))
root-step d t h = rw h refl

-- any other position begins with a number
pub wants-first : (d : Edited) (t : Placed) → is_punct Dot t.token ≡ false
    → WantsNumber t (BeforeChange d) (λ w. AfterPosition d (Path w []))
wants-first d t h = rw h refl

-- behind a number, where no arrow stands, there is a dot
pub wants-dot : (d : Edited) (first : Spot) (others : List Spot) (t : Placed) → is_arrow t.token ≡ false
    → WantsPunct t (AfterPosition d (Path first others)) Dot (Go (BeforeIndex d first others))
wants-dot d first others t h = rw h refl

-- the arrow stands behind a position
pub arrow-step : (d : Edited) (p : Position) (t : Placed) → is_arrow t.token ≡ true
    → step (AfterPosition d p) t ≡ Go (AfterArrow d p)
arrow-step d p t h = rw h refl

-- a square bracket begins a list
pub list-opens : (d : Edited) (p : Position) (t : Placed) → is_punct OpenSquare t.token ≡ true
    → step (AfterArrow d p) t ≡ Go (AfterSquare d p)
list-opens d p t h = rw h refl

-- any other token begins an expression
pub single-begins : (done : List Statement) (d : Edited) (p : Position) (t : Placed) (ts : List Placed)
    → is_punct OpenSquare t.token ≡ false
    → run done (AfterArrow d p) (t ∷ ts) ≡ run done (BeforeExpr (InChange d p) []) (t ∷ ts)
single-begins done d p t ts h = rw h refl

-- behind that expression the change is read
pub single-ends : (done : List Statement) (d : Edited) (p : Position) (e : Tree) (ts : List Placed)
    → run done (AfterExpr (InChange d p) [] e) ts ≡ run done (AfterChange d (change p (syntax.Single e))) ts
single-ends done d p e [] = refl
single-ends done d p e (t ∷ ts) = refl

-- a list that is closed at once has no expressions
pub list-closes : (d : Edited) (p : Position) (t : Placed) → is_punct CloseSquare t.token ≡ true
    → step (AfterSquare d p) t ≡ Go (AfterChange d (change p (syntax.Listed (trees []))))
list-closes d p t h = rw h refl

-- any other begins with one
pub list-begins : (done : List Statement) (d : Edited) (p : Position) (t : Placed) (ts : List Placed)
    → is_punct CloseSquare t.token ≡ false
    → run done (AfterSquare d p) (t ∷ ts) ≡ run done (BeforeExpr (InChange d p) (Listing [] ∷ [])) (t ∷ ts)
list-begins done d p t ts h = rw h refl

-- a comma behind a change leads to another one
pub change-again : (d : Edited) (c : Change) (t : Placed) → is_punct Comma t.token ≡ true
    → step (AfterChange d c) t ≡ Go (BeforeChange (with_change d c))
change-again d c t h = rw h refl

-- where none follows, there is the semicolon
pub changes-end : (d : Edited) (c : Change) (t : Placed) → is_punct Comma t.token ≡ false
    → WantsPunct t (AfterChange d c) Semicolon (Emit (EditOf d.subject (d.changes ++ c ∷ [])))
changes-end d c t h = rw h refl
