-- Steps of the machine, and runs over one token.
use Rattle.std.proofs.Common.{◌≡◌, ℕ, suc, ◌<◌, ◌≤◌, true, false, cond, List, [], ◌∷◌, ◌++◌, length, Option, Some, None}
use Rattle.std.proofs.Common.{Result, Ok, Err, refl, ap, sym, subst, ◌∙◌, arith}
use Rattle.std.specs.Prelude.{◌&&◌, IsErrAnd}
use Rattle.std.proofs.lemmas.Bool.{lt-leb, and_parts}
use Rattle.mp_parser.specs.declared.limits.TheConstants.{MAX_OPEN}
use Rattle.mp_parser.specs.declared.place.Place.{Place}
use Rattle.mp_parser.specs.declared.token.Punct.{Punct}
use Rattle.mp_parser.specs.declared.token.Punct.TheVariants.{Open, Close, Comma, Colon, Semicolon, Dollar, OpenBrace}
use Rattle.mp_parser.specs.declared.fault.Fault.{Fault}
use Rattle.mp_parser.specs.declared.tree.Expr.{Expr}
use Rattle.mp_parser.specs.declared.fault.SyntaxError.{SyntaxError}
use Rattle.mp_parser.specs.declared.fault.SyntaxError.TheVariants as errors
use Rattle.mp_parser.specs.Tokens as tokens
use Rattle.mp_parser.specs.Tokens.{Token, Word, Sign, Arrow, Punctuation, End, Placed}
use Rattle.mp_parser.specs.Lexing.{behind}
use Rattle.mp_parser.specs.Syntax.{Spot, Wildcard, Tree, Apply, InfixOf, Symbol, Wild, Optional, Variable, more_trees}
use Rattle.mp_parser.specs.Syntax.{trees, HasNoDefault, KindOf, Statement, Counted}
use Rattle.mp_parser.specs.Machine.{run_in, step_in, spot, State, Step, Go, Emit, Within, Parsed, Frame, Arguments}
use Rattle.mp_parser.specs.Machine.{Bracket, Operands, Default, open_count, BeforeMember, AfterMember, BeforeExpr}
use Rattle.mp_parser.specs.Machine.{AfterWord, AfterOpen, AfterWildcard, AfterExpr, AfterDollar, is_punct, is_sign}
use Rattle.mp_parser.specs.Machine.{word_of, wildcard_at, is_dot, with_default, refuse, step, run, AfterBrace}
use Rattle.mp_parser.specs.Machine.{on_punct, is_arrow}
use Rattle.mp_parser.specs.Parsing.{HasRoomIn, onward, WantsPunct, Fails, Reading, Passes, within_defaults, IsRow}
use Rattle.mp_parser.specs.Parsing.{IsTreeOrMemory}
use Rattle.mp_parser.specs.View.{expr_tree}

-- behind a punctuation character lie the other tokens
pub behind-punct : (p : Punct) (t : Token) (ts : List Placed) → is_punct p t ≡ true → behind t ts ≡ ts
behind-punct p End ts h = absurd cc
behind-punct p _ ts h = refl

-- behind a sign lie the other tokens
behind-sign : (text : List ℕ) (t : Token) (ts : List Placed) → is_sign text t ≡ true → behind t ts ≡ ts
behind-sign text (Sign s) ts h = refl
behind-sign text _ ts h = absurd cc

-- what passes a punctuation character leaves one token less
pub length-passed : (p : Punct) (t : Placed) (old new : List Placed) → old ≡ t ∷ behind t.token new
    → is_punct p t.token ≡ true → length old ≡ suc (length new)
length-passed p t old new e h = ap length (e ∙ ap (λ ts. t ∷ ts) (behind-punct p t.token new h))

-- the same of a sign
pub length-passed_sign : (text : List ℕ) (t : Placed) (old new : List Placed) → old ≡ t ∷ behind t.token new
    → is_sign text t.token ≡ true → length old ≡ suc (length new)
length-passed_sign text t old new e h = ap length (e ∙ ap (λ ts. t ∷ ts) (behind-sign text t.token new h))

-- a fault stays one along an equation
pub fails-along : (e : SyntaxError) (a b : Result Parsed Fault) → a ≡ b → Fails e b → Fails e a
fails-along errors.Memory a b p h = tt
fails-along (errors.Fault f) a b p h = p ∙ h

-- what is passed from a later state on is passed from the one that leads to it
pub passes-along : {A : Type 0} (from mid : Reading) (to : A → Reading) (r : Result A SyntaxError)
    (old here new : List Placed)
    → from old ≡ mid here → Passes mid to r here new → Passes from to r old new
passes-along from mid to (Ok a) old here new e h = e ∙ h
passes-along from mid to (Err f) old here new e h = fails-along f _ _ e h

-- a `?` hands on a fault that is the one that is read
pub breaks : {A : Type 0} (from : Reading) (to : A → Reading) (r : Result A SyntaxError) (e : SyntaxError)
    (read : Result Parsed Fault) (old new : List Placed)
    → IsErrAnd r (λ f. f ≡ e) → from old ≡ read → Fails e read → Passes from to r old new
breaks from to (Ok a) e read old new h p q = absurd h
breaks from to (Err f) e read old new h p q =
    subst (λ g. Fails g (from old)) (sym h) (fails-along e (from old) read p q)

-- what holds of a fault holds of the result that hands it on
pub breaks-so : {A : Type 0} (P : Result A SyntaxError → Type 0) (r : Result A SyntaxError) (e : SyntaxError)
    → IsErrAnd r (λ f. f ≡ e) → P (Err e) → P r
breaks-so P (Ok a) e h p = absurd h
breaks-so P (Err f) e h p = subst (λ g. P (Err g)) (sym h) p

-- a tree that is made, unless memory runs out, is passed where its parts are
pub passes-made : (from : Reading) (done : List Statement) (x : Within) (k : List Frame) (t : Tree)
    (r : Result Expr SyntaxError) (old new : List Placed)
    → from old ≡ run done (AfterExpr x k t) new → IsTreeOrMemory t r
    → Passes from (λ e. run done (AfterExpr x k (expr_tree e))) r old new
passes-made from done x k t (Ok e) old new p h = p ∙ ap (λ u. run done (AfterExpr x k u) new) (sym h)
passes-made from done x k t (Err e) old new p h = subst (λ f. Fails f (from old)) (sym h) tt

-- a bracket is no word
pub bracket-no_word : (t : Token) → is_punct Open t ≡ true → word_of t ≡ None
bracket-no_word (Punctuation p) h = refl
bracket-no_word _ h = absurd cc

-- a wildcard is no bracket
no_bracket : (t : Token) (place : Place) (w : Wildcard) → wildcard_at t place ≡ Some w → is_punct Open t ≡ false
no_bracket (tokens.Wildcard name marks kind) place w h = refl
no_bracket _ place w h = absurd cc

-- a wildcard is no word
no_word : (t : Token) (place : Place) (w : Wildcard) → wildcard_at t place ≡ Some w → word_of t ≡ None
no_word (tokens.Wildcard name marks kind) place w h = refl
no_word _ place w h = absurd cc

-- the wildcards of a chain with this default
abbrev pub chained : List Wildcard → Tree → Tree
chained [] e = e
chained (w ∷ ws) e = with_default w (chained ws e)

-- a chain whose default is no wildcard with a default is one optional wildcard
pub chained-optional : (w : Wildcard) (ws : List Wildcard) (e : Tree) → HasNoDefault e
    → chained (w ∷ ws) e ≡ Optional w ws e
chained-optional w [] (Symbol s) h = refl
chained-optional w [] (Apply f args) h = refl
chained-optional w [] (InfixOf place sign operands) h = refl
chained-optional w [] (Wild v) h = refl
chained-optional w [] (Counted v count more) h = refl
chained-optional w [] (Optional v vs e) h = absurd h
chained-optional w [] (Variable v) h = refl
chained-optional w (v ∷ ws) e h = ap (with_default w) (chained-optional v ws e h)

-- a chain opens no bracket
pub open_count-within_defaults : (ws : List Wildcard) (k : List Frame)
    → open_count (within_defaults ws k) ≡ open_count k
open_count-within_defaults [] k = refl
open_count-within_defaults (w ∷ ws) k = open_count-within_defaults ws (Default w ∷ k)

-- one wildcard more in a chain
pub within_defaults-push : (ws : List Wildcard) (w : Wildcard) (k : List Frame)
    → within_defaults (ws ++ w ∷ []) k ≡ Default w ∷ within_defaults ws k
within_defaults-push [] w k = refl
within_defaults-push (v ∷ ws) w k = within_defaults-push ws w (Default v ∷ k)

module _ (limit : ℕ) where
  -- behind an operand the sign leads on
  pub operand-again : (x : Within) (place : Place) (sign : Spot) (first : Tree) (others : List Tree) (k : List Frame)
      (e : Tree) (t : Placed) → is_sign sign.text t.token ≡ true
      → step_in limit (AfterExpr x (Operands place sign first others ∷ k) e) t
      ≡ Go (BeforeExpr x (Operands place sign first (others ++ e ∷ []) ∷ k))
  operand-again x place sign first others k e t is = rw is refl

  -- the bracket of an application, where there is room
  pub word-opens : (x : Within) (k : List Frame) (w : Spot) (t : Placed) (room : ℕ) → HasRoomIn limit k room → 0 < room
      → is_punct Open t.token ≡ true → step_in limit (AfterWord x k w) t ≡ Go (AfterOpen x k w)
  word-opens x k w t room len some e = rw (e, lt-leb limit (open_count k) (omega (arith, len, some))) refl

  -- an application that is not closed at once has an argument
  pub open-expr : (done : List Statement) (x : Within) (k : List Frame) (w : Spot) (t : Placed) (ts : List Placed)
      → is_punct Close t.token ≡ false → run_in limit done (AfterOpen x k w) (t ∷ ts)
      ≡ run_in limit done (BeforeExpr x (Arguments w [] ∷ k)) (t ∷ ts)
  open-expr done x k w t ts e = rw e refl

  -- the same where there is room
  pub bracket-opens : (x : Within) (k : List Frame) (t : Placed) (room : ℕ) → HasRoomIn limit k room → 0 < room
      → is_punct Open t.token ≡ true → step_in limit (BeforeExpr x k) t ≡ Go (BeforeExpr x (Bracket t.place ∷ k))
  bracket-opens x k t room len some e =
      rw (bracket-no_word t.token e, e, lt-leb limit (open_count k) (omega (arith, len, some))) refl

  -- a wildcard leads to what may stand behind it
  pub wildcard-step : (x : Within) (k : List Frame) (t : Placed) (w : Wildcard) → wildcard_at t.token t.place ≡ Some w
      → step_in limit (BeforeExpr x k) t ≡ Go (AfterWildcard x k w)
  wildcard-step x k t w e = rw (no_word t.token t.place w e, no_bracket t.token t.place w e, e) refl

  -- a colon behind a wildcard with one underscore and no kind leads to its default
  pub default-step : (x : Within) (k : List Frame) (w : Wildcard) (t : Placed)
      → (is_punct Colon t.token && is_dot w) ≡ true
      → step_in limit (AfterWildcard x k w) t ≡ Go (BeforeExpr x (Default w ∷ k))
  default-step x k w t e = rw e refl

  -- a brace behind such a wildcard leads to its count
  pub count-step : (x : Within) (k : List Frame) (w : Wildcard) (t : Placed)
      → (is_punct Colon t.token && is_dot w) ≡ false → (is_punct OpenBrace t.token && is_dot w) ≡ true
      → step_in limit (AfterWildcard x k w) t ≡ Go (AfterBrace x k w)
  count-step x k w t e f = rw (e, f) refl

  -- a wildcard that neither a count nor a default follows is the expression
  pub wildcard-alone : (done : List Statement) (x : Within) (k : List Frame) (w : Wildcard) (t : Placed)
      (ts : List Placed) → (is_punct Colon t.token && is_dot w) ≡ false
      → (is_punct OpenBrace t.token && is_dot w) ≡ false
      → run_in limit done (AfterWildcard x k w) (t ∷ ts) ≡ run_in limit done (AfterExpr x k (Wild w)) (t ∷ ts)
  wildcard-alone done x k w t ts e f = rw (e, f) refl

  -- behind a default the wildcard with it is read
  default-behind : (done : List Statement) (x : Within) (k : List Frame) (w : Wildcard) (e : Tree) (ts : List Placed)
      → run_in limit done (AfterExpr x (Default w ∷ k) e) ts ≡ run_in limit done (AfterExpr x k (with_default w e)) ts
  default-behind done x k w e [] = refl
  default-behind done x k w e (t ∷ ts) = refl

  -- behind the default of a chain all its wildcards are read
  pub defaults-behind : (done : List Statement) (x : Within) (ws : List Wildcard) (k : List Frame) (e : Tree)
      (ts : List Placed)
      → run_in limit done (AfterExpr x (within_defaults ws k) e) ts
      ≡ run_in limit done (AfterExpr x k (chained ws e)) ts
  defaults-behind done x [] k e ts = refl
  defaults-behind done x (w ∷ ws) k e ts = defaults-behind done x ws (Default w ∷ k) e ts
      ∙ default-behind done x k w (chained ws e) ts

-- one step over a token that isn't the end
pub one-step : (done : List Statement) (at : State) (t : Placed) (new : List Placed) (s : Step)
    → behind t.token new ≡ new → step at t ≡ s → run done at (t ∷ behind t.token new) ≡ onward t.place done s new
one-step done at t new s e f = ap (λ ts. onward t.place done (step at t) ts) e ∙ ap (λ s. onward t.place done s new) f

-- a step over a punctuation character
pub over-punct : (p : Punct) (t : Placed) (old new : List Placed) → old ≡ t ∷ behind t.token new
    → is_punct p t.token ≡ true → (done : List Statement) (at : State) (next : Step) → step at t ≡ next
    → run done at old ≡ onward t.place done next new
over-punct p t old new e h done at next f =
    ap (run done at) e ∙ one-step done at t new next (behind-punct p t.token new h) f

-- a step over a sign
pub over-sign : (text : List ℕ) (t : Placed) (old new : List Placed) → old ≡ t ∷ behind t.token new
    → is_sign text t.token ≡ true → (done : List Statement) (at : State) (next : Step) → step at t ≡ next
    → run done at old ≡ onward t.place done next new
over-sign text t old new e h done at next f =
    ap (run done at) e ∙ one-step done at t new next (behind-sign text t.token new h) f

-- behind the arrow lie the other tokens
behind-arrow : (t : Token) (ts : List Placed) → is_arrow t ≡ true → behind t ts ≡ ts
behind-arrow Arrow ts h = refl
behind-arrow _ ts h = absurd cc

-- a step over the arrow
pub over-arrow : (t : Placed) (old new : List Placed) → old ≡ t ∷ behind t.token new → is_arrow t.token ≡ true
    → (done : List Statement) (at : State) (next : Step) → step at t ≡ next
    → run done at old ≡ onward t.place done next new
over-arrow t old new e h done at next f =
    ap (run done at) e ∙ one-step done at t new next (behind-arrow t.token new h) f

-- what passes it leaves one token less
pub length-passed_arrow : (t : Placed) (old new : List Placed) → old ≡ t ∷ behind t.token new
    → is_arrow t.token ≡ true → length old ≡ suc (length new)
length-passed_arrow t old new e h = ap length (e ∙ ap (λ ts. t ∷ ts) (behind-arrow t.token new h))

-- a punctuation character that the state has
pub passes-punct : (p : Punct) (t : Placed) (old new : List Placed) → old ≡ t ∷ behind t.token new
    → is_punct p t.token ≡ true → (done : List Statement) (at : State) (next : Step) → WantsPunct t at p next
    → run done at old ≡ onward t.place done next new
passes-punct p t old new e h done at next wants =
    over-punct p t old new e h done at next (wants ∙ ap (λ b. cond b next (refuse t.token)) h)

-- behind an expression of a row, where no comma follows, the bracket closes
pub row-closes : (ending : Punct) (x : Within) (k : List Frame) (frame : List Tree → Frame) (to : List Tree → State)
    → IsRow ending x k frame to → (es : List Tree) (e : Tree) (t : Placed) → is_punct Comma t.token ≡ false
    → WantsPunct t (AfterExpr x (frame es ∷ k) e) ending (Go (to (es ++ e ∷ [])))
row-closes ending x k frame to row es e t no_comma =
    row es e t
    ∙ ap (λ v. cond v (Go (BeforeExpr x (frame (es ++ e ∷ []) ∷ k)))
    (on_punct ending t.token (Go (to (es ++ e ∷ []))))) no_comma

-- the comma leads on
pub row-again : (ending : Punct) (x : Within) (k : List Frame) (frame : List Tree → Frame) (to : List Tree → State)
    → IsRow ending x k frame to → (es : List Tree) (e : Tree) (t : Placed) → is_punct Comma t.token ≡ true
    → step (AfterExpr x (frame es ∷ k) e) t ≡ Go (BeforeExpr x (frame (es ++ e ∷ []) ∷ k))
row-again ending x k frame to row es e t comma =
    row es e t
    ∙ ap (λ v. cond v (Go (BeforeExpr x (frame (es ++ e ∷ []) ∷ k)))
    (on_punct ending t.token (Go (to (es ++ e ∷ []))))) comma

-- behind an operand that is read, where the sign doesn't follow, the bracket closes
pub operand-closes : (x : Within) (place : Place) (sign : Spot) (first : Tree) (others : List Tree) (k : List Frame)
    (e : Tree) (t : Placed) → is_sign sign.text t.token ≡ false
    → WantsPunct t (AfterExpr x (Operands place sign first others ∷ k) e) Close
    (Go (AfterExpr x k (InfixOf place sign (more_trees first (trees (others ++ e ∷ []))))))
operand-closes x place sign first others k e t no-sign = rw no-sign refl

-- an application without arguments
pub open-closes : (x : Within) (k : List Frame) (w : Spot) (t : Placed) → is_punct Close t.token ≡ true
    → step (AfterOpen x k w) t ≡ Go (AfterExpr x k (Apply w (trees [])))
open-closes x k w t e = rw e refl

-- a word begins an expression
pub word-begins : (done : List Statement) (x : Within) (k : List Frame) (t : Placed) (w : List ℕ)
    (old new : List Placed)
    → old ≡ t ∷ behind t.token new → t.token ≡ Word w
    → run done (BeforeExpr x k) old ≡ run done (AfterWord x k (spot w t.place)) new
word-begins done x k t w old new e h = ap (run done (BeforeExpr x k)) e
    ∙ (λ i. run done (BeforeExpr x k) (record { token = h i; place = t.place } ∷ behind (h i) new))

-- a wildcard begins an expression
pub wildcard-begins : (done : List Statement) (x : Within) (k : List Frame) (t : Placed) (name : List ℕ) (marks : ℕ)
    (kind : List ℕ) (old new : List Placed)
    → old ≡ t ∷ behind t.token new → t.token ≡ tokens.Wildcard name marks kind
    → run done (BeforeExpr x k) old
    ≡ run done (AfterWildcard x k (record { name = name; marks = marks; kind = kind; place = t.place })) new
wildcard-begins done x k t name marks kind old new e h = ap (run done (BeforeExpr x k)) e
    ∙ (λ i. run done (BeforeExpr x k) (record { token = h i; place = t.place } ∷ behind (h i) new))

-- how far an expression that begins with this wildcard, or with none, is above what stands in it
abbrev pub levels : Option Wildcard → ℕ
levels (Some w) = 5
levels None = 2

-- it is 2 or more
pub levels-least : (o : Option Wildcard) → 2 ≤ levels o
levels-least (Some w) = omega arith
levels-least None = omega arith

-- it is at most 5
pub levels-bound : (o : Option Wildcard) → levels o ≤ 5
levels-bound (Some w) = omega arith
levels-bound None = omega arith

-- the `$` begins a variable
pub dollar-begins : (done : List Statement) (x : Within) (k : List Frame) (t : Placed) (old new : List Placed)
    → old ≡ t ∷ behind t.token new → t.token ≡ Punctuation Dollar
    → run done (BeforeExpr x k) old ≡ run done (AfterDollar x k t.place) new
dollar-begins done x k t old new e h = ap (run done (BeforeExpr x k)) e
    ∙ (λ i. run done (BeforeExpr x k) (record { token = h i; place = t.place } ∷ behind (h i) new))

-- a run over that colon
pub over-default : (t : Placed) (old new : List Placed) → old ≡ t ∷ behind t.token new
    → (done : List Statement) (x : Within) (k : List Frame) (w : Wildcard) → (is_punct Colon t.token && is_dot w) ≡ true
    → run done (AfterWildcard x k w) old ≡ run done (BeforeExpr x (Default w ∷ k)) new
over-default t old new e done x k w h = over-punct Colon t old new e
    (and_parts (is_punct Colon t.token) (is_dot w) h).0 done (AfterWildcard x k w) (Go (BeforeExpr x (Default w ∷ k)))
    (default-step MAX_OPEN x k w t h)

-- a run over the brace of a count
pub over-count : (t : Placed) (old new : List Placed) → old ≡ t ∷ behind t.token new
    → (done : List Statement) (x : Within) (k : List Frame) (w : Wildcard)
    → (is_punct Colon t.token && is_dot w) ≡ false → (is_punct OpenBrace t.token && is_dot w) ≡ true
    → run done (AfterWildcard x k w) old ≡ run done (AfterBrace x k w) new
over-count t old new e done x k w f h = over-punct OpenBrace t old new e
    (and_parts (is_punct OpenBrace t.token) (is_dot w) h).0 done (AfterWildcard x k w) (Go (AfterBrace x k w))
    (count-step MAX_OPEN x k w t f h)

-- behind a member of a kind, where no semicolon follows, there is another member
pub member-again : (done : List Statement) (name : Spot) (members : List Spot) (t : Placed) (ts : List Placed)
    → is_punct Semicolon t.token ≡ false → run done (AfterMember name members) (t ∷ ts)
    ≡ run done (BeforeMember name members) (t ∷ ts)
member-again done name members t ts e = rw e refl

-- behind a member of a kind the semicolon ends the statement
pub members-end : (name : Spot) (members : List Spot) (t : Placed) → is_punct Semicolon t.token ≡ true
    → step (AfterMember name members) t ≡ Emit (KindOf name members)
members-end name members t e = rw e refl
