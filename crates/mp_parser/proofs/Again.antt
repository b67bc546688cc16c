-- What matches the spelling of an expression is read.
use Rattle.std.proofs.Common.{◌≡◌, ℕ, zero, suc, ◌+◌, Bool, true, false, cond, List, [], ◌∷◌, ◌++◌, Option, Some}
use Rattle.std.proofs.Common.{refl, sym, ap, ◌∙◌, arith, append_assoc}
use Rattle.std.specs.Prelude.{◌&&◌, codes}
use Rattle.std.specs.List.{flat_map}
use Rattle.std.proofs.lemmas.Slice.Eq.{bytes_eq-Decides}
use Rattle.mp_parser.specs.declared.place.Place.{Place}
use Rattle.mp_parser.specs.declared.token.Punct.TheVariants.{Open, Close, Colon, OpenBrace, CloseBrace, OpenSquare}
use Rattle.mp_parser.specs.declared.token.Punct.TheVariants.{CloseSquare}
use Rattle.mp_parser.specs.Tokens.{Token, Punctuation, Placed}
use Rattle.mp_parser.specs.Syntax.{Spot, Wildcard, Tree, Symbol, Apply, InfixOf, Wild, Optional, Variable, Trees}
use Rattle.mp_parser.specs.Syntax.{no_trees, more_trees, trees, tree_list, Statement, Expected, Matches, AllMatch}
use Rattle.mp_parser.specs.Syntax.{spell, spell_first, spell_others, spell_with_colon, spelled_word, spelled_sign}
use Rattle.mp_parser.specs.Syntax.{spelled_wildcard, another, comma, AreDots, Fits, AreFit, Counted, spell_count}
use Rattle.mp_parser.specs.Syntax.{IsNumber, spell_plus, Said, IsDot}
use Rattle.mp_parser.specs.Machine.{run_in, step_in, Frame, Arguments, Bracket, Operands, Default, open_count, Within}
use Rattle.mp_parser.specs.Machine.{State, Top, BeforeExpr, AfterWord, AfterOpen, AfterWildcard, AfterExpr}
use Rattle.mp_parser.specs.Machine.{AfterDollar, Step, Go, Emit, is_punct, is_sign, word_of, sign_of, wildcard_at}
use Rattle.mp_parser.specs.Machine.{is_dot, spot, on_text, on_word, step_expr, after_step, AfterBrace, AfterCount}
use Rattle.mp_parser.specs.Machine.{BeforeBrace, step_number}
use Rattle.mp_parser.specs.Parsing.{HasRoomIn, within_defaults}
use Rattle.mp_parser.proofs.Runs.{word-opens, bracket-opens, open-expr, operand-again, wildcard-step, default-step}
use Rattle.mp_parser.proofs.Runs.{wildcard-alone, defaults-behind, chained-optional, open_count-within_defaults}
use Rattle.mp_parser.proofs.Runs.{count-step}
use Rattle.mp_parser.proofs.Trees.{trees-tree_list, true-is_dot, fits-optional, fits-counted}
use Rattle.mp_parser.specs.declared.token.Punct.{Punct}

-- what matches two spellings in a row is in two parts
pub record Split (ts : List Placed) (a b : List Expected) : Type 0 where
  pub front : List Placed
  pub back : List Placed
  pub parts : ts ≡ front ++ back
  pub first : AllMatch front a
  pub second : AllMatch back b

pub split : (a b : List Expected) (ts : List Placed) → AllMatch ts (a ++ b) → Split ts a b
split [] b ts h = record { front = []; back = ts; parts = refl; first = tt; second = h }
split (m ∷ a) b [] h = absurd h
split (m ∷ a) b (t ∷ ts) h =
    let r = split a b ts h.1 in
    record {
      front = t ∷ r.front;
      back = r.back;
      parts = ap (λ l. t ∷ l) r.parts;
      first = (h.0, r.first);
      second = r.second;
    }

-- a token that matches, and what matches the others
pub record Led (ts : List Placed) (m : Expected) (ms : List Expected) : Type 0 where
  pub token : Placed
  pub others : List Placed
  pub parts : ts ≡ token ∷ others
  pub match : Matches token m
  pub behind : AllMatch others ms

pub led : (m : Expected) (ms : List Expected) (ts : List Placed) → AllMatch ts (m ∷ ms) → Led ts m ms
led m ms [] h = absurd h
led m ms (t ∷ ts) h = record { token = t; others = ts; parts = refl; match = h.0; behind = h.1 }

-- two parts in a row, and the first token of the second
pub joined : (ts front back : List Placed) (t : Placed) (others us : List Placed) → ts ≡ front ++ back
    → back ≡ t ∷ others → ts ++ us ≡ front ++ t ∷ (others ++ us)
joined ts front back t others us e f = ap (λ l. l ++ us) e ∙ append_assoc front back us ∙ ap (λ l. front ++ (l ++ us)) f

-- ---- steps

-- the punctuation character that is wanted
pub punct-taken : (p : Token → Bool) (t : Placed) (k : Token) (a b : Step) → t.token ≡ k → p k ≡ true
    → cond (p t.token) a b ≡ a
punct-taken p t k a b e f = ap (λ v. cond v a b) (ap p e ∙ f)

text-taken : (text_of : Token → Option (List ℕ)) (next : Spot → Step) (t : Placed) (w : Spot)
    → text_of t.token ≡ Some w.text → t.place ≡ w.place → on_text t next (text_of t.token) ≡ next w
text-taken text_of next t w e f = ap (on_text t next) e ∙ ap (λ p. next (spot w.text p)) f

-- a word that matches, where any word leads on
pub word-taken : (next : Spot → Step) (t : Placed) (w : Spot) → Matches t (spelled_word w) → on_word t next ≡ next w
word-taken next t w h = text-taken word_of next t w (ap word_of h.0) h.1

-- a sign that matches, where any sign leads on
pub sign-taken : (next : Spot → Step) (t : Placed) (s : Spot) → Matches t (spelled_sign s)
    → on_text t next (sign_of t.token) ≡ next s
sign-taken next t s h = text-taken sign_of next t s (ap sign_of h.0) h.1

-- ---- expressions

-- what begins with a token of this fact
pub record Begins (P : Placed → Type 0) (ts : List Placed) : Type 0 where
  pub token : Placed
  pub others : List Placed
  pub parts : ts ≡ token ∷ others
  pub is : P token

-- the token continues no expression: it is no opening bracket, no colon and no opening brace
abbrev pub ContinuesNone : Placed → Type 0
ContinuesNone t = (is_punct Open t.token ≡ false) × (is_punct Colon t.token ≡ false)
    × (is_punct OpenBrace t.token ≡ false)

-- each token that matches continues no expression
abbrev pub EachContinuesNone : Expected → Type 0
EachContinuesNone m = (t : Placed) → Matches t m → ContinuesNone t

others-begin : (between : Expected) (ending : Punct) → EachContinuesNone between
    → EachContinuesNone (Said (Punctuation ending)) → (args : Trees) (ts : List Placed)
    → AllMatch ts (spell_others between ending args) → Begins ContinuesNone ts
others-begin between ending none last no_trees [] h = absurd h
others-begin between ending none last no_trees (t ∷ ts) h =
    record { token = t; others = ts; parts = refl; is = last t h.0 }
others-begin between ending none last (more_trees a args) [] h = absurd h
others-begin between ending none last (more_trees a args) (t ∷ ts) h =
    record { token = t; others = ts; parts = refl; is = none t h.0 }

-- the token begins an expression: it closes no bracket and is no square one
abbrev pub BeginsExpr : Placed → Type 0
BeginsExpr t = (is_punct Close t.token ≡ false) × (is_punct CloseSquare t.token ≡ false)
    × (is_punct OpenSquare t.token ≡ false)

-- what spells an expression begins with such a token
pub spell-begins : (t : Tree) (ts : List Placed) → AllMatch ts (spell t) → Begins BeginsExpr ts
spell-begins (Symbol v) [] h = absurd h
spell-begins (Symbol v) (t ∷ ts) h = record {
  token = t;
  others = ts;
  parts = refl;
  is = (ap (is_punct Close) h.0.0, ap (is_punct CloseSquare) h.0.0, ap (is_punct OpenSquare) h.0.0);
}
spell-begins _ [] h = absurd h
spell-begins _ (t ∷ ts) h = record {
  token = t;
  others = ts;
  parts = refl;
  is = (ap (is_punct Close) h.0.0, ap (is_punct CloseSquare) h.0.0, ap (is_punct OpenSquare) h.0.0);
}

-- what matches nothing is nothing
pub nothing : (ts : List Placed) → AllMatch ts [] → ts ≡ []
nothing [] h = refl
nothing (t ∷ ts) h = absurd h

module _ (limit : ℕ) where
  -- ---- steps

  -- a step that leads on
  pub over : (done : List Statement) (at next : State) (t : Placed) (us : List Placed) → step_in limit at t ≡ Go next
      → run_in limit done at (t ∷ us) ≡ run_in limit done next us
  over done at next t us e = ap (after_step done t.place (λ d a. run_in limit d a us)) e

  -- a step that ends a statement
  pub ended : (done : List Statement) (at : State) (s : Statement) (t : Placed) (us : List Placed)
      → step_in limit at t ≡ Emit s
      → run_in limit done at (t ∷ us) ≡ run_in limit (done ++ s ∷ []) Top us
  ended done at s t us e = ap (after_step done t.place (λ d a. run_in limit d a us)) e

  step_expr-word : (x : Within) (k : List Frame) (t : Placed) (w : Spot) → Matches t (spelled_word w)
      → step_expr limit x k t (word_of t.token) ≡ Go (AfterWord x k w)
  step_expr-word x k t w h = rw (h.0, h.1) refl

  -- a wildcard that matches leads on
  wildcard-taken : (x : Within) (k : List Frame) (t : Placed) (w : Wildcard) → Matches t (spelled_wildcard w)
      → step_in limit (BeforeExpr x k) t ≡ Go (AfterWildcard x k w)
  wildcard-taken x k t w h = wildcard-step limit x k t w (λ i. wildcard_at (h.0 i) (h.1 i))

  -- ---- expressions

  module _ (done : List Statement) (x : Within) where
    -- a word that no bracket follows
    word-expr : (k : List Frame) (w : Spot) (u : Placed) (us : List Placed) → is_punct Open u.token ≡ false
        → run_in limit done (AfterWord x k w) (u ∷ us) ≡ run_in limit done (AfterExpr x k (Symbol w)) (u ∷ us)
    word-expr k w u us h = rw h refl

    -- what spells an expression isn't closed at once
    open-spell : (t : Tree) (k : List Frame) (w : Spot) (ts us : List Placed) → AllMatch ts (spell t)
        → run_in limit done (AfterOpen x k w) (ts ++ us)
        ≡ run_in limit done (BeforeExpr x (Arguments w [] ∷ k)) (ts ++ us)
    open-spell t k w ts us h =
        let b = spell-begins t ts h in
        ap (λ l. run_in limit done (AfterOpen x k w) (l ++ us)) b.parts
        ∙ open-expr limit done x k w b.token (b.others ++ us) b.is.0
        ∙ ap (λ l. run_in limit done (BeforeExpr x (Arguments w [] ∷ k)) (l ++ us)) (sym b.parts)

    -- expressions in brackets: the token between them, what closes the bracket, what is open around it, the open
    -- bracket
    -- with those so far, and the state behind it
    pub record IsRow (between : Expected) (ending : Punct) (k : List Frame) (frame : List Tree → Frame)
        (to : List Tree → State) : Type 0 where
      pub closes : (es : List Tree) (e : Tree) (t : Placed) → t.token ≡ Punctuation ending
          → step_in limit (AfterExpr x (frame es ∷ k) e) t ≡ Go (to (es ++ e ∷ []))
      pub separates : (es : List Tree) (e : Tree) (t : Placed) → Matches t between
          → step_in limit (AfterExpr x (frame es ∷ k) e) t ≡ Go (BeforeExpr x (frame (es ++ e ∷ []) ∷ k))
      pub continues_none : EachContinuesNone between
      pub ends_none : EachContinuesNone (Said (Punctuation ending))
      pub opens : (es : List Tree) → open_count (frame es ∷ k) ≡ suc (open_count k)

    arguments-row : (k : List Frame) (name : Spot)
        → IsRow comma Close k (Arguments name) (λ es. AfterExpr x k (Apply name (trees es)))
    arguments-row k name = record {
      closes = λ es e t h. rw h refl;
      separates = λ es e t h. rw h refl;
      continues_none = λ t h. (ap (is_punct Open) h, ap (is_punct Colon) h, ap (is_punct OpenBrace) h);
      ends_none = λ t h. (ap (is_punct Open) h, ap (is_punct Colon) h, ap (is_punct OpenBrace) h);
      opens = λ es. refl;
    }

    operands-row : (k : List Frame) (place : Place) (sign : Spot) (first : Tree)
        → IsRow (another sign) Close k (Operands place sign first)
        (λ es. AfterExpr x k (InfixOf place sign (more_trees first (trees es))))
    operands-row k place sign first = record {
      closes = λ es e t h. rw h refl;
      separates = λ es e t h. operand-again limit x place sign first es k e t
          (ap (is_sign sign.text) h ∙ (bytes_eq-Decides sign.text sign.text).1 refl);
      continues_none = λ t h. (ap (is_punct Open) h, ap (is_punct Colon) h, ap (is_punct OpenBrace) h);
      ends_none = λ t h. (ap (is_punct Open) h, ap (is_punct Colon) h, ap (is_punct OpenBrace) h);
      opens = λ es. refl;
    }

    -- the expression is read, whatever is open
    abbrev pub ReadsExpr : Tree → Type 0
    ReadsExpr e = (k : List Frame) (room : ℕ) (ts : List Placed) (u : Placed) (us : List Placed) → AllMatch ts (spell e)
        → Fits room e → HasRoomIn limit k room → ContinuesNone u
        → run_in limit done (BeforeExpr x k) (ts ++ u ∷ us) ≡ run_in limit done (AfterExpr x k e) (u ∷ us)

    -- the other expressions in brackets are read behind one
    abbrev ReadsOthers : Trees → Type 0
    ReadsOthers args = (between : Expected) (ending : Punct) (k : List Frame) (frame : List Tree → Frame)
        (to : List Tree → State) → IsRow between ending k frame to
        → (room : ℕ) (before : List Tree) (e : Tree) (ts us : List Placed)
        → AllMatch ts (spell_others between ending args) → AreFit room args → HasRoomIn limit k (suc room)
        → run_in limit done (AfterExpr x (frame before ∷ k) e) (ts ++ us)
        ≡ run_in limit done (to (before ++ e ∷ tree_list args)) us

    -- an expression in brackets and the others behind it
    pub row-again : (t : Tree) (args : Trees) → ReadsExpr t → ReadsOthers args
        → (between : Expected) (ending : Punct) (k : List Frame) (frame : List Tree → Frame) (to : List Tree → State)
        → IsRow between ending k frame to
        → (room : ℕ) (before : List Tree) (ts us : List Placed)
        → AllMatch ts (spell t ++ spell_others between ending args) → Fits room t → AreFit room args
        → HasRoomIn limit k (suc room)
        → run_in limit done (BeforeExpr x (frame before ∷ k)) (ts ++ us)
        ≡ run_in limit done (to (before ++ t ∷ tree_list args)) us
    row-again t args read-t read-args between ending k frame to row room before ts us h t-fits args-fit len =
        let r = split (spell t) (spell_others between ending args) ts h in
        let b = others-begin between ending row.continues_none row.ends_none args r.back r.second in
        ap (run_in limit done (BeforeExpr x (frame before ∷ k)))
        (joined ts r.front r.back b.token b.others us r.parts b.parts)
        ∙ read-t (frame before ∷ k) room r.front b.token (b.others ++ us) r.first t-fits
        (omega (arith, len, row.opens before)) b.is
        ∙ ap (λ l. run_in limit done (AfterExpr x (frame before ∷ k) t) (l ++ us)) (sym b.parts)
        ∙ read-args between ending k frame to row room before t r.back us r.second args-fit len

    -- an infix expression, whose operands are read
    infix-again : (t v : Tree) (vs : Trees) → ReadsExpr t → ReadsExpr v → ReadsOthers vs
        → (place : Place) (sign : Spot) (k : List Frame) (room : ℕ) (p : Placed) (ts us : List Placed)
        → AllMatch (p ∷ ts) (spell (InfixOf place sign (more_trees t (more_trees v vs))))
        → AreFit room (more_trees t (more_trees v vs)) → HasRoomIn limit k (suc room)
        → run_in limit done (BeforeExpr x k) (p ∷ (ts ++ us))
        ≡ run_in limit done (AfterExpr x k (InfixOf place sign (more_trees t (more_trees v vs)))) us
    infix-again t v vs read-t read-v read-vs place sign k room p ts us h fits len =
        let r = split (spell t) (spelled_sign sign ∷ (spell v ++ spell_others (another sign) Close vs)) ts h.1 in
        let s = led (spelled_sign sign) (spell v ++ spell_others (another sign) Close vs) r.back r.second in
        over done (BeforeExpr x k) (BeforeExpr x (Bracket place ∷ k)) p (ts ++ us)
        (bracket-opens limit x k p (suc room) len (omega arith) (ap (is_punct Open) h.0.0) ∙ rw h.0.1 refl)
        ∙ ap (run_in limit done (BeforeExpr x (Bracket place ∷ k)))
        (joined ts r.front r.back s.token s.others us r.parts s.parts)
        ∙ read-t (Bracket place ∷ k) room r.front s.token (s.others ++ us) r.first fits.0 (omega (arith, len))
        (ap (is_punct Open) s.match.0, ap (is_punct Colon) s.match.0, ap (is_punct OpenBrace) s.match.0)
        ∙ over done (AfterExpr x (Bracket place ∷ k) t) (BeforeExpr x (Operands place sign t [] ∷ k)) s.token
        (s.others ++ us) (sign-taken (λ w. Go (BeforeExpr x (Operands place w t [] ∷ k))) s.token sign s.match)
        ∙ row-again v vs read-v read-vs (another sign) Close k (Operands place sign t)
        (λ es. AfterExpr x k (InfixOf place sign (more_trees t (trees es)))) (operands-row k place sign t) room
        [] s.others us s.behind fits.1.0 fits.1.1 len
        ∙ ap (λ l. run_in limit done (AfterExpr x k (InfixOf place sign (more_trees t (more_trees v l)))) us)
        (trees-tree_list vs)

    -- wildcards with a colon behind each are read
    chain-again : (ws : List Wildcard) (k : List Frame) (ts us : List Placed)
        → AllMatch ts (flat_map spell_with_colon ws)
        → AreDots ws
        → run_in limit done (BeforeExpr x k) (ts ++ us) ≡ run_in limit done (BeforeExpr x (within_defaults ws k)) us
    chain-again [] k [] us h dots = refl
    chain-again [] k (t ∷ ts) us h dots = absurd h
    chain-again (w ∷ ws) k [] us h dots = absurd h
    chain-again (w ∷ ws) k (t ∷ []) us h dots = absurd h.1
    chain-again (w ∷ ws) k (t ∷ c ∷ ts) us h dots =
        over done (BeforeExpr x k) (AfterWildcard x k w) t (c ∷ ts ++ us) (wildcard-taken x k t w h.0)
        ∙ over done (AfterWildcard x k w) (BeforeExpr x (Default w ∷ k)) c (ts ++ us)
        (default-step limit x k w c (ap (λ u. is_punct Colon u && is_dot w) h.1.0 ∙ true-is_dot w dots.0))
        ∙ chain-again ws (Default w ∷ k) ts us h.1.1 dots.1

    -- a brace, a count, perhaps a plus, and a brace are read
    count-again : (w : Wildcard) (count : Spot) (more : Bool) (k : List Frame) (ts us : List Placed)
        → AllMatch ts (spell_count count more) → IsDot w → IsNumber count
        → run_in limit done (AfterWildcard x k w) (ts ++ us)
        ≡ run_in limit done (AfterExpr x k (Counted w count more)) us
    count-again w count more k [] us h dot number = absurd h
    count-again w count more k (o ∷ []) us h dot number = absurd h.1
    count-again w count more k (o ∷ n ∷ ts) us h dot number =
        over done (AfterWildcard x k w) (AfterBrace x k w) o (n ∷ ts ++ us)
        (count-step limit x k w o (ap (λ u. is_punct Colon u && is_dot w) h.0)
        (ap (λ u. is_punct OpenBrace u && is_dot w) h.0 ∙ true-is_dot w dot))
        ∙ over done (AfterBrace x k w) (AfterCount x k w count) n (ts ++ us)
        (word-taken (λ v. step_number (λ v. AfterCount x k w v) v) n count h.1.0 ∙ rw number refl)
        ∙ behind more ts h.1.1
      where
        behind : (more : Bool) (ts : List Placed) → AllMatch ts (spell_plus more ++ Said (Punctuation CloseBrace) ∷ [])
            → run_in limit done (AfterCount x k w count) (ts ++ us)
            ≡ run_in limit done (AfterExpr x k (Counted w count more)) us
        behind true [] h = absurd h
        behind true (p ∷ []) h = absurd h.1
        behind true (p ∷ c ∷ []) h =
            over done (AfterCount x k w count) (BeforeBrace x k w count true) p (c ∷ us)
            (rw (ap (is_sign (codes "+")) h.0) refl)
            ∙ over done (BeforeBrace x k w count true) (AfterExpr x k (Counted w count true)) c us (rw h.1.0 refl)
        behind true (p ∷ c ∷ t ∷ ts) h = absurd h.1.1
        behind false [] h = absurd h
        behind false (c ∷ []) h =
            over done (AfterCount x k w count) (AfterExpr x k (Counted w count false)) c us (rw h.0 refl)
        behind false (c ∷ t ∷ ts) h = absurd h.1

    mutual
      pub expr-again : (e : Tree) → ReadsExpr e
      expr-again (Symbol w) k room [] u us h fits len n = absurd h
      expr-again (Symbol w) k room (t ∷ []) u us h fits len n =
          over done (BeforeExpr x k) (AfterWord x k w) t (u ∷ us) (step_expr-word x k t w h.0) ∙ word-expr k w u us n.0
      expr-again (Symbol w) k room (t ∷ v ∷ ts) u us h fits len n = absurd h.1
      expr-again (Wild w) k room [] u us h fits len n = absurd h
      expr-again (Wild w) k room (t ∷ []) u us h fits len n =
          over done (BeforeExpr x k) (AfterWildcard x k w) t (u ∷ us) (wildcard-taken x k t w h.0)
          ∙ wildcard-alone limit done x k w u us (ap (λ b. b && is_dot w) n.1) (ap (λ b. b && is_dot w) n.2)
      expr-again (Wild w) k room (t ∷ v ∷ ts) u us h fits len n = absurd h.1
      expr-again (Counted w count more) k room [] u us h fits len n = absurd h
      expr-again (Counted w count more) k room (t ∷ ts) u us h fits len n =
          let f = fits-counted room w count more fits in
          over done (BeforeExpr x k) (AfterWildcard x k w) t (ts ++ u ∷ us) (wildcard-taken x k t w h.0)
          ∙ count-again w count more k ts (u ∷ us) h.1 f.0 f.1
      expr-again (Optional w others default) k room ts u us h fits len n =
          let f = fits-optional room w others default fits in
          let ws = w ∷ others in
          let r = split (flat_map spell_with_colon ws) (spell default) ts h in
          ap (run_in limit done (BeforeExpr x k)) (ap (λ l. l ++ u ∷ us) r.parts ∙ append_assoc r.front r.back (u ∷ us))
          ∙ chain-again ws k r.front (r.back ++ u ∷ us) r.first f.0
          ∙ expr-again default (within_defaults ws k) room r.back u us r.second f.2
          (ap (λ n. n + room) (open_count-within_defaults ws k) ∙ len) n
          ∙ defaults-behind limit done x ws k default (u ∷ us)
          ∙ ap (λ e. run_in limit done (AfterExpr x k e) (u ∷ us)) (chained-optional w others default f.1)
      expr-again (Apply f args) k zero ts u us h fits len n = absurd fits
      expr-again (Apply f args) k (suc room) [] u us h fits len n = absurd h
      expr-again (Apply f args) k (suc room) (t ∷ []) u us h fits len n = absurd h.1
      expr-again (Apply f args) k (suc room) (t ∷ o ∷ ts) u us h fits len n =
          over done (BeforeExpr x k) (AfterWord x k f) t (o ∷ ts ++ u ∷ us) (step_expr-word x k t f h.0)
          ∙ over done (AfterWord x k f) (AfterOpen x k f) o (ts ++ u ∷ us)
          (word-opens limit x k f o (suc room) len (omega arith) (ap (is_punct Open) h.1.0))
          ∙ first-again args k f room ts (u ∷ us) h.1.1 fits len
      expr-again (InfixOf place sign operands) k zero ts u us h fits len n = absurd fits
      expr-again (InfixOf place sign no_trees) k (suc room) ts u us h fits len n = absurd fits.0
      expr-again (InfixOf place sign (more_trees t no_trees)) k (suc room) ts u us h fits len n = absurd fits.0
      expr-again (InfixOf place sign (more_trees t (more_trees v vs))) k (suc room) [] u us h fits len n = absurd h
      expr-again (InfixOf place sign (more_trees t (more_trees v vs))) k (suc room) (p ∷ ts) u us h fits len n =
          infix-again t v vs (expr-again t) (expr-again v) (others-again vs) place sign k room p ts
          (u ∷ us) h fits.1 len
      expr-again (Variable w) k room [] u us h fits len n = absurd h
      expr-again (Variable w) k room (t ∷ []) u us h fits len n = absurd h.1
      expr-again (Variable w) k room (t ∷ v ∷ []) u us h fits len n =
          over done (BeforeExpr x k) (AfterDollar x k w.place) t (v ∷ u ∷ us) (rw (h.0.0, h.0.1) refl)
          ∙ over done (AfterDollar x k w.place) (AfterExpr x k (Variable w)) v (u ∷ us) (rw h.1.0 refl)
      expr-again (Variable w) k room (t ∷ v ∷ y ∷ ts) u us h fits len n = absurd h.1.1

      -- arguments are read behind their bracket
      first-again : (args : Trees) (k : List Frame) (w : Spot) (room : ℕ) (ts us : List Placed)
          → AllMatch ts (spell_first comma Close args) → AreFit room args → HasRoomIn limit k (suc room)
          → run_in limit done (AfterOpen x k w) (ts ++ us) ≡ run_in limit done (AfterExpr x k (Apply w args)) us
      first-again no_trees k w room [] us h fits len = absurd h
      first-again no_trees k w room (t ∷ []) us h fits len =
          over done (AfterOpen x k w) (AfterExpr x k (Apply w no_trees)) t us (rw h.0 refl)
      first-again no_trees k w room (t ∷ v ∷ ts) us h fits len = absurd h.1
      first-again (more_trees t args) k w room ts us h fits len =
          let r = split (spell t) (spell_others comma Close args) ts h in
          ap (run_in limit done (AfterOpen x k w)) (ap (λ l. l ++ us) r.parts ∙ append_assoc r.front r.back us)
          ∙ open-spell t k w r.front (r.back ++ us) r.first
          ∙ ap (run_in limit done (BeforeExpr x (Arguments w [] ∷ k)))
          (sym (ap (λ l. l ++ us) r.parts ∙ append_assoc r.front r.back us))
          ∙ row-again t args (expr-again t) (others-again args) comma Close k (Arguments w)
          (λ es. AfterExpr x k (Apply w (trees es))) (arguments-row k w) room [] ts us h fits.0 fits.1 len
          ∙ ap (λ l. run_in limit done (AfterExpr x k (Apply w (more_trees t l))) us) (trees-tree_list args)

      pub others-again : (args : Trees) → ReadsOthers args
      others-again no_trees between ending k frame to row room before e [] us h fits len = absurd h
      others-again no_trees between ending k frame to row room before e (t ∷ []) us h fits len =
          over done (AfterExpr x (frame before ∷ k) e) (to (before ++ e ∷ [])) t us (row.closes before e t h.0)
      others-again no_trees between ending k frame to row room before e (t ∷ v ∷ ts) us h fits len = absurd h.1
      others-again (more_trees t args) between ending k frame to row room before e [] us h fits len = absurd h
      others-again (more_trees t args) between ending k frame to row room before e (c ∷ ts) us h fits len =
          over done (AfterExpr x (frame before ∷ k) e) (BeforeExpr x (frame (before ++ e ∷ []) ∷ k)) c (ts ++ us)
          (row.separates before e c h.0)
          ∙ row-again t args (expr-again t) (others-again args) between ending k frame to row room
          (before ++ e ∷ []) ts us h.1 fits.0 fits.1 len
          ∙ ap (λ l. run_in limit done (to l) us) (append_assoc before (e ∷ []) _)

  -- the tokens are read from one state to another up to a token that matches m, and the others behind it match ms
  pub record ReadTo (done : List Statement) (from to : State) (m : Expected) (ms : List Expected)
      (ts us : List Placed) : Type 0 where
    pub token : Placed
    pub others : List Placed
    pub match : Matches token m
    pub behind : AllMatch others ms
    pub read : run_in limit done from (ts ++ us) ≡ run_in limit done to (token ∷ (others ++ us))

  -- an expression is read up to a token that continues none
  pub expr-between : (done : List Statement) (x : Within) (k : List Frame) (room : ℕ) (e : Tree) (m : Expected)
      (ms : List Expected) (ts us : List Placed) → AllMatch ts (spell e ++ m ∷ ms) → Fits room e
      → HasRoomIn limit k room
      → EachContinuesNone m → ReadTo done (BeforeExpr x k) (AfterExpr x k e) m ms ts us
  expr-between done x k room e m ms ts us h fits len none =
      let r = split (spell e) (m ∷ ms) ts h in
      let s = led m ms r.back r.second in
      record {
        token = s.token;
        others = s.others;
        match = s.match;
        behind = s.behind;
        read =
            ap (run_in limit done (BeforeExpr x k)) (joined ts r.front r.back s.token s.others us r.parts s.parts)
            ∙ expr-again done x e k room r.front s.token (s.others ++ us) r.first fits len (none s.token s.match);
      }
