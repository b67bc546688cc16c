-- From each state in which things stand where they may, some tokens lead to the end of a text.
use Rattle.std.proofs.Common.{Bool, ◌≡◌, ℕ, suc, ◌<◌, false, cond, List, [], ◌∷◌, ◌++◌, Some, None, refl, ap, ◌∙◌}
use Rattle.std.specs.Prelude.{codes, ◌&&◌}
use Rattle.std.proofs.lemmas.Bool.{lt-leb}
use Rattle.mp_parser.specs.declared.place.Place.{Place}
use Rattle.mp_parser.specs.declared.token.Punct.TheVariants.{Open, Close, CloseSquare, Comma, Colon, Semicolon}
use Rattle.mp_parser.specs.declared.token.Punct.TheVariants.{OpenBrace, CloseBrace, Dot}
use Rattle.mp_parser.specs.declared.fault.FaultKind.TheVariants.{TooDeep}
use Rattle.mp_parser.specs.declared.condition_tree.Sense.TheVariants.{Eq}
use Rattle.mp_parser.specs.Tokens.{Token, Word, Sign, Arrow, Punctuation, End, Placed}
use Rattle.mp_syntax.specs.Begins.{Text, OfFile, OfExpr, OfCondition}
use Rattle.mp_parser.specs.Syntax.{Spot, Wildcard, Tree, Symbol, Apply, InfixOf, Wild, Variable, more_trees, trees}
use Rattle.mp_parser.specs.Syntax.{KindOf, OpOf, RuleOf, SubjectOf, Statement, Amount, Number, Measured, Compare}
use Rattle.mp_parser.specs.Syntax.{Relate, Test, Literal, AtomOf, Bracketed, Condition, condition, Infixed, Counted}
use Rattle.mp_parser.specs.Syntax.{EditOf, Position, Root, Path, Change}
use Rattle.mp_parser.specs.Machine.{Heading, Edited, Listing, InTemplate, InChange, AfterBrace, AfterCount}
use Rattle.mp_parser.specs.Machine.{BeforeBrace, AfterEdit, AfterSubject, BeforeChange, AfterPosition, BeforeIndex}
use Rattle.mp_parser.specs.Machine.{AfterArrow, AfterSquare, AfterChange, change, edited}
use Rattle.mp_parser.specs.Machine.{Role}
use Rattle.mp_parser.specs.Machine.{OfRule, OfSubject, Frame, Arguments, Bracket, Operands, Default, Operand, Second}
use Rattle.mp_parser.specs.Machine.{Square, Level, all_alternatives, Site, site, is_dot, is_punct, step_behind, Side}
use Rattle.mp_parser.specs.Machine.{OnLeft, OnRight, Lead, OfMeasure, OfRelation, OfProperty, open_count}
use Rattle.mp_parser.specs.Machine.{with_default, Declared, with_flag, heading, Within, InStatement, Alone}
use Rattle.mp_parser.specs.Machine.{InCondition, ConditionAlone, State, Top, AfterOp, AfterOpName, AfterLeast}
use Rattle.mp_parser.specs.Machine.{AfterFlags, AfterInfix, AfterKind, AfterKindName, BeforeMember, AfterMember}
use Rattle.mp_parser.specs.Machine.{AfterRole, AfterName, BeforeExpr, AfterWord, AfterOpen, AfterWildcard, AfterExpr}
use Rattle.mp_parser.specs.Machine.{AfterDollar, BeforeLiteral, BeforeBody, BeforeOperand, BeforeName, BehindName}
use Rattle.mp_parser.specs.Machine.{AfterAmount, AfterSense, AfterLiteral, SingleExpr, SingleCondition, Go, Emit}
use Rattle.mp_parser.specs.Machine.{Refuse, spot, with_atom, with_amount, step_in, step_open, after_step, Parsed}
use Rattle.mp_parser.specs.Machine.{parsed, run_in}
use Rattle.mp_parser.specs.Syntax as syntax
use Rattle.mp_parser.proofs.Found.{read_ok}
use Rattle.mp_syntax.proofs.Holds.{HoldsList, file-name, file-change, IsEndOfExpr, IsEndOfCondition, HoldsExpr}
use Rattle.mp_syntax.proofs.Holds.{HoldsCondition, IsFile, Holds}

-- a place
abbrev pub here : Place
here = record { line = 0; column = 0 }

-- a token, wherever it stands
abbrev pub say : Token → Placed
say k = record { token = k; place = here }

abbrev a_text : List ℕ
a_text = codes "a"

abbrev plus_text : List ℕ
plus_text = codes "+"

abbrev zero_text : List ℕ
zero_text = codes "0"

-- a word, a sign, a number
abbrev word_a : Placed
word_a = say (Word a_text)

abbrev plus : Placed
plus = say (Sign plus_text)

abbrev number_0 : Placed
number_0 = say (Word zero_text)

abbrev equals : Placed
equals = say (Sign (codes "=="))

abbrev close : Placed
close = say (Punctuation Close)

abbrev comma_token : Placed
comma_token = say (Punctuation Comma)

abbrev semicolon_token : Placed
semicolon_token = say (Punctuation Semicolon)

-- the brackets that stand open in a state
abbrev pub count : State → ℕ
count (BeforeExpr x k) = open_count k
count (AfterWord x k w) = open_count k
count (AfterOpen x k w) = suc (open_count k)
count (AfterWildcard x k w) = open_count k
count (AfterExpr x k e) = open_count k
count (AfterDollar x k place) = open_count k
count (BeforeLiteral x k v) = open_count k
count (BeforeBody x k s) = open_count k
count (BeforeOperand x k s lead) = open_count k
count (BeforeName x k s p e) = suc (open_count k)
count (BehindName x k s p e w) = suc (open_count k)
count (AfterAmount x k s a) = open_count k
count (AfterSense x k s a sense) = open_count k
count (AfterLiteral x k v l) = open_count k
count (AfterBrace x k w) = open_count k
count (AfterCount x k w n) = open_count k
count (BeforeBrace x k w n more) = open_count k
count (AfterSquare d p) = 1
count _ = 0

-- the statements before a text of this sort: none before an expression or a condition
abbrev pub IsBefore : Text → List Statement → Type 0
IsBefore OfFile done = Unit {0}
IsBefore _ done = done ≡ []

-- what is read is a text of this sort
abbrev pub IsParsed : Text → Parsed → Type 0
IsParsed OfFile p = p.single ≡ None
IsParsed OfExpr p = (p.statements ≡ []) × (t : Tree) × (p.single ≡ Some (SingleExpr t))
IsParsed OfCondition p = (p.statements ≡ []) × (c : Condition) × (p.single ≡ Some (SingleCondition c))

-- the token is no opening bracket or brace and no colon
abbrev IsPlain : Placed → Type 0
IsPlain t =
    (is_punct Open t.token ≡ false) × (is_punct Colon t.token ≡ false) × (is_punct OpenBrace t.token ≡ false)

-- tokens that lead to the end of a text
pub record Closes (limit : ℕ) (b : Text) (done : List Statement) (at : State) : Type 0 where
  pub token : Placed
  pub others : List Placed
  pub what : Parsed
  pub read : run_in limit done at (token ∷ others) ≡ read_ok what
  pub sort : IsParsed b what

module _ (limit : ℕ) (b : Text) (done : List Statement) (before : IsBefore b done) where
  -- one token more
  abbrev by : (at next : State) (t : Placed) → step_in limit at t ≡ Go next → Closes limit b done next
      → Closes limit b done at
  by at next t e c =
      record {
        token = t;
        others = c.token ∷ c.others;
        what = c.what;
        read =
            ap (after_step done t.place (λ d a. run_in limit d a (c.token ∷ c.others))) e ∙ c.read;
        sort = c.sort;
      }

  -- a statement, and the end
  emits : (at : State) (t : Placed) (s : Statement) → step_in limit at t ≡ Emit s → IsFile b → Closes limit b done at
  emits at t s e f = go b f
    where
      go : (b : Text) → IsFile b → Closes limit b done at
      go OfFile f =
          record {
            token = t;
            others = say End ∷ [];
            what = parsed (done ++ s ∷ []) None;
            read =
                ap (after_step done t.place (λ d a. run_in limit d a (say End ∷ []))) e;
            sort = refl;
          }
      go OfExpr f = absurd f
      go OfCondition f = absurd f

  literal-closes : (x : Within) (k : List Frame) (v : Level) (l : Literal) → HoldsCondition b x k
      → Closes limit b done (AfterLiteral x k v l)
  literal-closes x [] v l h = go b x before h
    where
      go : (b : Text) (x : Within) → IsBefore b done → IsEndOfCondition b x
          → Closes limit b done (AfterLiteral x [] v l)
      go OfFile (InCondition name pattern template) i h =
          record {
            token = semicolon_token;
            others = say End ∷ [];
            what =
                parsed (done ++ RuleOf name pattern template (Some (condition (all_alternatives v l))) ∷ []) None;
            read = refl;
            sort =
                refl;
          }
      go OfCondition ConditionAlone i h =
          record {
            token = say End;
            others = [];
            what =
                parsed done (Some (SingleCondition (condition (all_alternatives v l))));
            read = refl;
            sort =
                (i, condition (all_alternatives v l), refl);
          }
      go _ _ i h = absurd h
  literal-closes x (Square s ∷ k) v l h =
      by _ (AfterLiteral x k s.level (Bracketed s.negated (condition (all_alternatives v l))))
      (say (Punctuation CloseSquare)) refl
      (literal-closes x k s.level (Bracketed s.negated (condition (all_alternatives v l))) h)
  literal-closes x (Arguments name args ∷ k) v l h = absurd h
  literal-closes x (Bracket place ∷ k) v l h = absurd h
  literal-closes x (Operands place sign first others ∷ k) v l h = absurd h
  literal-closes x (Default w ∷ k) v l h = absurd h
  literal-closes x (Operand s lead ∷ k) v l h = absurd h
  literal-closes x (Second s r e ∷ k) v l h = absurd h
  literal-closes x (Listing es ∷ k) v l h = absurd h

  -- behind an amount
  amount-closes : (x : Within) (k : List Frame) (s : Site) (side : Side) (a : Amount) → HoldsCondition b x k
      → Closes limit b done (with_amount x k s side a)
  amount-closes x k s OnLeft a h =
      by _ (AfterSense x k s a Eq) equals refl
      (by _ (AfterLiteral x k s.level (AtomOf s.negated (Compare a Eq (Number (spot zero_text here))))) number_0 refl
      (literal-closes x k s.level (AtomOf s.negated (Compare a Eq (Number (spot zero_text here)))) h))
  amount-closes x k s (OnRight c sense) a h = literal-closes x k s.level (AtomOf s.negated (Compare c sense a)) h

  operand-closes : (x : Within) (k : List Frame) (s : Site) (lead : Lead) (e : Tree) → HoldsCondition b x k
      → Closes limit b done (AfterExpr x (Operand s lead ∷ k) e)
  operand-closes x k s (OfMeasure side m) e h =
      by _ (with_amount x k s side (Measured m e)) close refl (amount-closes x k s side (Measured m e) h)
  operand-closes x k s (OfRelation r) e h =
      by _ (BeforeExpr x (Second s r e ∷ k)) comma_token refl
      (by _ (AfterWord x (Second s r e ∷ k) (spot a_text here)) word_a refl
      (by _ (with_atom x k s (Relate r e (Symbol (spot a_text here)))) close refl
      (literal-closes x k s.level (AtomOf s.negated (Relate r e (Symbol (spot a_text here)))) h)))
  operand-closes x k s (OfProperty p) e h =
      by _ (BeforeName x k s p e) comma_token refl
      (by _ (BehindName x k s p e (spot a_text here)) word_a refl
      (by _ (with_atom x k s (Test p e (spot a_text here))) close refl
      (literal-closes x k s.level (AtomOf s.negated (Test p e (spot a_text here))) h)))

  operand-plain : (x : Within) (k : List Frame) (s : Site) (lead : Lead) (e : Tree) (h : HoldsCondition b x k)
      → IsPlain (operand-closes x k s lead e h).token
  unfolding operand-closes
  operand-plain x k s (OfMeasure side m) e h = (refl, refl, refl)
  operand-plain x k s (OfRelation r) e h = (refl, refl, refl)
  operand-plain x k s (OfProperty p) e h = (refl, refl, refl)

  -- behind a change a semicolon ends the edit
  change-closes : (d : Edited) (c : Change) → IsFile b → Closes limit b done (AfterChange d c)
  change-closes d c f = emits _ semicolon_token (EditOf d.subject (d.changes ++ c ∷ [])) refl f

  -- a list ends with its bracket
  list-closes : (x : Within) (k : List Frame) (es : List Tree) (e : Tree) → HoldsList b x k
      → (c : Closes limit b done (AfterExpr x (Listing es ∷ k) e)) × IsPlain c.token
  list-closes x k es e h = go b x k h
    where
      go : (b : Text) (x : Within) (k : List Frame) → HoldsList b x k
          → (c : Closes limit b done (AfterExpr x (Listing es ∷ k) e)) × IsPlain c.token
      go OfFile (InChange d p) [] h = (
        record {
          token = say (Punctuation CloseSquare);
          others = semicolon_token ∷ say End ∷ [];
          what =
              parsed
              (done ++ EditOf d.subject (d.changes ++ change p (syntax.Listed (trees (es ++ e ∷ []))) ∷ []) ∷ []) None;
          read = refl;
          sort = refl;
        },
        (refl, refl, refl),
      )
      go _ _ _ h = absurd h

  -- an expression goes on with a token that is no opening bracket or brace and no colon
  abbrev ExprCloses : Within → List Frame → Tree → Type 0
  ExprCloses x k e = (c : Closes limit b done (AfterExpr x k e)) × IsPlain c.token

  expr-closes : (x : Within) (k : List Frame) (e : Tree) → HoldsExpr b x k → ExprCloses x k e
  expr-closes x [] e h = go b x before h
    where
      statement : (role : Role) (name : Spot)
          → Closes limit OfFile done (AfterExpr (InStatement (heading role name)) [] e)
      statement OfRule name =
          record {
            token = semicolon_token;
            others = say End ∷ [];
            what =
                parsed (done ++ RuleOf name e None None ∷ []) None;
            read = refl;
            sort = refl;
          }
      statement OfSubject name =
          record {
            token = semicolon_token;
            others = say End ∷ [];
            what =
                parsed (done ++ SubjectOf name e ∷ []) None;
            read = refl;
            sort = refl;
          }

      plain : (role : Role) (name : Spot) → IsPlain (statement role name).token
      plain OfRule name = (refl, refl, refl)
      plain OfSubject name = (refl, refl, refl)

      go : (b : Text) (x : Within) → IsBefore b done → IsEndOfExpr b x
          → (c : Closes limit b done (AfterExpr x [] e)) × IsPlain c.token
      go OfFile (InStatement h) i f = (statement h.role h.name, plain h.role h.name)
      go OfFile (InTemplate name pattern) i f = (
        record {
          token = semicolon_token;
          others = say End ∷ [];
          what = parsed (done ++ RuleOf name pattern (Some e) None ∷ []) None;
          read = refl;
          sort = refl;
        },
        (refl, refl, refl),
      )
      go OfFile (InChange d p) i f = (
        record {
          token = semicolon_token;
          others = say End ∷ [];
          what = parsed (done ++ EditOf d.subject (d.changes ++ change p (syntax.Single e) ∷ []) ∷ []) None;
          read = refl;
          sort = refl;
        },
        (refl, refl, refl),
      )
      go OfExpr Alone i h = (
        record {
          token = say End;
          others = [];
          what = parsed done (Some (SingleExpr e));
          read = refl;
          sort =
              (i, e, refl);
        },
        (refl, refl, refl),
      )
      go _ _ i h = absurd h
  expr-closes x (Arguments name args ∷ k) e h = (
    by _ (AfterExpr x k (Apply name (trees (args ++ e ∷ [])))) close refl
        (expr-closes x k (Apply name (trees (args ++ e ∷ []))) h).0,
    (refl, refl, refl),
  )
  expr-closes x (Bracket place ∷ k) e h = (
    by _ (BeforeExpr x (Operands place (spot plus_text here) e [] ∷ k)) plus refl
        (by _ (AfterWord x (Operands place (spot plus_text here) e [] ∷ k) (spot a_text here)) word_a refl
        (by _ (AfterExpr x k
        (InfixOf place (spot plus_text here) (more_trees e (trees (Symbol (spot a_text here) ∷ []))))) close refl
        (expr-closes x k
        (InfixOf place (spot plus_text here) (more_trees e (trees (Symbol (spot a_text here) ∷ [])))) h).0)),
    (refl, refl, refl),
  )
  expr-closes x (Operands place sign first others ∷ k) e h = (
    by _ (AfterExpr x k (InfixOf place sign (more_trees first (trees (others ++ e ∷ []))))) close refl
        (expr-closes x k (InfixOf place sign (more_trees first (trees (others ++ e ∷ [])))) h).0,
    (refl, refl, refl),
  )
  expr-closes x (Default w ∷ k) e h = let c =
      expr-closes x k (with_default w e) h in
      (record { token = c.0.token; others = c.0.others; what = c.0.what; read = c.0.read; sort = c.0.sort }, c.1)
  expr-closes x (Operand s lead ∷ k) e h =
      (operand-closes x k s lead e h, operand-plain x k s lead e h)
  expr-closes x (Second s r d ∷ k) e h = (
    by _ (with_atom x k s (Relate r d e)) close refl
        (literal-closes x k s.level (AtomOf s.negated (Relate r d e)) h),
    (refl, refl, refl),
  )
  expr-closes x (Square s ∷ k) e h = absurd h
  expr-closes x (Listing es ∷ k) e h = list-closes x k es e h

  word-closes : (x : Within) (k : List Frame) (w : Spot) → HoldsExpr b x k → Closes limit b done (AfterWord x k w)
  word-closes x k w h =
      let c = expr-closes x k (Symbol w) h in
      record {
        token = c.0.token;
        others = c.0.others;
        what = c.0.what;
        read =
            ap (λ v. after_step done c.0.token.place (λ d a. run_in limit d a c.0.others)
            (cond v (step_open limit k (AfterOpen x k w)) (step_behind x k (Symbol w) c.0.token))) c.1.0
            ∙ c.0.read;
        sort = c.0.sort;
      }

  wildcard-closes : (x : Within) (k : List Frame) (w : Wildcard) → HoldsExpr b x k
      → Closes limit b done (AfterWildcard x k w)
  wildcard-closes x k w h =
      let c = expr-closes x k (Wild w) h in
      record {
        token = c.0.token;
        others = c.0.others;
        what = c.0.what;
        read =
            ap (λ v. after_step done c.0.token.place (λ d a. run_in limit d a c.0.others)
            (cond (v && is_dot w) (Go (BeforeExpr x (Default w ∷ k)))
            (cond (is_punct OpenBrace c.0.token.token && is_dot w) (Go (AfterBrace x k w))
            (step_behind x k (Wild w) c.0.token)))) c.1.1
            ∙ ap (λ v. after_step done c.0.token.place (λ d a. run_in limit d a c.0.others)
            (cond (v && is_dot w) (Go (AfterBrace x k w)) (step_behind x k (Wild w) c.0.token))) c.1.2
            ∙ c.0.read;
        sort = c.0.sort;
      }

  before-closes : (x : Within) (k : List Frame) → HoldsExpr b x k → Closes limit b done (BeforeExpr x k)
  before-closes x k h = by _ (AfterWord x k (spot a_text here)) word_a refl (word-closes x k (spot a_text here) h)

  flags-close : (d : Declared) → IsFile b → Closes limit b done (AfterFlags d)
  flags-close d f = emits _ semicolon_token (OpOf d.name d.least d.more d.flags) refl f

  least-closes : (name least : Spot) → IsFile b → Closes limit b done (AfterLeast name least)
  least-closes name least f = emits _ semicolon_token (OpOf name least false []) refl f

  op_name-closes : (name : Spot) → IsFile b → Closes limit b done (AfterOpName name)
  op_name-closes name f =
      by _ (AfterLeast name (spot zero_text here)) number_0 refl (least-closes name (spot zero_text here) f)

  member-closes : (name : Spot) (members : List Spot) → IsFile b → Closes limit b done (AfterMember name members)
  member-closes name members f = emits _ semicolon_token (KindOf name members) refl f

  members-close : (name : Spot) (members : List Spot) → IsFile b → Closes limit b done (BeforeMember name members)
  members-close name members f =
      by _ (AfterMember name (members ++ spot a_text here ∷ [])) word_a refl
      (member-closes name (members ++ spot a_text here ∷ []) f)

  kind_name-closes : (name : Spot) → IsFile b → Closes limit b done (AfterKindName name)
  kind_name-closes name f = by _ (BeforeMember name []) (say (Punctuation Colon)) refl (members-close name [] f)

  name-closes : (h : Heading) → IsFile b → Closes limit b done (AfterName h)
  name-closes h f =
      by _ (BeforeExpr (InStatement h) []) (say (Punctuation Colon)) refl
      (before-closes (InStatement h) [] (file-name b h f))

  -- the closing brace of a count
  brace-closes : (x : Within) (k : List Frame) (w : Wildcard) (n : Spot) (more : Bool) → HoldsExpr b x k
      → Closes limit b done (BeforeBrace x k w n more)
  brace-closes x k w n more h =
      by _ (AfterExpr x k (Counted w n more)) (say (Punctuation CloseBrace)) refl
      (expr-closes x k (Counted w n more) h).0

  count-closes : (x : Within) (k : List Frame) (w : Wildcard) (n : Spot) → HoldsExpr b x k
      → Closes limit b done (AfterCount x k w n)
  count-closes x k w n h =
      by _ (AfterExpr x k (Counted w n false)) (say (Punctuation CloseBrace)) refl
      (expr-closes x k (Counted w n false) h).0

  arrow-closes : (d : Edited) (p : Position) → IsFile b → Closes limit b done (AfterArrow d p)
  arrow-closes d p f =
      by _ (AfterWord (InChange d p) [] (spot a_text here)) word_a refl
      (word-closes (InChange d p) [] (spot a_text here) (file-change b d p f))

  position-closes : (d : Edited) (p : Position) → IsFile b → Closes limit b done (AfterPosition d p)
  position-closes d p f = by _ (AfterArrow d p) (say Arrow) refl (arrow-closes d p f)

  before_change-closes : (d : Edited) → IsFile b → Closes limit b done (BeforeChange d)
  before_change-closes d f =
      by _ (AfterPosition d (Root here)) (say (Punctuation Dot)) refl (position-closes d (Root here) f)

  subject-closes : (subject : Spot) → IsFile b → Closes limit b done (AfterSubject subject)
  subject-closes subject f =
      by _ (BeforeChange (edited subject [])) (say (Punctuation Colon)) refl
      (before_change-closes (edited subject []) f)

  -- from each state
  pub goes_on : (at : State) → Holds b at → count at < limit → Closes limit b done at
  goes_on Top h lt = go b h
    where
      go : (b : Text) → IsFile b → Closes limit b done Top
      go OfFile f = record { token = say End; others = []; what = parsed done None; read = refl; sort = refl }
      go OfExpr f = absurd f
      go OfCondition f = absurd f
  goes_on AfterOp h lt = by _ (AfterOpName (spot a_text here)) word_a refl (op_name-closes (spot a_text here) h)
  goes_on (AfterOpName name) h lt = op_name-closes name h
  goes_on (AfterLeast name least) h lt = least-closes name least h
  goes_on (AfterFlags d) h lt = flags-close d h
  goes_on (AfterInfix d) h lt =
      by _ (AfterFlags (with_flag d (Infixed (spot plus_text here)))) plus refl
      (flags-close (with_flag d (Infixed (spot plus_text here))) h)
  goes_on AfterKind h lt = by _ (AfterKindName (spot a_text here)) word_a refl (kind_name-closes (spot a_text here) h)
  goes_on (AfterKindName name) h lt = kind_name-closes name h
  goes_on (BeforeMember name members) h lt = members-close name members h
  goes_on (AfterMember name members) h lt = member-closes name members h
  goes_on (AfterRole role) h lt =
      by _ (AfterName (heading role (spot a_text here))) word_a refl (name-closes (heading role (spot a_text here)) h)
  goes_on (AfterName x) h lt = name-closes x h
  goes_on (BeforeExpr x k) h lt = before-closes x k h
  goes_on (AfterWord x k w) h lt = word-closes x k w h
  goes_on (AfterOpen x k w) h lt =
      by _ (AfterExpr x k (Apply w (trees []))) close refl (expr-closes x k (Apply w (trees [])) h).0
  goes_on (AfterWildcard x k w) h lt = wildcard-closes x k w h
  goes_on (AfterExpr x k e) h lt = (expr-closes x k e h).0
  goes_on (AfterDollar x k place) h lt =
      by _ (AfterExpr x k (Variable (spot a_text place))) word_a refl
      (expr-closes x k (Variable (spot a_text place)) h).0
  goes_on (BeforeLiteral x k v) h lt =
      by _ (AfterAmount x k (site v false) (Number (spot zero_text here))) number_0 refl
      (amount-closes x k (site v false) OnLeft (Number (spot zero_text here)) h)
  goes_on (BeforeBody x k s) h lt =
      by _ (AfterAmount x k s (Number (spot zero_text here))) number_0 refl
      (amount-closes x k s OnLeft (Number (spot zero_text here)) h)
  goes_on (BeforeOperand x k s lead) h lt =
      by _ (BeforeExpr x (Operand s lead ∷ k)) (say (Punctuation Open))
      (ap (λ v. cond v (Refuse TooDeep) (Go (BeforeExpr x (Operand s lead ∷ k)))) (lt-leb limit (open_count k) lt))
      (before-closes x (Operand s lead ∷ k) h)
  goes_on (BeforeName x k s p e) h lt =
      by _ (BehindName x k s p e (spot a_text here)) word_a refl
      (by _ (with_atom x k s (Test p e (spot a_text here))) close refl
      (literal-closes x k s.level (AtomOf s.negated (Test p e (spot a_text here))) h))
  goes_on (BehindName x k s p e w) h lt =
      by _ (with_atom x k s (Test p e w)) close refl (literal-closes x k s.level (AtomOf s.negated (Test p e w)) h)
  goes_on (AfterAmount x k s a) h lt = amount-closes x k s OnLeft a h
  goes_on (AfterSense x k s a sense) h lt =
      by _ (with_amount x k s (OnRight a sense) (Number (spot zero_text here))) number_0 refl
      (amount-closes x k s (OnRight a sense) (Number (spot zero_text here)) h)
  goes_on (AfterLiteral x k v l) h lt = literal-closes x k v l h
  goes_on (AfterBrace x k w) h lt =
      by _ (AfterCount x k w (spot zero_text here)) number_0 refl (count-closes x k w (spot zero_text here) h)
  goes_on (AfterCount x k w n) h lt = count-closes x k w n h
  goes_on (BeforeBrace x k w n more) h lt = brace-closes x k w n more h
  goes_on AfterEdit h lt = by _ (AfterSubject (spot a_text here)) word_a refl (subject-closes (spot a_text here) h)
  goes_on (AfterSubject subject) h lt = subject-closes subject h
  goes_on (BeforeChange d) h lt = before_change-closes d h
  goes_on (AfterPosition d p) h lt = position-closes d p h
  goes_on (BeforeIndex d first others) h lt =
      by _ (AfterPosition d (Path first (others ++ spot zero_text here ∷ []))) number_0 refl
      (position-closes d (Path first (others ++ spot zero_text here ∷ [])) h)
  goes_on (AfterArrow d p) h lt = arrow-closes d p h
  goes_on (AfterSquare d p) h lt =
      by _ (AfterChange d (change p (syntax.Listed (trees [])))) (say (Punctuation CloseSquare)) refl
      (change-closes d (change p (syntax.Listed (trees []))) h)
  goes_on (AfterChange d c) h lt = change-closes d c h
