-- The words and signs of what is read are those of tokens: 1 to 64 letters and digits, and sign bytes but the arrow.
use Rattle.std.proofs.Common.{ℕ, zero, suc, List, [], ◌∷◌, ◌++◌, Option, Some, None, map, subst, take, sym, ◌≡◌}
use Rattle.std.specs.List.{flat_map}
use Rattle.mp_parser.specs.declared.place.Place.{Place}
use Rattle.mp_parser.specs.Tokens as tokens
use Rattle.mp_parser.specs.Tokens.{Token, Word, Sign, Placed, Spells, place_after, Tokens}
use Rattle.mp_parser.specs.Syntax.{Spot, Wildcard, Tree, Symbol, Apply, InfixOf, Wild, Optional, Variable, Trees}
use Rattle.mp_parser.specs.Syntax.{no_trees, more_trees, Flag, Assoc, Comm, One, Infixed, Amount, Number, Measured}
use Rattle.mp_parser.specs.Syntax.{Atom, Compare, Relate, Test, Literal, AtomOf, Bracketed, Literals, no_literals}
use Rattle.mp_parser.specs.Syntax.{more_literals, Condition, no_alternatives, more_alternatives, Statement, OpOf}
use Rattle.mp_parser.specs.Syntax.{KindOf, RuleOf, SubjectOf, EditOf, Expected, Said, Stands, AllMatch, spelled_word}
use Rattle.mp_parser.specs.Syntax.{spelled_sign, another, comma, semicolon, spell, spell_first, spell_others}
use Rattle.mp_parser.specs.Syntax.{spell_with_colon, spell_plus, spell_amount, spell_atom, spell_not, spell_literal}
use Rattle.mp_parser.specs.Syntax.{spell_literals, spell_alternatives, spell_condition, spell_if, spell_flag}
use Rattle.mp_parser.specs.Syntax.{spell_statement, spell_file, Fits, AreFit, FitsAmount, FitsAtom, FitsLiteral}
use Rattle.mp_parser.specs.Syntax.{LiteralsFit, AlternativesFit, FitsCondition, FitsIf, FitsStatement, AreStatements}
use Rattle.mp_parser.specs.Syntax.{IsName, IsInfixSign, HasParts, IsSpelled, HaveParts, HasNames, HaveNames}
use Rattle.mp_parser.specs.Syntax.{AmountHasNames, AtomHasNames, LiteralHasNames, LiteralsHaveNames}
use Rattle.mp_parser.specs.Syntax.{ConditionHasNames, IfHasNames, HaveSigns, AreNames, StatementHasNames}
use Rattle.mp_parser.specs.Syntax.{StatementsHaveNames, Counted, Position, Root, Path, Replacement, Listed, Change}
use Rattle.mp_parser.specs.Syntax.{arrow, spell_template, spell_index, spell_position, spell_replacement}
use Rattle.mp_parser.specs.Syntax.{spell_change, spell_changes, FitsTemplate, FitsListed, FitsReplacement, ChangesFit}
use Rattle.mp_parser.specs.Syntax.{TemplateHasNames, PositionHasNames, ReplacementHasNames, ChangesHaveNames, Single}
use Rattle.mp_parser.specs.Lexing.{kind_at}
use Rattle.mp_parser.proofs.Trees.{fits-optional}
use Rattle.mp_parser.proofs.Longest.{IsToken}
use Rattle.mp_parser.proofs.Adds.{expected_token}
use Rattle.mp_parser.proofs.Spelling.{kind_at-spells}
use Rattle.mp_parser.specs.declared.token.Punct.{Punct}
use Rattle.mp_parser.specs.declared.token.Punct.TheVariants.{CloseSquare, Close}

-- a text is this token
abbrev pub HasText : Token → Type 0
HasText t = (text : List ℕ) × Spells text t

-- each token has a text
abbrev pub HaveTexts : List Placed → Type 0
HaveTexts [] = Unit {0}
HaveTexts (t ∷ ts) = HasText t.token × HaveTexts ts

-- each token that is expected has a text
abbrev pub ExpectTexts : List Expected → Type 0
ExpectTexts [] = Unit {0}
ExpectTexts (m ∷ ms) = HasText (expected_token m) × ExpectTexts ms

-- the tokens of bytes have texts
pub tokens-texts : (ts : List Placed) (bytes : List ℕ) (place : Place) → Tokens bytes place ts → HaveTexts ts
tokens-texts [] bytes place h = tt
tokens-texts (t ∷ ts) bytes place h = ((h.1.text, h.1.spelled), tokens-texts ts h.0 (place_after h.1.text t.place) h.2)

-- what such tokens match has texts
pub match-texts : (ts : List Placed) (ms : List Expected) → AllMatch ts ms → HaveTexts ts → ExpectTexts ms
match-texts [] [] h k = tt
match-texts [] (m ∷ ms) h k = absurd h
match-texts (t ∷ ts) [] h k = absurd h
match-texts (t ∷ ts) (Said u ∷ ms) h k = (subst HasText h.0 k.0, match-texts ts ms h.1 k.1)
match-texts (t ∷ ts) (Stands u place ∷ ms) h k = (subst HasText h.0.0 k.0, match-texts ts ms h.1 k.1)

texts-append : (a b : List Expected) → ExpectTexts (a ++ b) → ExpectTexts a × ExpectTexts b
texts-append [] b h = (tt, h)
texts-append (m ∷ a) b h = let r = texts-append a b h.1 in ((h.0, r.0), r.1)

word-name : (w : List ℕ) → HasText (Word w) → IsName w
word-name w h = record { is_word = h.1.1; is_short = h.1.2 }

wildcard-parts : (w : Wildcard) → HasText (tokens.Wildcard w.name w.marks w.kind) → HasParts w
wildcard-parts w h = record {
  name = λ some. record { is_word = record { some = some; bytes = h.1.0.name_bytes }; is_short = h.1.1 };
  some_marks = h.1.0.some_marks;
  few_marks = h.1.0.few_marks;
  kind = λ some. record { is_word = record { some = some; bytes = h.1.0.kind_bytes }; is_short = h.1.2 };
  kind_behind_one = h.1.0.kind_behind_one;
}

chain-parts : (ws : List Wildcard) → ExpectTexts (flat_map spell_with_colon ws) → HaveParts ws
chain-parts [] h = tt
chain-parts (w ∷ ws) h = (wildcard-parts w h.0, chain-parts ws h.1.1)

sign-name : (s : List ℕ) → HasText (Sign s) → IsInfixSign s
sign-name s h = record { is_sign = h.1.1; no_arrow = h.1.2 }

-- the token at the front of bytes is spelled
pub kind_at-spelled : (bytes : List ℕ) → IsSpelled (kind_at bytes).0
kind_at-spelled bytes = record {
  word = λ w e. word-name w (text (Word w) e tt);
  wildcard = λ w e. wildcard-parts w (text (tokens.Wildcard w.name w.marks w.kind) e tt);
  sign = λ s e. sign-name s (text (Sign s) e tt);
}
  where
    text : (t : Token) → (kind_at bytes).0 ≡ t → IsToken t → HasText t
    text t e h = (
      take (kind_at bytes).1 bytes,
      subst (λ u. Spells (take (kind_at bytes).1 bytes) u) e
          (kind_at-spells bytes (subst IsToken (sym e) h)),
    )

mutual
  pub tree-names : (t : Tree) (room : ℕ) → Fits room t → ExpectTexts (spell t) → HasNames t
  tree-names (Symbol w) room fits h = word-name w.text h.0
  tree-names (Apply f args) zero fits h = absurd fits
  tree-names (Apply f args) (suc room) fits h = (word-name f.text h.0, first-names comma Close args room fits h.1.1)
  tree-names (InfixOf place sign operands) zero fits h = absurd fits
  tree-names (InfixOf place sign no_trees) (suc room) fits h = absurd fits.0
  tree-names (InfixOf place sign (more_trees t ts)) (suc room) fits h =
      let r = texts-append (spell t) (spelled_sign sign ∷ spell_first (another sign) Close ts) h.1 in (
        sign-name sign.text r.1.0,
        (tree-names t room fits.1.0 r.0, first-names (another sign) Close ts room fits.1.1 r.1.1),
      )
  tree-names (Wild w) room fits h = wildcard-parts w h.0
  tree-names (Counted w count more) room fits h = (wildcard-parts w h.0, word-name count.text h.1.1.0)
  tree-names (Optional w others default) room fits h =
      let r = texts-append (flat_map spell_with_colon others) (spell default) h.1.1 in (
        wildcard-parts w h.0,
        chain-parts others r.0,
        tree-names default room (fits-optional room w others default fits).2 r.1,
      )
  tree-names (Variable w) room fits h = word-name w.text h.1.0

  first-names : (between : Expected) (ending : Punct) (ts : Trees) (room : ℕ) → AreFit room ts
      → ExpectTexts (spell_first between ending ts) → HaveNames ts
  first-names between ending no_trees room fits h = tt
  first-names between ending (more_trees t ts) room fits h =
      let r = texts-append (spell t) (spell_others between ending ts) h in
      (tree-names t room fits.0 r.0, others-names between ending ts room fits.1 r.1)

  others-names : (between : Expected) (ending : Punct) (ts : Trees) (room : ℕ) → AreFit room ts
      → ExpectTexts (spell_others between ending ts) → HaveNames ts
  others-names between ending no_trees room fits h = tt
  others-names between ending (more_trees t ts) room fits h =
      let r = texts-append (spell t) (spell_others between ending ts) h.1 in
      (tree-names t room fits.0 r.0, others-names between ending ts room fits.1 r.1)

flags-names : (flags : List Flag) → ExpectTexts (flat_map spell_flag flags ++ semicolon ∷ []) → HaveSigns flags
flags-names [] h = tt
flags-names (Assoc ∷ flags) h = (tt, flags-names flags h.1)
flags-names (Comm ∷ flags) h = (tt, flags-names flags h.1)
flags-names (One ∷ flags) h = (tt, flags-names flags h.1)
flags-names (Infixed sign ∷ flags) h = (sign-name sign.text h.1.0, flags-names flags h.1.1)

members-names : (members : List Spot) → ExpectTexts (map spelled_word members ++ semicolon ∷ []) → AreNames members
members-names [] h = tt
members-names (m ∷ members) h = (word-name m.text h.0, members-names members h.1)

-- ---- conditions

amount-names : (room : ℕ) (a : Amount) → FitsAmount room a → ExpectTexts (spell_amount a) → AmountHasNames a
amount-names room (Number w) fits h = word-name w.text h.0
amount-names zero (Measured m e) fits h = absurd fits
amount-names (suc room) (Measured m e) fits h = tree-names e room fits (texts-append (spell e) _ h.1.1).0

atom-names : (room : ℕ) (a : Atom) → FitsAtom room a → ExpectTexts (spell_atom a) → AtomHasNames a
atom-names zero (Compare a sense b) fits h =
    let r = texts-append (spell_amount a) _ h in
    (amount-names zero a fits.0 r.0, amount-names zero b fits.1 r.1.1)
atom-names (suc room) (Compare a sense b) fits h =
    let r = texts-append (spell_amount a) _ h in
    (amount-names (suc room) a fits.0 r.0, amount-names (suc room) b fits.1 r.1.1)
atom-names zero (Relate q d e) fits h = absurd fits
atom-names (suc room) (Relate q d e) fits h =
    let r = texts-append (spell d) _ h.1.1 in
    (tree-names d room fits.0 r.0, tree-names e room fits.1 (texts-append (spell e) _ r.1.1).0)
atom-names zero (Test p e w) fits h = absurd fits
atom-names (suc room) (Test p e w) fits h =
    let r = texts-append (spell e) _ h.1.1 in
    (tree-names e room fits r.0, word-name w.text r.1.1.0)

mutual
  literal-names : (room : ℕ) (l : Literal) → FitsLiteral room l → ExpectTexts (spell_literal l) → LiteralHasNames l
  literal-names zero (AtomOf negated a) fits h = atom-names zero a fits (texts-append (spell_not negated) _ h).1
  literal-names (suc room) (AtomOf negated a) fits h =
      atom-names (suc room) a fits (texts-append (spell_not negated) _ h).1
  literal-names zero (Bracketed negated c) fits h = absurd fits
  literal-names (suc room) (Bracketed negated c) fits h =
      alternatives-names room [] c fits.1
      (texts-append (spell_condition c) _ (texts-append (spell_not negated) _ h).1.1).0

  literals-names : (room : ℕ) (before : List Expected) (ls : Literals) → LiteralsFit room ls
      → ExpectTexts (spell_literals before ls) → LiteralsHaveNames ls
  literals-names room before no_literals fits h = tt
  literals-names room before (more_literals l ls) fits h =
      let r = texts-append (spell_literal l) _ (texts-append before _ h).1 in
      (literal-names room l fits.0 r.0, literals-names room _ ls fits.1 r.1)

  alternatives-names : (room : ℕ) (before : List Expected) (c : Condition) → AlternativesFit room c
      → ExpectTexts (spell_alternatives before c) → ConditionHasNames c
  alternatives-names room before no_alternatives fits h = tt
  alternatives-names room before (more_alternatives a c) fits h =
      let r = texts-append (spell_literals [] a) _ (texts-append before _ h).1 in
      (literals-names room [] a fits.1 r.0, alternatives-names room _ c fits.2 r.1)

-- a condition that is spelled by tokens with texts has names
pub condition-names : (room : ℕ) (c : Condition) → FitsCondition room c → ExpectTexts (spell_condition c)
    → ConditionHasNames c
condition-names room c fits h = alternatives-names room [] c fits.1 h

if-names : (room : ℕ) (o : Option Condition) → FitsIf room o → ExpectTexts (spell_if o) → IfHasNames o
if-names room None fits h = tt
if-names room (Some c) fits h = condition-names room c fits h.1

-- ---- edits

indices-names : (ws : List Spot) → ExpectTexts (flat_map spell_index ws) → AreNames ws
indices-names [] h = tt
indices-names (w ∷ ws) h = (word-name w.text h.1.0, indices-names ws h.1.1)

position-names : (p : Position) → ExpectTexts (spell_position p) → PositionHasNames p
position-names (Root place) h = tt
position-names (Path first others) h = (word-name first.text h.0, indices-names others h.1)

listed-names : (room : ℕ) (ts : Trees) → FitsListed room ts → ExpectTexts (spell_first comma CloseSquare ts)
    → HaveNames ts
listed-names zero ts fits h = absurd fits
listed-names (suc room) ts fits h = first-names comma CloseSquare ts room fits h

replacement-names : (room : ℕ) (r : Replacement) → FitsReplacement room r → ExpectTexts (spell_replacement r)
    → ReplacementHasNames r
replacement-names room (Single t) fits h = tree-names t room fits h
replacement-names room (Listed ts) fits h = listed-names room ts fits h.1

changes-names : (room : ℕ) (before : List Expected) (cs : List Change) → ChangesFit room cs
    → ExpectTexts (spell_changes before cs) → ChangesHaveNames cs
changes-names room before [] fits h = tt
changes-names room before (c ∷ cs) fits h =
    let r = texts-append (spell_change c) (spell_changes (comma ∷ []) cs) (texts-append before _ h).1 in
    let s = texts-append (spell_position c.position) (arrow ∷ spell_replacement c.terms) r.0 in (
      position-names c.position s.0,
      replacement-names room c.terms fits.1 s.1.1,
      changes-names room (comma ∷ []) cs fits.2 r.1,
    )

-- ---- statements

template-names : (room : ℕ) (o : Option Tree) → FitsTemplate room o → ExpectTexts (spell_template o)
    → TemplateHasNames o
template-names room None fits h = tt
template-names room (Some t) fits h = tree-names t room fits h.1

statement-names : (room : ℕ) (s : Statement) → FitsStatement room s → ExpectTexts (spell_statement s)
    → StatementHasNames s
statement-names room (OpOf name least more flags) fits h =
    let r = texts-append (spell_plus more) (flat_map spell_flag flags ++ semicolon ∷ []) h.1.1.1 in
    (word-name name.text h.1.0, word-name least.text h.1.1.0, flags-names flags r.1)
statement-names room (KindOf name members) fits h = (word-name name.text h.1.0, members-names members h.1.1.1)
statement-names room (RuleOf name e template o) fits h =
    let r = texts-append (spell e) (spell_template template ++ (spell_if o ++ semicolon ∷ [])) h.1.1.1 in
    let s = texts-append (spell_template template) (spell_if o ++ semicolon ∷ []) r.1 in (
      word-name name.text h.1.0,
      tree-names e room fits.0 r.0,
      template-names room template fits.1 s.0,
      if-names room o fits.2 (texts-append (spell_if o) _ s.1).0,
    )
statement-names room (SubjectOf name e) fits h =
    (word-name name.text h.1.0, tree-names e room fits (texts-append (spell e) _ h.1.1.1).0)
statement-names room (EditOf subject changes) fits h =
    let r = texts-append (spell_changes [] changes) (semicolon ∷ []) h.1.1.1 in
    (word-name subject.text h.1.0, changes-names room [] changes fits.1 r.0)

-- statements that are spelled by tokens with texts have names
pub file-names : (room : ℕ) (file : List Statement) → AreStatements room file → ExpectTexts (spell_file file)
    → StatementsHaveNames file
file-names room [] fits h = tt
file-names room (s ∷ file) fits h =
    let r = texts-append (spell_statement s) (spell_file file) h in
    (statement-names room s fits.0 r.0, file-names room file fits.1 r.1)
