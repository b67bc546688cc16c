-- The sorts of texts, and the beginnings of a text: tokens behind which one goes on.
use Rattle.std.specs.Prelude.{◌≡◌, ℕ, List, [], ◌∷◌, ◌++◌}
use Rattle.mp_parser.specs.declared.limits.TheConstants.{MAX_OPEN}
use Rattle.mp_parser.specs.Tokens.{Placed}
use Rattle.mp_parser.specs.Syntax.{Tree, Condition, Statement, Expected, Matches, AllMatch, spell, spell_condition}
use Rattle.mp_parser.specs.Syntax.{spell_file, Fits, FitsCondition, AreStatements}

-- the sorts of texts: files, expressions and conditions
pub data Text : Type 0 where
  OfFile : Text
  OfExpr : Text
  OfCondition : Text

-- these tokens are a text of this sort, with at most room brackets open at once
abbrev pub IsSpelling : Text → ℕ → List Expected → Type 0
IsSpelling OfFile room ms = (file : List Statement) × AreStatements room file × (ms ≡ spell_file file)
IsSpelling OfExpr room ms = (t : Tree) × Fits room t × (ms ≡ spell t)
IsSpelling OfCondition room ms = (c : Condition) × FitsCondition room c × (ms ≡ spell_condition c)

-- the tokens are a text of this sort
abbrev pub IsWhole : Text → List Placed → Type 0
IsWhole sort ts = (ms : List Expected) × IsSpelling sort MAX_OPEN ms × AllMatch ts ms

-- the tokens match the front of these, one by one
abbrev pub MatchFront : List Placed → List Expected → Type 0
MatchFront [] ms = Unit {0}
MatchFront (t ∷ ts) [] = ⊥
MatchFront (t ∷ ts) (m ∷ ms) = Matches t m × MatchFront ts ms

-- the tokens are a beginning: a text of this sort goes on behind them, however many brackets it opens
pub record Begins (sort : Text) (ts : List Placed) : Type 0 where
  pub room : ℕ
  pub whole : List Expected
  pub is : IsSpelling sort room whole
  pub front : MatchFront ts whole

-- ---- beginnings by cases

-- the tokens are a whole first part and a beginning of what follows it
pub record IsBehind (ts : List Placed) (a b : List Expected) : Type 0 where
  pub front : List Placed
  pub back : List Placed
  pub parts : ts ≡ front ++ back
  pub whole : AllMatch front a
  pub begins : MatchFront back b
