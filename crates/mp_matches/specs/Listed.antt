-- What is printed of matches: all, or so many, from the first or from behind the match of a token on.
use Rattle.std.specs.Prelude.{◌≡◌, ◌≤◌, ◌⊎◌, ℕ, zero, suc, List, [], ◌∷◌, ◌++◌, length, Option, Some, None}
use Rattle.std.specs.List.{AllByRecursion}
use Rattle.mp_io.specs.Devices.{Text}
use Rattle.mp_term.specs.Signature.{Sig}
use Rattle.mp_text.specs.File.{FileTree}
use Rattle.mp_token.specs.Spelling.{IsUnspelt, IsLongestBeginning}
use Rattle.mp_matches.specs.Match.{Match, match_lines, more_line, IsTokenOf}
use Rattle.mp_matches.specs.Matches.{AreMatches}

-- what is told of matches
pub data Listed : Type 0 where
  -- these lines
  lines : Text → Listed
  -- the token is misspelt: some token begins with so many of its bytes, and none with more of them
  misspelt : ℕ → Listed
  -- the token is that of no match
  no_match : Listed

-- the token is that of none of the matches
abbrev pub IsOfNone : Text → List Match → Type 0
IsOfNone token ms = AllByRecursion (λ m. IsTokenOf m token → ⊥) ms

-- the token is misspelt
abbrev pub IsMisspelt : Text → Listed → Type 0
IsMisspelt token l = (at : ℕ) × IsUnspelt token × IsLongestBeginning token at × (l ≡ misspelt at)

-- the token is one, but that of no match
abbrev pub IsOfNoMatch : Text → List Match → Listed → Type 0
IsOfNoMatch token ms l = (IsUnspelt token → ⊥) × IsOfNone token ms × (l ≡ no_match)

module _ (sig : Sig) where
  -- the lines of the matches up to the one at this place, and a last one that tells its token, since others follow it
  pub record IsCut (place : ℕ) (ms : List Match) (text : Text) : Type 0 where
    pub front : List Match
    pub last : Match
    pub next : Match
    pub behind : List Match
    pub split : ms ≡ front ++ last ∷ next ∷ behind
    pub count : length front ≡ place
    pub token : Text
    pub token_of : IsTokenOf last token
    pub lines : text ≡ match_lines sig (front ++ last ∷ []) ++ more_line token

  -- a line for each match, where no limit is given or they are no more than it, and else as many lines as the limit,
  -- and one more; a limit of 0 is none
  abbrev pub AreLines : Option ℕ → List Match → Text → Type 0
  AreLines None ms text = text ≡ match_lines sig ms
  AreLines (Some zero) ms text = text ≡ match_lines sig ms
  AreLines (Some (suc place)) ms text =
      ((length ms ≤ suc place) × (text ≡ match_lines sig ms)) ⊎ IsCut place ms text

  -- the lines of these matches
  abbrev pub IsOfLines : Option ℕ → List Match → Listed → Type 0
  IsOfLines limit ms l = (text : Text) × AreLines limit ms text × (l ≡ lines text)

  -- the matches behind the one of this token are told
  pub record IsOnFrom (token : Text) (limit : Option ℕ) (ms : List Match) (l : Listed) : Type 0 where
    pub before : List Match
    pub at : Match
    pub behind : List Match
    pub split : ms ≡ before ++ at ∷ behind
    pub first : IsOfNone token before
    pub token_of : IsTokenOf at token
    pub listed : IsOfLines limit behind l

  -- all matches are told, or those behind the one of the token
  abbrev pub IsListedOf : Option Text → Option ℕ → List Match → Listed → Type 0
  IsListedOf None limit ms l = IsOfLines limit ms l
  IsListedOf (Some token) limit ms l =
      IsOnFrom token limit ms l ⊎ (IsMisspelt token l ⊎ IsOfNoMatch token ms l)

-- what is told of the matches of a file
pub record IsListed (file : FileTree) (resume : Option Text) (limit : Option ℕ) (l : Listed) : Type 0 where
  pub matches : List Match
  pub are_matches : AreMatches file matches
  pub listed : IsListedOf file.sig resume limit matches l
