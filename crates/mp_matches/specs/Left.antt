-- How many lines may still be printed, and what is printed then.
use Rattle.std.specs.Prelude.{◌<◌, ⊤, length, ℕ, zero, suc, List, [], ◌∷◌, ◌++◌, Option, Some, None}
use Rattle.mp_io.specs.Devices.{Text}
use Rattle.mp_term.specs.Signature.{Sig}
use Rattle.mp_token.specs.TokenText.{token_text}
use Rattle.mp_matches.specs.Match.{Match, match_line, more_line}
use Rattle.mp_matches.specs.TokenOf.{token_of}
use Rattle.mp_matches.specs.declared.left.Left as code
use Rattle.mp_matches.specs.declared.left.Left.TheVariants as kind

-- how many lines may still be printed: all that come, or so many and one more than that, or none, where the last one
-- had this token
pub data Left : Type 0 where
  all : Left
  one_and : ℕ → Left
  full : Text → Left

-- as the code has it
abbrev pub left_of : code.Left → Left
left_of kind.All = all
left_of (kind.Lines n) = one_and n
left_of (kind.Full token) = full (token_text token)

-- a token that is kept has an entry
abbrev pub IsWritable : code.Left → Type 0
IsWritable kind.All = ⊤
IsWritable (kind.Lines n) = ⊤
IsWritable (kind.Full token) = 0 < length token.entries

-- at the beginning
abbrev pub left_at_first : Option ℕ → Left
left_at_first None = all
left_at_first (Some zero) = all
left_at_first (Some (suc n)) = one_and n

-- a text before what is printed
abbrev pub text_before : Text → Text × Option Left → Text × Option Left
text_before text p = (text ++ p.0, p.1)

module _ (sig : Sig) where
  -- the lines of matches, and how many may be printed behind them; or no more, where it is told that others follow
  abbrev pub printed : Left → List Match → Text × Option Left
  printed left [] = ([], Some left)
  printed all (m ∷ ms) = text_before (match_line sig m) (printed all ms)
  printed (one_and zero) (m ∷ ms) = text_before (match_line sig m) (printed (full (token_of m)) ms)
  printed (one_and (suc n)) (m ∷ ms) = text_before (match_line sig m) (printed (one_and n) ms)
  printed (full token) (m ∷ ms) = (more_line token, None)
