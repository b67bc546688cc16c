-- What is printed of the pairs of a rule and a substitution that are found on the subjects of a file: all of them, or
-- so many.
use Rattle.std.specs.Prelude.{◌≡◌, ℕ, zero, suc, List, [], ◌∷◌, ◌++◌, map, codes, slice_get, Option, Some, None}
use Rattle.std.specs.Borrow.{Bor}
use Rattle.std.specs.List.{concat}
use Rattle.mp_io.specs.Devices.{Text}
use Rattle.mp_term.specs.Signature.{Sig}
use Rattle.mp_term.specs.Tree.{Tree}
use Rattle.mp_pattern.specs.Lists.{Pair}
use Rattle.mp_text.specs.File.{FileTree, Subject}
use Rattle.mp_matches.specs.Match.{found_line}
use Rattle.mp_matches.specs.Matches.{IsJoinedBy}

-- the names behind references
abbrev pub named : List (Bor Text) → List Text
named names = map (λ name. name.now) names

-- the name of a rule, where there is one
abbrev pub name_of : Option Text → Text
name_of None = []
name_of (Some name) = name

-- the line of a pair on the subject, with the name of the rule of its number
abbrev pub pair_line : Sig → List Text → Subject → Pair → Text
pair_line sig names subject pair = found_line sig subject.name (name_of (slice_get names pair.0)) pair.1

-- a line for each pair that is found on the subject
abbrev pub AreSubjectLines : Sig → List Text → (Tree → List Pair → Type 0) → Subject → List Text → Type 0
AreSubjectLines sig names finds subject lines =
    (pairs : List Pair) × finds subject.term pairs × (lines ≡ map (pair_line sig names subject) pairs)

-- the subjects in file order
abbrev pub AreAllLines : FileTree → List Text → (Tree → List Pair → Type 0) → List Text → Type 0
AreAllLines file names finds = IsJoinedBy (AreSubjectLines file.sig names finds) file.subjects

-- others follow
abbrev pub more_follow : Text
more_follow = codes "more" ++ 10 ∷ []

-- as many of the lines as may be, or all where no number is given; where others follow, a last line says so
abbrev pub front_lines : Option ℕ → List Text → Text
front_lines None lines = concat lines
front_lines (Some n) [] = []
front_lines (Some zero) (line ∷ lines) = more_follow
front_lines (Some (suc n)) (line ∷ lines) = line ++ front_lines (Some n) lines

-- what is printed of the pairs that are found on the subjects of a file, where the rules have these names
pub record IsPairsListed (file : FileTree) (names : List Text) (finds : Tree → List Pair → Type 0) (limit : Option ℕ)
    (text : Text) : Type 0 where
  pub lines : List Text
  pub are_lines : AreAllLines file names finds lines
  pub text_of : text ≡ front_lines limit lines
