-- What is told of the matches of a file, as it is computed.
use Rattle.std.specs.Prelude.{ℕ, List, [], ◌∷◌, flat_map, map, Option, Some, None, if◌then◌else◌}
use Rattle.std.specs.Str.{bytes_eq}
use Rattle.mp_io.specs.Devices.{Text}
use Rattle.mp_term.specs.Signature.{Sig}
use Rattle.mp_term.specs.Tree.{Tree}
use Rattle.mp_pattern.specs.Admission.{Rule}
use Rattle.mp_pattern.specs.Lists.{Pair}
use Rattle.mp_theory.specs.OneList.{Item, item_list}
use Rattle.mp_text.specs.File.{FileTree, Subject}
use Rattle.mp_token.specs.Machine.{spelling_fault}
use Rattle.mp_matches.specs.PairsListed.{front_lines, pair_line}
use Rattle.mp_matches.specs.Left.{left_at_first, printed}
use Rattle.mp_matches.specs.Listed.{Listed, lines, misspelt, no_match}
use Rattle.mp_matches.specs.Match.{Match}
use Rattle.mp_matches.specs.TokenOf.{token_of}

-- ---- the matches

-- an item of a rule on a subject as a match
abbrev pub match_of : Subject → Rule → Item → Match
match_of subject rule i = record { subject = subject; rule = rule; subst = i.1; table = i.0 }

-- a match for each item of a rule on a subject
abbrev pub matches_of : Subject → Rule → List Item → List Match
matches_of subject rule is = map (match_of subject rule) is

-- the matches of a rule on a subject
abbrev pub rule_matches : Sig → Subject → Rule → List Match
rule_matches sig subject rule = matches_of subject rule (item_list sig rule subject.term)

-- the matches of all rules on a subject, in order
abbrev pub subject_matches : Sig → List Rule → Subject → List Match
subject_matches sig rules subject = flat_map (rule_matches sig subject) rules

-- the matches on all subjects, in order
abbrev pub all_matches : Sig → List Rule → List Subject → List Match
all_matches sig rules subjects = flat_map (subject_matches sig rules) subjects

-- the matches of a file
abbrev pub file_matches : FileTree → List Match
file_matches file = all_matches file.sig file.rules file.subjects

-- ---- the token

-- the matches behind the first one with the token
abbrev pub behind_token : Text → List Match → Option (List Match)
behind_token token [] = None
behind_token token (m ∷ ms) = if bytes_eq (token_of m) token then Some ms else behind_token token ms

-- ---- what is told

-- a token that no match has is misspelt, or it is one
abbrev pub refused : Option ℕ → Listed
refused None = no_match
refused (Some at) = misspelt at

module _ (sig : Sig) (limit : Option ℕ) where
  -- the lines of matches
  abbrev pub told : List Match → Listed
  told ms = lines (printed sig (left_at_first limit) ms).0

  -- the lines of the matches behind the token, where one has it
  abbrev pub told_behind : Text → Option (List Match) → Listed
  told_behind token None = refused (spelling_fault token)
  told_behind token (Some ms) = told ms

  -- from the first match on, or behind the token
  abbrev pub told_from : Option Text → List Match → Listed
  told_from None ms = told ms
  told_from (Some token) ms = told_behind token (behind_token token ms)

-- what is told of the matches of a file
abbrev pub listed : FileTree → Option Text → Option ℕ → Listed
listed file resume limit = told_from file.sig limit resume (file_matches file)

-- ---- pairs

-- a line for each of the pairs that are given of a subject
abbrev pub pair_lines : FileTree → List Text → (Tree → List Pair) → Subject → List Text
pair_lines file names pairs subject = map (pair_line file.sig names subject) (pairs subject.term)

-- what is told of these pairs of a file
abbrev pub pairs_listed : FileTree → List Text → (Tree → List Pair) → Option ℕ → Listed
pairs_listed file names pairs limit = lines (front_lines limit (flat_map (pair_lines file names pairs) file.subjects))
