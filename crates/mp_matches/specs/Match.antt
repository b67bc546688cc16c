-- A match of a file, its line, and its token.
use Rattle.std.specs.Prelude.{◌≡◌, List, [], ◌∷◌, ◌++◌, codes, flat_map}
use Rattle.mp_io.specs.Devices.{Text}
use Rattle.mp_term.specs.Signature.{Sig}
use Rattle.mp_pattern.specs.Value.{Subst}
use Rattle.mp_pattern.specs.Fits as fits
use Rattle.mp_pattern.specs.Admission.{Rule}
use Rattle.mp_pattern.specs.Constants.{rule_constants}
use Rattle.mp_table.specs.Table.{Table, IsTableOf}
use Rattle.mp_print.specs.Printing.{subst_text}
use Rattle.mp_text.specs.File.{Subject}
use Rattle.mp_token.specs.Entry.{Entry}
use Rattle.mp_token.specs.TokenText.{front_text}
use Rattle.mp_cursor.specs.Listing.{Listing, ReadAs}

-- a subject, a rule, a substitution that the rule admits on the subject, and what the pattern's nodes take by it
pub record Match : Type 0 where
  pub subject : Subject
  pub rule : Rule
  pub subst : Subst
  pub table : fits.Table

-- the names of a subject and of a rule, and a substitution, with a space between each two
abbrev pub found_line : Sig → Text → Text → Subst → Text
found_line sig subject rule s = subject ++ (32 ∷ rule ++ (32 ∷ subst_text sig s ++ 10 ∷ []))

-- the line of a match
abbrev pub match_line : Sig → Match → Text
match_line sig m = found_line sig m.subject.name m.rule.name m.subst

-- a line for each match
abbrev pub match_lines : Sig → List Match → Text
match_lines sig ms = flat_map (match_line sig) ms

-- the text is the match's token: the names of its subject and its rule, and for each node the ranks of what it takes in
-- the table of the subject and the rule's constants
pub record IsTokenOf (m : Match) (text : Text) : Type 0 where
  pub ranks : Table
  pub ranked : IsTableOf m.subject.term (rule_constants m.rule) ranks
  pub entries : List Entry
  pub read : ReadAs ranks entries m.table
  pub spelt : text ≡ front_text m.subject.name m.rule.name entries

-- a cursor goes over the rule and the table of the subject and of the rule's constants
pub record GoesOver (s : Subject) (r : Rule) (c : Listing) : Type 0 where
  pub rule : c.rule ≡ r
  pub table : IsTableOf s.term (rule_constants r) c.table

-- more matches follow behind the one of this token
abbrev pub more_line : Text → Text
more_line token = codes "more " ++ (token ++ 10 ∷ [])
