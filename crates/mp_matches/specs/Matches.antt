-- The matches of a file, in order.
use Rattle.std.specs.Prelude.{◌≡◌, List, [], ◌∷◌, ◌++◌}
use Rattle.mp_term.specs.Signature.{Sig}
use Rattle.mp_pattern.specs.Value.{Subst}
use Rattle.mp_pattern.specs.Fits as fits
use Rattle.mp_pattern.specs.Admission.{Rule}
use Rattle.mp_pattern.specs.Lists.{IsOneList}
use Rattle.mp_text.specs.File.{FileTree, Subject}
use Rattle.mp_matches.specs.Match.{Match}

-- the list is one part after another, a part for each item
abbrev pub IsJoinedBy : {X Y : Type 0} → (X → List Y → Type 0) → List X → List Y → Type 0
IsJoinedBy P [] ys = ys ≡ []
IsJoinedBy {Y = Y} P (x ∷ xs) ys =
    (front : List Y) × (rest : List Y) × (ys ≡ front ++ rest) × P x front × IsJoinedBy P xs rest

-- a match for each substitution, with the table at its place
abbrev pub matches_with : Subject → Rule → List Subst → List fits.Table → List Match
matches_with subject rule (s ∷ ss) (t ∷ ts) =
    record { subject = subject; rule = rule; subst = s; table = t } ∷ matches_with subject rule ss ts
matches_with subject rule _ _ = []

-- a match for each member of the one-list of the rule and the subject, with its least take table
pub record AreRuleMatches (sig : Sig) (subject : Subject) (rule : Rule) (ms : List Match) : Type 0 where
  pub substs : List Subst
  pub listed : IsOneList sig rule subject.term substs
  pub matches : ms ≡ matches_with subject rule substs listed.tables

-- the subjects in file order, and for each of them the rules in file order
abbrev pub AreMatches : FileTree → List Match → Type 0
AreMatches file = IsJoinedBy (λ subject. IsJoinedBy (AreRuleMatches file.sig subject) file.rules) file.subjects
