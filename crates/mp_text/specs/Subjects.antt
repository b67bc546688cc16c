-- The subjects that statements stand for.
use Rattle.std.specs.Prelude.{List, [], ◌∷◌}
use Rattle.mp_term.specs.Signature.{Sig}
use Rattle.mp_term.specs.Normal.{normal}
use Rattle.mp_parser.specs.Syntax.{Spot, Tree, Statement, OpOf, KindOf, RuleOf, SubjectOf, EditOf}
use Rattle.mp_build.specs.Build.{term_of}
use Rattle.mp_text.specs.Subject.{Subject}

module _ (sig : Sig) where
  -- subject NAME: TERM; with the term in normal form
  abbrev pub subject_of : Spot → Tree → Subject
  subject_of name t = record { name = name.text; term = normal sig (term_of sig t) }

  -- the subjects of the statements, in order
  abbrev pub subjects_of : List Statement → List Subject
  subjects_of [] = []
  subjects_of (OpOf name least more flags ∷ ss) = subjects_of ss
  subjects_of (KindOf name members ∷ ss) = subjects_of ss
  subjects_of (RuleOf name p x c ∷ ss) = subjects_of ss
  subjects_of (SubjectOf name t ∷ ss) = subject_of name t ∷ subjects_of ss
  subjects_of (EditOf subject changes ∷ ss) = subjects_of ss
