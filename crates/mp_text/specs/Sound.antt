-- What holds of every file that is read.
use Rattle.std.specs.Prelude.{◌≡◌, ◌≢◌, ◌≤◌, ◌-◌, ℕ, true, List, [], ◌∷◌, length, map, Option, Some, None, slice_get}
use Rattle.std.specs.List.{AllByRecursion}
use Rattle.mp_term.specs.Tree.{Tree}
use Rattle.mp_term.specs.Size.{depth}
use Rattle.mp_term.specs.declared.edit.Edit.{Edit}
use Rattle.mp_term.specs.declared.edit_fault.EditFault.{EditFault}
use Rattle.mp_term.specs.declared.edit_fault.EditFault.TheVariants.{BadPosition, Overlap, Arity, TooLarge, TooDeep}
use Rattle.mp_term.specs.declared.edit_fault.EditFault.TheVariants.{Memory}
use Rattle.mp_term.specs.declared.limits.TheConstants.{MAX_EDITS}
use Rattle.mp_term.specs.EditFault.{edit_fault}
use Rattle.mp_term.specs.Signature.{Sig, IsSignature}
use Rattle.mp_term.specs.Names.{is_name, are_distinct}
use Rattle.mp_pattern.specs.declared.limits.TheConstants.{MAX_TERM_NODES, MAX_DEPTH, MAX_SUBJECTS}
use Rattle.mp_pattern.specs.declared.limits.TheConstants.{MAX_INDEX, MAX_EDIT_STATEMENTS}
use Rattle.mp_pattern.specs.SoundRule.{IsSoundTerm, AreSoundRules}
use Rattle.mp_text.specs.declared.file.EditSet.{EditSet}
use Rattle.mp_text.specs.File.{FileTree, Subject}

-- a subject: its name is one, and its term is sound and within its limits
pub record IsSoundSubject (sig : Sig) (s : Subject) : Type 0 where
  pub name : is_name s.name ≡ true
  pub term : IsSoundTerm sig MAX_TERM_NODES s.term
  pub shallow : depth s.term ≤ MAX_DEPTH

-- how deep new terms may be: alone as deep as a term, and one less in square brackets
abbrev pub new_depth : List Tree → ℕ
new_depth (t ∷ []) = MAX_DEPTH
new_depth _ = MAX_DEPTH - 1

-- an edit: no index is above MAX_INDEX, and its new terms are sound and not too deep
pub record IsSoundEdit (sig : Sig) (e : Edit) : Type 0 where
  pub indexes : AllByRecursion (λ i. i ≤ MAX_INDEX) e.position
  pub terms : AllByRecursion (IsSoundTerm sig MAX_TERM_NODES) e.terms
  pub shallow : AllByRecursion (λ t. depth t ≤ new_depth e.terms) e.terms

-- nothing hinders edits, or only the size of what they give
abbrev pub IsMakeable : Option EditFault → Type 0
IsMakeable None = Unit {0}
IsMakeable (Some (TooLarge n)) = Unit {0}
IsMakeable (Some (TooDeep n)) = Unit {0}
IsMakeable (Some (BadPosition i)) = ⊥
IsMakeable (Some (Overlap i j)) = ⊥
IsMakeable (Some (Arity i)) = ⊥
IsMakeable (Some Memory) = ⊥

-- the edits can be made on the subject, which is there
abbrev pub AreOn : Sig → List Edit → Option Subject → Type 0
AreOn sig es None = ⊥
AreOn sig es (Some s) = IsMakeable (edit_fault sig s.term es)

-- an edit statement over subjects: its subject is one of them, it has an edit and at most MAX_EDITS, its edits are
-- sound, and they can be made but for the size of what they give
pub record IsSoundEditSet (sig : Sig) (ss : List Subject) (e : EditSet) : Type 0 where
  pub edits : AllByRecursion (IsSoundEdit sig) e.edits
  pub some : e.edits ≢ []
  pub few : length e.edits ≤ MAX_EDITS
  pub makeable : AreOn sig e.edits (slice_get ss e.subject)

-- its signature is one, its rules, each subject and each edit statement are sound, no two subjects have one name, and
-- there are at most MAX_SUBJECTS subjects and MAX_EDIT_STATEMENTS edit statements
pub record IsSoundFile (f : FileTree) : Type 0 where
  pub signature : IsSignature f.sig
  pub rules : AreSoundRules f.sig f.rules
  pub subjects : AllByRecursion (IsSoundSubject f.sig) f.subjects
  pub subject_names : are_distinct (map (λ s. s.name) f.subjects) ≡ true
  pub few_subjects : length f.subjects ≤ MAX_SUBJECTS
  pub edits : AllByRecursion (IsSoundEditSet f.sig f.subjects) f.edits
  pub few_edits : length f.edits ≤ MAX_EDIT_STATEMENTS
