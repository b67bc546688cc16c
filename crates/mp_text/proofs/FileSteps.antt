-- The rules, subjects and edit statements of a file, statement by statement.
use Rattle.std.proofs.Common.{◌≡◌, ℕ, List, [], ◌∷◌, ◌++◌, map, append-nil, refl}
use Rattle.std.proofs.Common.{append_assoc, sym, ap, ◌∙◌}
use Rattle.std.specs.Prelude.{Option}
use Rattle.mp_term.specs.Signature.{Sig}
use Rattle.mp_term.specs.Tree as term
use Rattle.mp_term.specs.Normal.{normal}
use Rattle.mp_pattern.specs.Admission.{Rule}
use Rattle.mp_parser.specs.Syntax.{Spot, Tree, Statement, OpOf, KindOf, RuleOf, SubjectOf, EditOf, Condition}
use Rattle.mp_parser.specs.Syntax.{Change}
use Rattle.mp_text.specs.declared.file.EditSet.{EditSet}
use Rattle.mp_text.specs.Subject.{Subject}
use Rattle.mp_text.specs.File.{FileTree}
use Rattle.mp_build.specs.Names.{rule_names, subject_names}
use Rattle.mp_build.specs.Build.{term_of}
use Rattle.mp_text.specs.Subjects.{subject_of, subjects_of}
use Rattle.mp_text.specs.FileBuild.{rule_of, rules_of, file_over}
use Rattle.mp_text.specs.EditStatements.{edit_sets_of, edit_sets_behind, edit_sets}

-- ---- rules and subjects

-- the names of the rules
pub names-rules_of : (sig : Sig) (ss : List Statement) → map (λ r. r.name) (rules_of sig ss) ≡ rule_names ss
names-rules_of sig [] = refl
names-rules_of sig (OpOf n least more flags ∷ ss) = names-rules_of sig ss
names-rules_of sig (KindOf n members ∷ ss) = names-rules_of sig ss
names-rules_of sig (RuleOf n p x c ∷ ss) = ap (λ l. n.text ∷ l) (names-rules_of sig ss)
names-rules_of sig (SubjectOf n t ∷ ss) = names-rules_of sig ss
names-rules_of sig (EditOf subject changes ∷ ss) = names-rules_of sig ss

-- the names of the subjects
pub names-subjects_of : (sig : Sig) (ss : List Statement) → map (λ s. s.name) (subjects_of sig ss) ≡ subject_names ss
names-subjects_of sig [] = refl
names-subjects_of sig (OpOf n least more flags ∷ ss) = names-subjects_of sig ss
names-subjects_of sig (KindOf n members ∷ ss) = names-subjects_of sig ss
names-subjects_of sig (RuleOf n p x c ∷ ss) = names-subjects_of sig ss
names-subjects_of sig (SubjectOf n t ∷ ss) = ap (λ l. n.text ∷ l) (names-subjects_of sig ss)
names-subjects_of sig (EditOf subject changes ∷ ss) = names-subjects_of sig ss

-- the rules of statements in two parts
pub rules_of-append : (sig : Sig) (a b : List Statement) → rules_of sig (a ++ b) ≡ rules_of sig a ++ rules_of sig b
rules_of-append sig [] b = refl
rules_of-append sig (OpOf n least more flags ∷ ss) b = rules_of-append sig ss b
rules_of-append sig (KindOf n members ∷ ss) b = rules_of-append sig ss b
rules_of-append sig (RuleOf n p x c ∷ ss) b = ap (λ l. rule_of sig n p x c ∷ l) (rules_of-append sig ss b)
rules_of-append sig (SubjectOf n t ∷ ss) b = rules_of-append sig ss b
rules_of-append sig (EditOf subject changes ∷ ss) b = rules_of-append sig ss b

-- the subjects of statements in two parts
pub subjects_of-append : (sig : Sig) (a b : List Statement)
    → subjects_of sig (a ++ b) ≡ subjects_of sig a ++ subjects_of sig b
subjects_of-append sig [] b = refl
subjects_of-append sig (OpOf n least more flags ∷ ss) b = subjects_of-append sig ss b
subjects_of-append sig (KindOf n members ∷ ss) b = subjects_of-append sig ss b
subjects_of-append sig (RuleOf n p x c ∷ ss) b = subjects_of-append sig ss b
subjects_of-append sig (SubjectOf n t ∷ ss) b = ap (λ l. subject_of sig n t ∷ l) (subjects_of-append sig ss b)
subjects_of-append sig (EditOf subject changes ∷ ss) b = subjects_of-append sig ss b

-- ---- rules, statement by statement

-- the rules with one rule more
pub rules_of-RuleOf : (sig : Sig) (old new : List Rule) (r : Rule) (ss : List Statement) (name : Spot) (p : Tree)
    (x : Option Tree) (c : Option Condition)
    → new ≡ old ++ r ∷ [] → old ≡ rules_of sig ss → r ≡ rule_of sig name p x c
    → new ≡ rules_of sig (ss ++ RuleOf name p x c ∷ [])
rules_of-RuleOf sig old new r ss name p x c added e h =
    added ∙ ap (λ l. l ++ r ∷ []) e ∙ ap (λ y. rules_of sig ss ++ y ∷ []) h
    ∙ sym (rules_of-append sig ss (RuleOf name p x c ∷ []))

-- ---- subjects, statement by statement

-- the subjects with one subject more
pub subjects_of-SubjectOf : (sig : Sig) (old new : List Subject) (word : List ℕ) (u : term.Tree) (ss : List Statement)
    (name : Spot) (t : Tree)
    → new ≡ old ++ record { name = word; term = u } ∷ []
    → old ≡ subjects_of sig ss → word ≡ name.text → u ≡ normal sig (term_of sig t)
    → new ≡ subjects_of sig (ss ++ SubjectOf name t ∷ [])
subjects_of-SubjectOf sig old new word u ss name t added e w n =
    let subject : List ℕ → term.Tree → Subject = λ x y. record { name = x; term = y } in
    added ∙ ap (λ l. l ++ subject word u ∷ []) e ∙ ap (λ x. subjects_of sig ss ++ subject x u ∷ []) w
    ∙ ap (λ y. subjects_of sig ss ++ subject name.text y ∷ []) n
    ∙ sym (subjects_of-append sig ss (SubjectOf name t ∷ []))

-- ---- files, statement by statement

-- the edit statements of statements in two parts
edit_sets_behind-append : (sig : Sig) (earlier a b : List Statement) → edit_sets_behind sig earlier (a ++ b)
    ≡ edit_sets_behind sig earlier a ++ edit_sets_behind sig (earlier ++ a) b
edit_sets_behind-append sig earlier [] b = ap (λ e. edit_sets_behind sig e b) (sym (append-nil earlier))
edit_sets_behind-append sig earlier (s ∷ a) b =
    let own = edit_sets_of sig earlier s in
    let behind = edit_sets_behind sig (earlier ++ s ∷ []) a in
    ap (λ l. own ++ l) (edit_sets_behind-append sig (earlier ++ s ∷ []) a b
    ∙ ap (λ e. behind ++ edit_sets_behind sig e b) (append_assoc earlier (s ∷ []) a))
    ∙ sym (append_assoc own behind (edit_sets_behind sig (earlier ++ s ∷ a) b))

-- the edit statements of statements and of one more
pub edit_sets-push : (sig : Sig) (ss : List Statement) (s : Statement)
    → edit_sets sig (ss ++ s ∷ []) ≡ edit_sets sig ss ++ edit_sets_of sig ss s
edit_sets-push sig ss s = edit_sets_behind-append sig [] ss (s ∷ [])
    ∙ ap (λ l. edit_sets sig ss ++ l) (append-nil (edit_sets_of sig ss s))

-- a statement that isn't an edit statement adds none
pub edit_sets-other : (sig : Sig) (ss : List Statement) (s : Statement) → edit_sets_of sig ss s ≡ []
    → edit_sets sig (ss ++ s ∷ []) ≡ edit_sets sig ss
edit_sets-other sig ss s none = edit_sets-push sig ss s ∙ ap (λ l. edit_sets sig ss ++ l) none
    ∙ append-nil (edit_sets sig ss)

module _ (sig : Sig) where
  -- the file of these rules, subjects and edit statements
  abbrev file_with : List Rule → List Subject → List EditSet → FileTree
  file_with rules subjects edits = record { sig = sig; rules = rules; subjects = subjects; edits = edits }

  -- a declaration adds neither a rule nor a subject nor an edit statement
  pub file_over-declaration : (ss : List Statement) (s : Statement) → rules_of sig (s ∷ []) ≡ []
      → subjects_of sig (s ∷ []) ≡ [] → edit_sets_of sig ss s ≡ [] → file_over sig (ss ++ s ∷ []) ≡ file_over sig ss
  file_over-declaration ss s no_rule no_subject no_edit =
      let rules : rules_of sig (ss ++ s ∷ []) ≡ rules_of sig ss =
      rules_of-append sig ss (s ∷ []) ∙ ap (λ l. rules_of sig ss ++ l) no_rule ∙ append-nil (rules_of sig ss) in
      let subjects : subjects_of sig (ss ++ s ∷ []) ≡ subjects_of sig ss =
      subjects_of-append sig ss (s ∷ []) ∙ ap (λ l. subjects_of sig ss ++ l) no_subject
      ∙ append-nil (subjects_of sig ss) in
      (λ j. file_with (rules j) (subjects j) (edit_sets-other sig ss s no_edit j))

  -- a file with one rule more
  pub file_over-RuleOf : (ss : List Statement) (name : Spot) (p : Tree) (x : Option Tree) (c : Option Condition)
      (new : List Rule)
      → new ≡ rules_of sig (ss ++ RuleOf name p x c ∷ [])
      → record (file_over sig ss) { rules = new } ≡ file_over sig (ss ++ RuleOf name p x c ∷ [])
  file_over-RuleOf ss name p x c new h =
      let s = RuleOf name p x c in
      let subjects : subjects_of sig ss ≡ subjects_of sig (ss ++ s ∷ []) =
      sym (subjects_of-append sig ss (s ∷ []) ∙ append-nil (subjects_of sig ss)) in
      (λ j. file_with (h j) (subjects j) (sym (edit_sets-other sig ss s refl) j))

  -- a file with one subject more
  pub file_over-SubjectOf : (ss : List Statement) (name : Spot) (t : Tree) (new : List Subject)
      → new ≡ subjects_of sig (ss ++ SubjectOf name t ∷ [])
      → record (file_over sig ss) { subjects = new } ≡ file_over sig (ss ++ SubjectOf name t ∷ [])
  file_over-SubjectOf ss name t new h =
      let s = SubjectOf name t in
      let rules : rules_of sig ss ≡ rules_of sig (ss ++ s ∷ []) =
      sym (rules_of-append sig ss (s ∷ []) ∙ append-nil (rules_of sig ss)) in
      (λ j. file_with (rules j) (h j) (sym (edit_sets-other sig ss s refl) j))

  -- a file with one edit statement more
  pub file_over-EditOf : (ss : List Statement) (name : Spot) (cs : List Change) (new : List EditSet)
      → new ≡ edit_sets sig (ss ++ EditOf name cs ∷ [])
      → record (file_over sig ss) { edits = new } ≡ file_over sig (ss ++ EditOf name cs ∷ [])
  file_over-EditOf ss name cs new h =
      let s = EditOf name cs in
      let rules : rules_of sig ss ≡ rules_of sig (ss ++ s ∷ []) =
      sym (rules_of-append sig ss (s ∷ []) ∙ append-nil (rules_of sig ss)) in
      let subjects : subjects_of sig ss ≡ subjects_of sig (ss ++ s ∷ []) =
      sym (subjects_of-append sig ss (s ∷ []) ∙ append-nil (subjects_of sig ss)) in
      (λ j. file_with (rules j) (subjects j) (h j))
