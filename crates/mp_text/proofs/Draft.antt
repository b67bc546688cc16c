-- A file while it is built: what each statement adds to it.
use Rattle.std.proofs.Common.{◌≡◌, ◌<◌, arith, length-append, ℕ, List, [], ◌∷◌, ◌++◌, length, append-nil}
use Rattle.std.proofs.Common.{Option, sym, ap, ◌∙◌}
use Rattle.mp_term.specs.Tree as term
use Rattle.mp_term.specs.Signature.{Sig}
use Rattle.mp_term.specs.Normal.{normal}
use Rattle.mp_pattern.specs.Admission.{Rule}
use Rattle.mp_parser.specs.Syntax.{Spot, Tree, Condition, Statement, RuleOf, SubjectOf, EditOf, Change}
use Rattle.mp_pattern.specs.declared.limits.TheConstants.{MAX_SUBJECTS}
use Rattle.mp_text.specs.declared.file.EditSet.{EditSet}
use Rattle.mp_text.specs.EditStatements.{edit_sets_of, edit_sets}
use Rattle.mp_text.specs.declared.reader.Draft.{Draft}
use Rattle.mp_text.specs.File.{FileTree}
use Rattle.mp_text.specs.Subject.{Subject}
use Rattle.mp_build.specs.Names.{rule_names, subject_names}
use Rattle.mp_build.specs.Build.{term_of}
use Rattle.mp_text.specs.Subjects.{subjects_of}
use Rattle.mp_text.specs.FileBuild.{rule_of, rules_of}
use Rattle.mp_text.specs.Draft.{IsDraftOf}
use Rattle.mp_text.proofs.FileSteps.{rules_of-RuleOf, subjects_of-SubjectOf}
use Rattle.mp_text.proofs.FileSteps.{file_over-declaration, file_over-RuleOf, file_over-SubjectOf, file_over-EditOf}
use Rattle.mp_text.proofs.FileSteps.{edit_sets-push}
use Rattle.mp_text.proofs.Statements.{rule_names-append, subject_names-append}

module _ (sig : Sig) (ss : List Statement) (d : Draft) (is : IsDraftOf sig ss d) where
  -- its signature is that one
  pub draft_sig : d.file.sig ≡ sig
  draft_sig = ap (λ f. f.sig) is.file

  -- a declaration adds nothing
  pub draft-declaration : (s : Statement) → rules_of sig (s ∷ []) ≡ [] → subjects_of sig (s ∷ []) ≡ []
      → edit_sets_of sig ss s ≡ [] → rule_names (s ∷ []) ≡ [] → subject_names (s ∷ []) ≡ []
      → IsDraftOf sig (ss ++ s ∷ []) d
  draft-declaration s no_rule no_subject no_edit no_rule_name no_subject_name = record {
    file = is.file ∙ sym (file_over-declaration sig ss s no_rule no_subject no_edit);
    rules = is.rules
        ∙ sym (rule_names-append ss (s ∷ []) ∙ ap (λ l. rule_names ss ++ l) no_rule_name ∙ append-nil (rule_names ss));
    subjects = is.subjects
        ∙ sym (subject_names-append ss (s ∷ []) ∙ ap (λ l. subject_names ss ++ l) no_subject_name
        ∙ append-nil (subject_names ss));
    few = is.few;
  }

  -- a rule adds itself and its name
  pub draft-rule : (name : Spot) (p : Tree) (x : Option Tree) (c : Option Condition) (r : Rule) (rules : List Rule)
      (names : List (List ℕ)) → rules ≡ d.file.rules ++ r ∷ [] → r ≡ rule_of sig name p x c
      → names ≡ d.rule_names ++ name.text ∷ []
      → IsDraftOf sig (ss ++ RuleOf name p x c ∷ [])
      (record d { file = record d.file { rules = rules }; rule_names = names })
  draft-rule name p x c r rules names added is_rule named =
      let with_rules : FileTree → FileTree = λ f. record f { rules = rules } in
      record {
        file = ap with_rules is.file
            ∙ file_over-RuleOf sig ss name p x c rules
            (rules_of-RuleOf sig d.file.rules rules r ss name p x c added (ap (λ f. f.rules) is.file) is_rule);
        rules = named ∙ ap (λ l. l ++ name.text ∷ []) is.rules
            ∙ sym (rule_names-append ss (RuleOf name p x c ∷ []));
        subjects = is.subjects
            ∙ sym (subject_names-append ss (RuleOf name p x c ∷ []) ∙ append-nil (subject_names ss));
        few = is.few;
      }

  -- a subject adds itself and its name
  pub draft-subject : (name : Spot) (t : Tree) (word : List ℕ) (u : term.Tree) (subjects : List Subject)
      (names : List (List ℕ)) → subjects ≡ d.file.subjects ++ record { name = word; term = u } ∷ [] → word ≡ name.text
      → u ≡ normal sig (term_of sig t) → names ≡ d.subject_names ++ name.text ∷ []
      → length d.subject_names < MAX_SUBJECTS
      → IsDraftOf sig (ss ++ SubjectOf name t ∷ [])
      (record d { file = record d.file { subjects = subjects }; subject_names = names })
  draft-subject name t word u subjects names added is_name is_term named room =
      let with_subjects : FileTree → FileTree = λ f. record f { subjects = subjects } in
      record {
        file = ap with_subjects is.file
            ∙ file_over-SubjectOf sig ss name t subjects
            (subjects_of-SubjectOf sig d.file.subjects subjects word u ss name t added
            (ap (λ f. f.subjects) is.file) is_name is_term);
        rules = is.rules ∙ sym (rule_names-append ss (SubjectOf name t ∷ []) ∙ append-nil (rule_names ss));
        subjects = named ∙ ap (λ l. l ++ name.text ∷ []) is.subjects
            ∙ sym (subject_names-append ss (SubjectOf name t ∷ []));
        few = omega (arith, ap length named, length-append d.subject_names (name.text ∷ []));
      }

  -- as many edit statements are held as were given
  pub draft_edit_count : length d.file.edits ≡ length (edit_sets sig ss)
  draft_edit_count = ap (λ f. length f.edits) is.file

  -- an edit statement adds itself
  pub draft-edit : (name : Spot) (cs : List Change) (set : EditSet) (sets : List EditSet)
      → sets ≡ d.file.edits ++ set ∷ [] → set ∷ [] ≡ edit_sets_of sig ss (EditOf name cs)
      → IsDraftOf sig (ss ++ EditOf name cs ∷ []) (record d { file = record d.file { edits = sets } })
  draft-edit name cs set sets added is_set =
      let with_edits : FileTree → FileTree = λ f. record f { edits = sets } in
      record {
        file = ap with_edits is.file
            ∙ file_over-EditOf sig ss name cs sets
            (added ∙ ap (λ f. f.edits ++ set ∷ []) is.file ∙ ap (λ l. edit_sets sig ss ++ l) is_set
            ∙ sym (edit_sets-push sig ss (EditOf name cs)));
        rules = is.rules ∙ sym (rule_names-append ss (EditOf name cs ∷ []) ∙ append-nil (rule_names ss));
        subjects = is.subjects ∙ sym (subject_names-append ss (EditOf name cs ∷ []) ∙ append-nil (subject_names ss));
        few = is.few;
      }
