-- A file that is read is sound.
use Rattle.std.proofs.Common.{◌≡◌, ℕ, true, false, ◌||◌, List, [], ◌++◌, length, Option, Some, None, sym, ap}
use Rattle.std.proofs.Common.{subst}
use Rattle.std.proofs.Common.{arith}
use Rattle.std.specs.Prelude.{Result, Ok, Err, IfOk, option_map}
use Rattle.std.proofs.lemmas.List.{length-map}
use Rattle.std.proofs.lemmas.Bool.{or_parts}
use Rattle.mp_term.specs.Signature.{Sig, all_in_order}
use Rattle.mp_term.proofs.ListLaws.{both-empty}
use Rattle.mp_pattern.specs.declared.limits.TheConstants.{MAX_DEPTH}
use Rattle.mp_pattern.specs.Normal.{normal_pattern}
use Rattle.mp_pattern.specs.SoundRule.{HasSoundCondition, HasSoundTemplate, IsSoundRule}
use Rattle.mp_parser.specs.declared.limits.TheConstants.{MAX_OPEN}
use Rattle.mp_parser.specs.Syntax.{Spot, Tree, Condition, Statement, RuleOf, Fits, FitsTemplate, FitsIf, AreStatements}
use Rattle.mp_parser.specs.Syntax.{HasNames, TemplateHasNames, IfHasNames, StatementsHaveNames}
use Rattle.mp_syntax.proofs.Whole.{syntax-names}
use Rattle.mp_build.specs.Conditions.{condition_of}
use Rattle.mp_build.specs.Build.{op_decls, pattern_of, template_of, sig_of}
use Rattle.mp_text.specs.Subjects.{subjects_of}
use Rattle.mp_text.specs.FileBuild.{rule_of, rules_of, file_tree_of}
use Rattle.mp_build.specs.Checks.{is_large_pattern, loose_faults, pattern_faults, whole_pattern_faults}
use Rattle.mp_build.specs.Checks.{op_statement_faults, kind_statement_faults, declaration_faults, faults_by}
use Rattle.mp_build.specs.Scope.{pattern_variables}
use Rattle.mp_build.specs.ConditionChecks.{has_large_condition, if_faults}
use Rattle.mp_build.specs.TemplateChecks.{has_large_template, arrow_faults}
use Rattle.mp_text.specs.FileChecks.{rule_faults, is_large_rule, statement_faults, faults}
use Rattle.mp_text.specs.Sound.{IsSoundSubject, IsSoundFile}
use Rattle.mp_build.specs.declared.fault.TextError.{TextError}
use Rattle.mp_text.specs.declared.file.File as code_file
use Rattle.mp_text.specs.File.{FileTree, file_tree}
use Rattle.mp_text.specs.Reading.{IsFileOf}
use Rattle.mp_text.specs.Computed.{ReadGives}
use Rattle.mp_build.proofs.Words.{is_name-IsName}
use Rattle.mp_text.proofs.FileSteps.{names-rules_of, names-subjects_of}
use Rattle.mp_build.proofs.SoundLaws.{sound-pattern}
use Rattle.mp_text.proofs.SoundSubject.{sound-subject}
use Rattle.mp_build.proofs.BoundNames.{known-variables, single-variables}
use Rattle.mp_build.proofs.Extents.{extents-normal}
use Rattle.mp_build.proofs.SoundTemplate.{sound-template_of}
use Rattle.mp_build.proofs.SoundConditionLaws.{sound-cond_of}
use Rattle.mp_text.specs.EditStatements.{edit_sets}
use Rattle.mp_text.proofs.SoundEdits.{EditsHold, edits-behind}
use Rattle.mp_text.proofs.Statements.{IsRead, all-IsRead, holds-behind, all-rules_of, good-rules, good-subjects}
use Rattle.mp_text.proofs.ReadFile.{AreDeclaredOps-op_decls, AreDeclaredKinds-kind_decls}

module _ (sig : Sig) (ordered : all_in_order sig.ops ≡ true) where
  sound-if : (p : Tree) (c : Option Condition) → FitsIf MAX_OPEN c → IfHasNames c
      → if_faults sig (Some (pattern_variables p)) c ≡ [] → has_large_condition c ≡ false
      → HasSoundCondition sig (normal_pattern sig (pattern_of sig p)) (condition_of sig c)
  sound-if p None fits names none small = tt
  sound-if p (Some c) fits names none small =
      sound-cond_of sig ordered (pattern_variables p) (normal_pattern sig (pattern_of sig p))
      (λ x some h. known-variables x some sig p h)
      (λ x h. single-variables x sig p h) MAX_DEPTH c fits names none small

  -- the pattern of a rule has no faults of its own, so that a template and a condition go by its variables
  sound-arrow : (p : Tree) (x : Option Tree) → HasNames p → Fits MAX_DEPTH p → pattern_faults sig [] p ≡ []
      → FitsTemplate MAX_OPEN x → TemplateHasNames x → arrow_faults (pattern_variables p) sig x ≡ []
      → has_large_template x ≡ false
      → HasSoundTemplate sig (normal_pattern sig (pattern_of sig p)) (option_map (template_of sig) x)
  sound-arrow p None names fits free fit named none small = tt
  sound-arrow p (Some x) names fits free fit named none small =
      sound-template_of sig (pattern_variables p) (normal_pattern sig (pattern_of sig p))
      (λ y some h. known-variables y some sig p h)
      (λ y some h. extents-normal sig MAX_DEPTH p names fits free y some)
      (λ y some h k. single-variables y sig p k) x named fit small none

  -- a rule without faults
  pub sound-rule : (name : Spot) (p : Tree) (x : Option Tree) (c : Option Condition) → IsRead (RuleOf name p x c)
      → is_large_rule p x c ≡ false → rule_faults sig p x c ≡ [] → IsSoundRule sig (rule_of sig name p x c)
  sound-rule name p x c read small none =
      let o = or_parts (is_large_pattern p) (has_large_template x || has_large_condition c) small in
      let l = or_parts (has_large_template x) (has_large_condition c) o.1 in
      let q = both-empty (whole_pattern_faults sig p)
      (arrow_faults (pattern_variables p) sig x ++ if_faults sig (Some (pattern_variables p)) c) none in
      let r = both-empty (arrow_faults (pattern_variables p) sig x)
      (if_faults sig (Some (pattern_variables p)) c) q.1 in
      let free = (both-empty (loose_faults p) (pattern_faults sig [] p) q.0).1 in
      record {
        name = is_name-IsName name.text read.names.0;
        pattern = sound-pattern sig ordered p read.names.1 o.0 q.0 read.fits.0;
        template = sound-arrow p x read.names.1 read.fits.0 free read.fits.1 read.names.2 r.0 l.0;
        condition = sound-if p c read.fits.2 read.names.3 r.1 l.1;
      }

-- the file of statements without faults is sound
pub sound-file : (ss : List Statement) → StatementsHaveNames ss → AreStatements MAX_OPEN ss → faults ss ≡ []
    → IsSoundFile (file_tree_of ss)
sound-file ss names fit h =
    let sig = sig_of ss in
    let read = all-IsRead ss names fit in
    let declared = both-empty (declaration_faults ss) (faults_by (statement_faults sig) [] ss) h in
    let none : faults_by (statement_faults sig) [] ss ≡ [] = declared.1 in
    let parts = both-empty (faults_by op_statement_faults [] ss)
    (faults_by (kind_statement_faults (op_decls ss)) [] ss) declared.0 in
    let signature =
    (AreDeclaredKinds-kind_decls (op_decls ss) ss read parts.1
    (AreDeclaredOps-op_decls ss read parts.0)).signature in
    let ordered : all_in_order sig.ops ≡ true = signature.ops_in_order in
    let all = all-rules_of sig (IsSoundRule sig) (IsSoundSubject sig) (sound-rule sig ordered)
    (λ name t one small free. sound-subject sig ordered name t one.names.0 one.names.1 small free one.fits) ss read
    none in
    let rules = good-rules sig ss read none in
    let subjects = good-subjects sig ss read none in
    let edits =
    holds-behind (statement_faults sig) (λ ss. EditsHold sig ordered (subjects_of sig ss) (edit_sets sig ss))
    (edits-behind sig ordered) [] ss read none (record { subjects_hold = tt; edits_hold = tt; few = omega arith }) in
    record {
      signature = signature;
      rules = record {
        each = all.0;
        names = rw (names-rules_of sig ss) rules.distinct;
        few = omega (arith, rules.few, length-map (rules_of sig ss) (λ r. r.name), ap length (names-rules_of sig ss));
      };
      subjects = all.1;
      subject_names = rw (names-subjects_of sig ss) subjects.distinct;
      few_subjects =
          omega (
            arith,
            subjects.few,
            length-map (subjects_of sig ss) (λ s. s.name),
            ap length
                (names-subjects_of sig ss),
          );
      edits = edits.edits_hold;
      few_edits = edits.few;
    }

-- the file of bytes is sound
pub IsSoundFile-IsFileOf : (bytes : List ℕ) (f : FileTree) → IsFileOf bytes f → IsSoundFile f
IsSoundFile-IsFileOf bytes f h = subst IsSoundFile (sym h.file)
    (sound-file h.statements (syntax-names bytes h.statements h.syntax) h.syntax.fits h.faultless)

-- a file that is read is sound
pub IsSoundFile-ReadGives : (bytes : List ℕ) (r : Result code_file.File TextError) → ReadGives bytes r
    → IfOk r (λ f. IsSoundFile (file_tree f))
IsSoundFile-ReadGives bytes (Ok f) h = IsSoundFile-IsFileOf bytes (file_tree f) h
IsSoundFile-ReadGives bytes (Err e) h = tt
