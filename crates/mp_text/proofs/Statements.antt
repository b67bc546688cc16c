-- What holds of statements without faults, statement by statement: their rules, their subjects and the names of both.
use Rattle.std.proofs.Common.{◌≡◌, ◌≤◌, ◌<◌, ℕ, true, false, List, [], ◌∷◌, ◌++◌, length, Option, append-nil}
use Rattle.std.proofs.Common.{append_assoc, length-append, refl, sym, ap, subst, arith}
use Rattle.std.specs.List.{AllByRecursion}
use Rattle.mp_term.specs.Signature.{Sig}
use Rattle.mp_term.specs.Names.{are_distinct}
use Rattle.mp_term.proofs.ListLaws.{all-append, both-empty}
use Rattle.mp_pattern.specs.declared.limits.TheConstants.{MAX_RULES, MAX_SUBJECTS}
use Rattle.mp_pattern.specs.Admission.{Rule}
use Rattle.mp_parser.specs.declared.limits.TheConstants.{MAX_OPEN}
use Rattle.mp_parser.specs.Syntax.{Spot, Tree, Condition, Statement, OpOf, KindOf, RuleOf, SubjectOf, EditOf}
use Rattle.mp_parser.specs.Syntax.{FitsStatement, AreStatements, StatementHasNames, StatementsHaveNames}
use Rattle.mp_build.specs.declared.fault.TextFault.{TextFault}
use Rattle.mp_text.specs.Subject.{Subject}
use Rattle.mp_build.specs.Names.{is_among, rule_names, subject_names}
use Rattle.mp_text.specs.Subjects.{subject_of, subjects_of}
use Rattle.mp_text.specs.FileBuild.{rule_of, rules_of}
use Rattle.mp_build.specs.Checks.{is_large_term, term_faults, name_faults, faults_by}
use Rattle.mp_text.specs.FileChecks.{rule_faults, is_large_rule, statement_faults}
use Rattle.mp_text.proofs.FileSteps.{rules_of-append, subjects_of-append}
use Rattle.mp_build.proofs.SoundLaws.{are_distinct-push, named-by}

-- ---- statement by statement

-- a statement as the grammar has it: its words are names, its signs are signs, and it fits
pub record IsRead (s : Statement) : Type 0 where
  pub names : StatementHasNames s
  pub fits : FitsStatement MAX_OPEN s

-- each statement is so where their words are names and they fit
pub all-IsRead : (ss : List Statement) → StatementsHaveNames ss → AreStatements MAX_OPEN ss → AllByRecursion IsRead ss
all-IsRead [] names fits = tt
all-IsRead (s ∷ ss) names fits = (record { names = names.0; fits = fits.0 }, all-IsRead ss names.1 fits.1)

-- what a statement without faults keeps, and holds before the statements, holds behind them
module _ (rule : List Statement → Statement → List TextFault) (I : List Statement → Type 0)
    (step : (earlier : List Statement) (s : Statement) → IsRead s → rule earlier s ≡ [] → I earlier
    → I (earlier ++ s ∷ [])) where
  pub holds-behind : (earlier ss : List Statement) → AllByRecursion IsRead ss → faults_by rule earlier ss ≡ []
      → I earlier → I (earlier ++ ss)
  holds-behind earlier [] read h i = subst I (sym (append-nil earlier)) i
  holds-behind earlier (s ∷ ss) read h i =
      let p = both-empty (rule earlier s) (faults_by rule (earlier ++ s ∷ []) ss) h in
      subst I (append_assoc earlier (s ∷ []) ss)
      (holds-behind (earlier ++ s ∷ []) ss read.1 p.1 (step earlier s read.0 p.0 i))

-- ---- rules and subjects

module _ (sig : Sig) (R : Rule → Type 0) (S : Subject → Type 0)
    (rule-of : (name : Spot) (p : Tree) (x : Option Tree) (c : Option Condition) → IsRead (RuleOf name p x c)
    → is_large_rule p x c ≡ false → rule_faults sig p x c ≡ [] → R (rule_of sig name p x c))
    (subject-of : (name : Spot) (t : Tree) → IsRead (SubjectOf name t) → is_large_term t ≡ false
    → term_faults sig t ≡ [] → S (subject_of sig name t))
  where
    -- rules and subjects of which the facts hold
    record Hold (rules : List Rule) (subjects : List Subject) : Type 0 where
      pub rules_hold : AllByRecursion R rules
      pub subjects_hold : AllByRecursion S subjects

    hold-statement : (earlier : List Statement) (s : Statement) → IsRead s → statement_faults sig earlier s ≡ []
        → Hold (rules_of sig (s ∷ [])) (subjects_of sig (s ∷ []))
    hold-statement earlier (OpOf name least more flags) read h = record { rules_hold = tt; subjects_hold = tt }
    hold-statement earlier (KindOf name members) read h = record { rules_hold = tt; subjects_hold = tt }
    hold-statement earlier (RuleOf name p x c) read h =
        let large = is_large_rule p x c in
        let q = both-empty (name_faults MAX_RULES (rule_names earlier) large name) (rule_faults sig p x c) h in
        record {
          rules_hold = (
            rule-of name p x c read
                (named-by MAX_RULES (rule_names earlier) large name q.0).small q.1,
            tt,
          );
          subjects_hold = tt;
        }
    hold-statement earlier (SubjectOf name t) read h =
        let q = both-empty (name_faults MAX_SUBJECTS (subject_names earlier) (is_large_term t) name)
        (term_faults sig t) h in
        record {
          rules_hold = tt;
          subjects_hold = (
            subject-of name t read (named-by MAX_SUBJECTS (subject_names earlier) (is_large_term t) name q.0).small
                q.1,
            tt,
          );
        }
    hold-statement earlier (EditOf subject changes) read h = record { rules_hold = tt; subjects_hold = tt }

    hold-behind : (earlier : List Statement) (s : Statement) → IsRead s → statement_faults sig earlier s ≡ []
        → Hold (rules_of sig earlier) (subjects_of sig earlier)
        → Hold (rules_of sig (earlier ++ s ∷ [])) (subjects_of sig (earlier ++ s ∷ []))
    hold-behind earlier s read h i =
        let own = hold-statement earlier s read h in
        record {
          rules_hold = subst (AllByRecursion R) (sym (rules_of-append sig earlier (s ∷ [])))
              (all-append R (rules_of sig earlier) (rules_of sig (s ∷ [])) i.rules_hold own.rules_hold);
          subjects_hold = subst (AllByRecursion S) (sym (subjects_of-append sig earlier (s ∷ [])))
              (all-append S (subjects_of sig earlier) (subjects_of sig (s ∷ [])) i.subjects_hold own.subjects_hold);
        }

    -- the facts hold of the rules and subjects of statements without faults
    pub all-rules_of : (ss : List Statement) → AllByRecursion IsRead ss → faults_by (statement_faults sig) [] ss ≡ []
        → AllByRecursion R (rules_of sig ss) × AllByRecursion S (subjects_of sig ss)
    all-rules_of ss read h =
        let all = holds-behind (statement_faults sig) (λ ss. Hold (rules_of sig ss) (subjects_of sig ss)) hold-behind
        [] ss read h (record { rules_hold = tt; subjects_hold = tt }) in
        (all.rules_hold, all.subjects_hold)

-- ---- the names of statements

-- the names of the rules of statements in two parts
pub rule_names-append : (a b : List Statement) → rule_names (a ++ b) ≡ rule_names a ++ rule_names b
rule_names-append [] b = refl
rule_names-append (OpOf name least more flags ∷ ss) b = rule_names-append ss b
rule_names-append (KindOf name members ∷ ss) b = rule_names-append ss b
rule_names-append (RuleOf name p x c ∷ ss) b = ap (λ l. name.text ∷ l) (rule_names-append ss b)
rule_names-append (SubjectOf name t ∷ ss) b = rule_names-append ss b
rule_names-append (EditOf subject changes ∷ ss) b = rule_names-append ss b

-- the names of the subjects of statements in two parts
pub subject_names-append : (a b : List Statement) → subject_names (a ++ b) ≡ subject_names a ++ subject_names b
subject_names-append [] b = refl
subject_names-append (OpOf name least more flags ∷ ss) b = subject_names-append ss b
subject_names-append (KindOf name members ∷ ss) b = subject_names-append ss b
subject_names-append (RuleOf name p x c ∷ ss) b = subject_names-append ss b
subject_names-append (SubjectOf name t ∷ ss) b = ap (λ l. name.text ∷ l) (subject_names-append ss b)
subject_names-append (EditOf subject changes ∷ ss) b = subject_names-append ss b

-- names that differ, and are at most so many
pub record Good (most : ℕ) (names : List (List ℕ)) : Type 0 where
  pub distinct : are_distinct names ≡ true
  pub few : length names ≤ most

good-push : (most : ℕ) (names : List (List ℕ)) (name : List ℕ) → Good most names → is_among name names ≡ false
    → length names < most → Good most (names ++ name ∷ [])
good-push most names name g other few = record {
  distinct = are_distinct-push names name g.distinct other;
  few = omega (arith, length-append names (name ∷ []));
}

module _ (sig : Sig) where
  good-rule : (earlier : List Statement) (s : Statement) → IsRead s → statement_faults sig earlier s ≡ []
      → Good MAX_RULES (rule_names earlier) → Good MAX_RULES (rule_names (earlier ++ s ∷ []))
  good-rule earlier s read h g = subst (Good MAX_RULES) (sym (rule_names-append earlier (s ∷ []))) (by_sort s h)
    where
      same : Good MAX_RULES (rule_names earlier ++ [])
      same = subst (Good MAX_RULES) (sym (append-nil (rule_names earlier))) g

      by_sort : (s : Statement) → statement_faults sig earlier s ≡ []
          → Good MAX_RULES (rule_names earlier ++ rule_names (s ∷ []))
      by_sort (OpOf name least more flags) h = same
      by_sort (KindOf name members) h = same
      by_sort (RuleOf name p x c) h =
          let large = is_large_rule p x c in
          let n = named-by MAX_RULES (rule_names earlier) large name
          (both-empty (name_faults MAX_RULES (rule_names earlier) large name) (rule_faults sig p x c) h).0 in
          good-push MAX_RULES (rule_names earlier) name.text g n.other n.few
      by_sort (SubjectOf name t) h = same
      by_sort (EditOf subject changes) h = same

  good-subject : (earlier : List Statement) (s : Statement) → IsRead s → statement_faults sig earlier s ≡ []
      → Good MAX_SUBJECTS (subject_names earlier) → Good MAX_SUBJECTS (subject_names (earlier ++ s ∷ []))
  good-subject earlier s read h g = subst (Good MAX_SUBJECTS) (sym (subject_names-append earlier (s ∷ [])))
      (by_sort s h)
    where
      same : Good MAX_SUBJECTS (subject_names earlier ++ [])
      same = subst (Good MAX_SUBJECTS) (sym (append-nil (subject_names earlier))) g

      by_sort : (s : Statement) → statement_faults sig earlier s ≡ []
          → Good MAX_SUBJECTS (subject_names earlier ++ subject_names (s ∷ []))
      by_sort (OpOf name least more flags) h = same
      by_sort (KindOf name members) h = same
      by_sort (RuleOf name p x c) h = same
      by_sort (SubjectOf name t) h =
          let n = named-by MAX_SUBJECTS (subject_names earlier) (is_large_term t) name
          (both-empty (name_faults MAX_SUBJECTS (subject_names earlier) (is_large_term t) name)
          (term_faults sig t) h).0 in
          good-push MAX_SUBJECTS (subject_names earlier) name.text g n.other n.few
      by_sort (EditOf subject changes) h = same

  -- the names of the rules of statements without faults
  pub good-rules : (ss : List Statement) → AllByRecursion IsRead ss → faults_by (statement_faults sig) [] ss ≡ []
      → Good MAX_RULES (rule_names ss)
  good-rules ss read h = holds-behind (statement_faults sig) (λ ss. Good MAX_RULES (rule_names ss)) good-rule
      [] ss read h (record { distinct = refl; few = omega arith })

  -- and those of the subjects
  pub good-subjects : (ss : List Statement) → AllByRecursion IsRead ss → faults_by (statement_faults sig) [] ss ≡ []
      → Good MAX_SUBJECTS (subject_names ss)
  good-subjects ss read h = holds-behind (statement_faults sig)
      (λ ss. Good MAX_SUBJECTS (subject_names ss)) good-subject [] ss read h
      (record { distinct = refl; few = omega arith })
