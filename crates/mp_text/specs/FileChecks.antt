-- The checks of a file's statements: all faults that they find, in the order in which they count.
use Rattle.std.specs.Prelude.{Bool, ◌||◌, List, [], ◌++◌, Option, Some}
use Rattle.mp_term.specs.Signature.{Sig}
use Rattle.mp_pattern.specs.declared.limits.TheConstants.{MAX_RULES, MAX_SUBJECTS}
use Rattle.mp_parser.specs.Syntax.{Tree, Condition, Statement, OpOf, KindOf, RuleOf, SubjectOf, EditOf}
use Rattle.mp_build.specs.ConditionChecks.{has_large_condition, if_faults}
use Rattle.mp_build.specs.TemplateChecks.{has_large_template, arrow_faults}
use Rattle.mp_build.specs.declared.fault.TextFault.{TextFault}
use Rattle.mp_build.specs.Names.{rule_names, subject_names}
use Rattle.mp_build.specs.Build.{sig_of}
use Rattle.mp_build.specs.Checks.{is_large_pattern, is_large_term, term_faults, whole_pattern_faults, name_faults}
use Rattle.mp_build.specs.Checks.{faults_by, declaration_faults}
use Rattle.mp_build.specs.Scope.{pattern_variables}
use Rattle.mp_text.specs.EditStatements.{edit_statement_faults}

-- the faults of a rule behind its name: those of its pattern, and those of its template and its condition over the
-- variables of the pattern
abbrev pub rule_faults : Sig → Tree → Option Tree → Option Condition → List TextFault
rule_faults sig p x c = whole_pattern_faults sig p
    ++ (arrow_faults (pattern_variables p) sig x ++ if_faults sig (Some (pattern_variables p)) c)

-- one of the parts of a rule is larger than it may be
abbrev pub is_large_rule : Tree → Option Tree → Option Condition → Bool
is_large_rule p x c = is_large_pattern p || (has_large_template x || has_large_condition c)

-- The faults of any other statement, behind earlier statements, over the signature that the file declares. There are at
-- most MAX_RULES rules and MAX_SUBJECTS subjects.
abbrev pub statement_faults : Sig → List Statement → Statement → List TextFault
statement_faults sig earlier (OpOf name least more flags) = []
statement_faults sig earlier (KindOf name members) = []
statement_faults sig earlier (RuleOf name p x c) =
    name_faults MAX_RULES (rule_names earlier) (is_large_rule p x c) name ++ rule_faults sig p x c
statement_faults sig earlier (SubjectOf name t) =
    name_faults MAX_SUBJECTS (subject_names earlier) (is_large_term t) name ++ term_faults sig t
statement_faults sig earlier (EditOf name changes) = edit_statement_faults sig earlier name changes

-- the faults of a file: those of its declarations, and then those of its other statements
abbrev pub faults : List Statement → List TextFault
faults ss = declaration_faults ss ++ faults_by (statement_faults (sig_of ss)) [] ss
