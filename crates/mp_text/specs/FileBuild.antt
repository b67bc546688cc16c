-- The file that statements stand for: a signature, and over it rules, subjects and edits in normal form.
use Rattle.std.specs.Prelude.{List, [], ◌∷◌, Option, option_map}
use Rattle.mp_term.specs.Signature.{Sig}
use Rattle.mp_pattern.specs.Normal.{normal_pattern}
use Rattle.mp_pattern.specs.Admission.{Rule}
use Rattle.mp_parser.specs.Syntax.{Spot, Tree, Condition, Statement, OpOf, KindOf, RuleOf, SubjectOf, EditOf}
use Rattle.mp_text.specs.File.{FileTree}
use Rattle.mp_build.specs.Build.{sig_of, pattern_of, template_of}
use Rattle.mp_text.specs.Subjects.{subjects_of}
use Rattle.mp_build.specs.Conditions.{condition_of}
use Rattle.mp_text.specs.EditStatements.{edit_sets}

module _ (sig : Sig) where
  -- rule NAME: PATTERN -> TEMPLATE if CONDITION; with the pattern in normal form and the template as it is written
  abbrev pub rule_of : Spot → Tree → Option Tree → Option Condition → Rule
  rule_of name p x c = record {
    name = name.text;
    pattern = normal_pattern sig (pattern_of sig p);
    template = option_map (template_of sig) x;
    condition = condition_of sig c;
  }

  -- the rules of the statements, in order
  abbrev pub rules_of : List Statement → List Rule
  rules_of [] = []
  rules_of (OpOf name least more flags ∷ ss) = rules_of ss
  rules_of (KindOf name members ∷ ss) = rules_of ss
  rules_of (RuleOf name p x c ∷ ss) = rule_of name p x c ∷ rules_of ss
  rules_of (SubjectOf name t ∷ ss) = rules_of ss
  rules_of (EditOf subject changes ∷ ss) = rules_of ss

-- the rules, subjects and edit statements over a signature
abbrev pub file_over : Sig → List Statement → FileTree
file_over sig ss = record {
  sig = sig;
  rules = rules_of sig ss;
  subjects = subjects_of sig ss;
  edits = edit_sets sig ss;
}

-- the file that the statements stand for
abbrev pub file_tree_of : List Statement → FileTree
file_tree_of ss = file_over (sig_of ss) ss
