-- A file while it is built, statement by statement.
use Rattle.std.specs.Prelude.{◌≡◌, ◌≤◌, List, length}
use Rattle.mp_term.specs.Signature.{Sig}
use Rattle.mp_pattern.specs.declared.limits.TheConstants.{MAX_SUBJECTS}
use Rattle.mp_parser.specs.Syntax.{Statement}
use Rattle.mp_text.specs.declared.reader.Draft.{Draft}
use Rattle.mp_text.specs.File.{file_tree}
use Rattle.mp_text.specs.FileBuild.{file_over}
use Rattle.mp_build.specs.Names.{rule_names, subject_names}

-- the draft holds the rules, subjects and edits of the statements over a signature, and the names of the first two
pub record IsDraftOf (sig : Sig) (ss : List Statement) (d : Draft) : Type 0 where
  pub file : file_tree d.file ≡ file_over sig ss
  pub rules : d.rule_names ≡ rule_names ss
  pub subjects : d.subject_names ≡ subject_names ss
  pub few : length d.subject_names ≤ MAX_SUBJECTS
