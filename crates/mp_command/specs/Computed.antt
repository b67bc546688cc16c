-- What actions come to, as functions: by the matches and the rewriting as they are computed.
use Rattle.std.specs.Prelude.{ℕ, List, [], ◌∷◌, Option, Some, None}
use Rattle.mp_term.specs.Signature.{Sig}
use Rattle.mp_pattern.specs.Admission.{Rule}
use Rattle.mp_many.specs.AllPairs.{all_pairs}
use Rattle.mp_matches.specs.AllListed.{names_of}
use Rattle.mp_matches.specs.Computed.{listed, pairs_listed}
use Rattle.mp_rewrite.specs.Computed.{rewriting}
use Rattle.mp_text.specs.File.{FileTree, Subject}
use Rattle.mp_command.specs.Messages.{no_template_line, not_syntactic_line}
use Rattle.mp_command.specs.Outcome.{Outcome, finished, matched, refused, rewritten_before}
use Rattle.mp_command.specs.Outcome.{first_not_syntactic}
use Rattle.mp_words.specs.Words.{Request}
use Rattle.mp_words.specs.declared.request.Engine.{Engine}
use Rattle.mp_words.specs.declared.request.Engine.TheVariants.{One, Many, Net, Program}

-- ---- matches

-- the first rule that isn't syntactic is told, and where there is none it is so
abbrev pub over_syntactic : Outcome → Option Rule → Outcome
over_syntactic over None = over
over_syntactic over (Some rule) = refused 10 (not_syntactic_line rule.name)

-- the lines of the all-lists of a file, all or so many
abbrev pub matched_whole : FileTree → Option ℕ → Outcome
matched_whole file limit = matched (pairs_listed file (names_of file.rules) (all_pairs file.sig file.rules) limit)

-- what the matches of a file come to by an engine
abbrev pub matches_by : Engine → Request → FileTree → Outcome
matches_by One request file = matched (listed file request.resume request.limit)
matches_by Many request file = matched_whole file request.limit
matches_by Net request file =
    over_syntactic (matched_whole file request.limit) (first_not_syntactic file.sig file.rules)
matches_by Program request file = matched_whole file request.limit

-- ---- rewriting

-- the rewriting of subjects, in order
abbrev pub rewritten : Sig → ℕ → List Rule → List Subject → Outcome
rewritten sig limit rules [] = finished
rewritten sig limit rules (s ∷ ss) =
    rewritten_before sig limit s.name (rewriting sig rules limit s.term) (rewritten sig limit rules ss)

-- the first rule without a template is told, and where there is none it is so
abbrev pub over_templates : Outcome → Option Rule → Outcome
over_templates over None = over
over_templates over (Some rule) = refused 11 (no_template_line rule.name)
