-- Which request the words of the command line make: one that clap takes as the words of a simple command, and that is a
-- line of a table.
use Rattle.std.specs.Prelude.{ℕ, ◌&&◌, ◌||◌, not, Bool, true, false, List, [], ◌∷◌, length, nat_le, Option, Some}
use Rattle.std.specs.Prelude.{None, is_some, map, fold, codes, if◌then◌else◌}
use Rattle.std.specs.List.{list_all, list_any}
use Rattle.std.specs.Option.{option_and_then, option_map}
use Rattle.std.specs.Str.{bytes_eq}
use Rattle.std.specs.Str.Parse.{digits_value}
use Rattle.clap.specs.Words.{App, Row, Rule, Text, all_of, fault_of, first_of, matches_of, new_app, new_rule, with_rule}
use Rattle.clap.specs.Lexer.{usize_max}
use Rattle.clap.specs.Kinds.{Kinds}
use Rattle.mp_term.specs.Signature.{is_number}
use Rattle.mp_words.specs.declared.request.Action.{Action}
use Rattle.mp_words.specs.declared.request.Action.TheVariants.{Match, Show, Rewrite, Edit, Compile, Run}
use Rattle.mp_words.specs.declared.request.Engine.{Engine}
use Rattle.mp_words.specs.declared.request.Engine.TheVariants.{One, Many, Net, Program}

-- what is asked for: an action, the file that it is done with, the program file, where there is one, what finds the
-- matches, how many of them are printed at most and the token behind which they begin, where these are said, and how
-- many steps rewriting makes of a subject at most
pub record Request : Type 0 where
  pub action : Action
  pub file : Text
  pub program : Option Text
  pub engine : Engine
  pub limit : Option ℕ
  pub resume : Option Text
  pub max : ℕ

-- ---- the table

-- a line of the table: an action, its name, whether a program file stands behind the file, and the names of the options
-- that may stand at it
pub record Line : Type 0 where
  pub name : Text
  pub action : Action
  pub has_program : Bool
  pub options : List Text

-- the matches of a file
abbrev pub match_line : Line
match_line = record {
  name = codes "match";
  action = Match;
  has_program = false;
  options = codes "engine" ∷ codes "limit" ∷ codes "resume" ∷ [];
}

-- a file itself
abbrev pub show_line : Line
show_line = record { name = codes "show"; action = Show; has_program = false; options = [] }

-- its rewritten subjects
abbrev pub rewrite_line : Line
rewrite_line = record { name = codes "rewrite"; action = Rewrite; has_program = false; options = codes "max" ∷ [] }

-- its edited subjects
abbrev pub edit_line : Line
edit_line = record { name = codes "edit"; action = Edit; has_program = false; options = [] }

-- the match program of its rules, or of a program file
abbrev pub compile_line : Line
compile_line = record { name = codes "compile"; action = Compile; has_program = false; options = codes "from" ∷ [] }

-- what a match program accepts on its subjects
abbrev pub run_line : Line
run_line = record { name = codes "run"; action = Run; has_program = true; options = [] }

-- all lines of the table
abbrev pub actions : List Line
actions = match_line ∷ show_line ∷ rewrite_line ∷ edit_line ∷ compile_line ∷ run_line ∷ []

-- the first line of that name
abbrev pub find_action : Text → List Line → Option Line
find_action name [] = None
find_action name (line ∷ lines) = if bytes_eq name line.name then Some line else find_action name lines

-- the engines, each with its name
abbrev pub engines : List (Text × Engine)
engines = (codes "one", One) ∷ (codes "many", Many) ∷ (codes "net", Net) ∷ (codes "program", Program) ∷ []

-- the first engine of that name
abbrev pub find_engine : Text → List (Text × Engine) → Option Engine
find_engine name [] = None
find_engine name (engine ∷ engines) = if bytes_eq name engine.0 then Some engine.1 else find_engine name engines

-- how many matches the words may ask for at most
abbrev pub greatest_limit : ℕ
greatest_limit = 1000000000

-- how many steps are made at most where the words don't say it
abbrev pub usual_max : ℕ
usual_max = 1000

-- and how many they may allow
abbrev pub greatest_max : ℕ
greatest_max = 1000000

-- ---- the words, by clap

-- the names of the command's options
abbrev pub option_names : List Text
option_names = codes "engine" ∷ codes "limit" ∷ codes "resume" ∷ codes "max" ∷ codes "from" ∷ []

-- an option with one value, as clap has it
abbrev pub option_rule : Text → Rule
option_rule name = record (new_rule name) { long = Some name }

-- the first word that is neither an option nor its value; it is required
abbrev pub action_rule : Rule
action_rule = record (new_rule (codes "action")) { required = true }

-- all such words behind it
abbrev pub rest_rule : Rule
rest_rule = record (new_rule (codes "rest")) {
  range = Some (record { start_inclusive = 0; end_inclusive = usize_max });
}

-- the command of which clap reads the words
abbrev pub command : App
command = fold (λ app name. with_rule app (option_rule name))
    (with_rule (with_rule (new_app (codes "matchpy")) action_rule) rest_rule) option_names

-- clap has no kind of error to give
abbrev pub has_none : Kinds → Bool
has_none [] = true
has_none (kind ∷ kinds) = false

-- clap takes the words: nothing in them is unknown, missing or there twice, and they don't ask for help
unfoldable pub is_taken : List Text → Bool
is_taken all = has_none (fault_of command all)

-- what the words give to each argument
unfoldable pub rows_at : List Text → List Row
rows_at all = matches_of command all

-- ---- the request

-- each option under its name, with its value where it is given
abbrev pub Options : Type 0
Options = List (Text × Option Text)

-- the options as the words give them
abbrev pub options_in : List Row → Options
options_in rows = map (λ name. (name, first_of name rows)) option_names

-- the value of an option, if it is given
abbrev pub value_of : Text → Options → Option Text
value_of name [] = None
value_of name (option ∷ options) = if bytes_eq name option.0 then option.1 else value_of name options

-- no option is given but those of these names
abbrev pub are_among : List Text → Options → Bool
are_among names options = list_all (λ option. not (is_some option.1) || list_any (bytes_eq option.0) names) options

-- the engine: as the option says, or the one that takes rules one by one
abbrev pub engine_of : Option Text → Option Engine
engine_of None = Some One
engine_of (Some name) = find_engine name engines

-- no token is given, or the engine can begin behind one
abbrev pub may_resume : Engine → Option Text → Bool
may_resume One resume = true
may_resume Many resume = not (is_some resume)
may_resume Net resume = not (is_some resume)
may_resume Program resume = not (is_some resume)

-- the number that 1 to 10 digits write, where it is in the range
abbrev pub number_in : ℕ → ℕ → Text → Option ℕ
number_in least most text =
    if is_number text && (nat_le (length text) 10
    && (nat_le least (digits_value 10 text) && nat_le (digits_value 10 text) most))
    then Some (digits_value 10 text) else None

-- how many matches are printed at most: as the option says, or without a limit
abbrev pub limit_of : Option Text → Option (Option ℕ)
limit_of None = Some None
limit_of (Some text) = option_map (λ n. Some n) (number_in 1 greatest_limit text)

-- how many steps are made at most: as the option says, or the usual number
abbrev pub max_of : Option Text → Option ℕ
max_of None = Some usual_max
max_of (Some text) = number_in 0 greatest_max text

-- the file, and the program file: behind it where the action has one there, and else as the option says
abbrev pub files_of : Line → List Text → Option Text → Option (Text × Option Text)
files_of line (file ∷ []) from = if line.has_program then None else Some (file, from)
files_of line (file ∷ program ∷ []) from = if line.has_program then Some (file, Some program) else None
files_of line files from = None

-- the name of standard input
abbrev pub is_input : Text → Bool
is_input name = bytes_eq name (codes "-")

-- both files are standard input
abbrev pub both_are_input : Text → Option Text → Bool
both_are_input file None = false
both_are_input file (Some program) = is_input file && is_input program

-- the request for an action with a file and perhaps a program file, by an engine and by options that may stand at it
abbrev pub request_with : Line → Text × Option Text → Options → Engine → Option Request
request_with line files options engine =
    if may_resume engine (value_of (codes "resume") options) then option_and_then (λ limit.
    option_map (λ max. record {
      action = line.action;
      file = files.0;
      program = files.1;
      engine = engine;
      limit = limit;
      resume = value_of (codes "resume") options;
      max = max;
    }) (max_of (value_of (codes "max") options))) (limit_of (value_of (codes "limit") options)) else None

-- the request for an action with such files, of which standard input is one at most, by options that may stand at it
abbrev pub request_over : Line → Options → Text × Option Text → Option Request
request_over line options files = if not (both_are_input files.0 files.1) && are_among line.options options
    then option_and_then (request_with line files options) (engine_of (value_of (codes "engine") options)) else None

-- the request for an action by what stands behind it and by the options
abbrev pub request_for : Line → List Text → Options → Option Request
request_for line rest options =
    option_and_then (request_over line options) (files_of line rest (value_of (codes "from") options))

-- the request by the action's name and what stands behind it
abbrev pub request_by : Option Text → Option (List Text) → Options → Option Request
request_by (Some name) (Some rest) options =
    option_and_then (λ line. request_for line rest options) (find_action name actions)
request_by _ _ options = None

-- the request by what the words give to each argument
abbrev pub request_at : List Row → Option Request
request_at rows = request_by (first_of (codes "action") rows) (all_of (codes "rest") rows) (options_in rows)

-- the request that the program's name and the words make, if they make one
unfoldable pub request_from : List Text → Option Request
request_from all = if is_taken all then request_at (rows_at all) else None

-- the request that the words make, if they make one
abbrev pub request_of : List Text → Option Request
request_of words = request_from (codes "matchpy" ∷ words)
