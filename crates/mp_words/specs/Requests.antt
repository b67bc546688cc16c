-- What the code holds of the words, as plain data.
use Rattle.std.specs.Prelude.{[], ◌∷◌, Option, codes}
use Rattle.std.specs.Option.{option_map}
use Rattle.std.specs.Borrow.{Bor}
use Rattle.clap.specs.Words.{Text}
use Rattle.mp_words.specs.Words as words
use Rattle.mp_words.specs.declared.request.Action.{Action}
use Rattle.mp_words.specs.declared.request.Action.TheVariants.{Match, Show, Rewrite, Edit, Compile, Run}
use Rattle.mp_words.specs.declared.request.Options.{Options}
use Rattle.mp_words.specs.declared.request.Request.{Request}

-- the text behind a reference, if there is one
abbrev pub some_text : Option (Bor Text) → Option Text
some_text = option_map (λ text. text.now)

-- the line of the table at which the action stands
abbrev pub line_of : Action → words.Line
line_of Match = words.match_line
line_of Show = words.show_line
line_of Rewrite = words.rewrite_line
line_of Edit = words.edit_line
line_of Compile = words.compile_line
line_of Run = words.run_line

-- the options, each under its name
abbrev pub given : Options → words.Options
given options = (codes "engine", some_text options.engine) ∷ (codes "limit", some_text options.limit)
    ∷ (codes "resume", some_text options.resume) ∷ (codes "max", some_text options.max)
    ∷ (codes "from", some_text options.from) ∷ []

-- a request, as what is asked for
abbrev pub asked : Request → words.Request
asked request = record {
  action = request.action;
  file = request.file.now;
  program = some_text request.program;
  engine = request.engine;
  limit = request.limit;
  resume = some_text request.resume;
  max = request.max;
}
