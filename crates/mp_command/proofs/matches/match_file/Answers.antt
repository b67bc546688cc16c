use Rattle.std.proofs.Common.{sym, subst}
use Rattle.mp_io.specs.Moments.{sunk}
use Rattle.mp_text.specs.File.{file_tree}
use Rattle.mp_words.specs.Requests.{asked}
use Rattle.mp_command.specs.Answers.{Acts}
use Rattle.mp_command.specs.Computed.{matches_by}
use Rattle.mp_command.proofs.matches.match_file.Goals as goal

pub returns-in-One : goal.returns-in-One
returns-in-One g c =
    subst (λ e. Acts (matches_by e (asked c.args.request.now) (file_tree c.args.file.now))
    (sunk g.O.Sink c.args.out.now c.list_matches.new.out) c.ending.result) (sym c.in-One.is)
    (c.ending.ensures _ _ c.list_matches.ensures)
