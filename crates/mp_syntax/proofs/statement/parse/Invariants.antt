use Rattle.std.proofs.Common.{◌≡◌, [], map, length}
use Rattle.mp_parser.specs.Tokens.{first_place}
use Rattle.mp_parser.specs.Lexing.{lexemes}
use Rattle.mp_parser.specs.Machine.{Top, run}
use Rattle.mp_parser.specs.View.{statement_tree}
use Rattle.mp_parser.specs.Parsing.{ahead}
use Rattle.mp_syntax.proofs.statement.parse.Given as goal

-- what is read from here on, behind the statements so far, is what is read from the start
abbrev pub invariant-loop-parser : goal.invariant-loop-parser
invariant-loop-parser l =
    run [] Top (lexemes l.fn.bytes first_place) ≡ run (map statement_tree l.statements.items) Top (ahead l.parser)

abbrev pub decreases-loop-parser : goal.decreases-loop-parser
decreases-loop-parser l = length (ahead l.parser)
