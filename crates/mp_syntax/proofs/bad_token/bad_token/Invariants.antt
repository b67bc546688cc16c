use Rattle.std.proofs.Common.{◌≡◌, length}
use Rattle.mp_parser.specs.Tokens.{first_place}
use Rattle.mp_parser.specs.Lexing.{lexemes}
use Rattle.mp_parser.specs.Parsing.{ahead}
use Rattle.mp_syntax.specs.Reading.{first_bad}
use Rattle.mp_syntax.proofs.bad_token.bad_token.Given as goal

-- the first bad token is among those from the one held on
abbrev pub invariant-loop-parser : goal.invariant-loop-parser
invariant-loop-parser l = first_bad (lexemes l.fn.bytes first_place) ≡ first_bad (ahead l.parser)

abbrev pub decreases-loop-parser : goal.decreases-loop-parser
decreases-loop-parser l = length (ahead l.parser)
