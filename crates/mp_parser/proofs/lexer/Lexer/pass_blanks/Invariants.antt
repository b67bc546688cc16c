use Rattle.std.proofs.Common.{◌≡◌, length, false}
use Rattle.mp_parser.specs.Lexing.{after_blanks}
use Rattle.mp_parser.proofs.lexer.Lexer.pass_blanks.Given as goal

-- what is passed from here on is what is passed from the start
abbrev pub invariant-loop-self : goal.invariant-loop-self
invariant-loop-self l = after_blanks l.in_comment l.self.rest.now l.self.place
    ≡ after_blanks false l.fn.self.rest.now l.fn.self.place

abbrev pub decreases-loop-self : goal.decreases-loop-self
decreases-loop-self l = length l.self.rest.now
