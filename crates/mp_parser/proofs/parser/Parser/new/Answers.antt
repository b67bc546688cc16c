use Rattle.mp_parser.proofs.parser.Parser.new.Goals as goal

pub returns : goal.returns
returns c = rw (c.new-lexer.ensures.rest, c.new-lexer.ensures.place) at c.take.ensures
