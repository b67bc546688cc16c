use Rattle.std.proofs.Common.{◌≡◌, ◌≤◌, List, length, map, None}
use Rattle.mp_parser.specs.Syntax.{Statement}
use Rattle.mp_parser.specs.Machine.{Within, Frame, BeforeExpr, run, wildcard_at}
use Rattle.mp_parser.specs.Lexing.{token_of}
use Rattle.mp_parser.specs.View.{wildcard_of}
use Rattle.mp_parser.specs.Parsing.{ahead, behind_wildcard, within_defaults}
use Rattle.mp_parser.proofs.parser.Parser.chain.Given as goal

-- the wildcards so far are passed, and the last that is passed
abbrev pub invariant-loop-last : goal.invariant-loop-last
invariant-loop-last l = record {
  read : (done : List Statement) (x : Within) (k : List Frame)
      → run done (BeforeExpr x k) (ahead l.fn.self)
      ≡ run done (behind_wildcard x (within_defaults (map wildcard_of l.others.items) k) l.last) (ahead l.self);
  held : l.last ≡ None → wildcard_at (token_of l.self.token.kind) l.self.token.place ≡ None;
  shorter : length (ahead l.self) ≤ length (ahead l.fn.self);
}

abbrev pub decreases-loop-last : goal.decreases-loop-last
decreases-loop-last l = length (ahead l.self)
