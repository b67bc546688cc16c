use Rattle.std.proofs.Common.{ℕ, List, [], map, length}
use Rattle.mp_parser.specs.Parsing.{ahead}
use Rattle.mp_parser.specs.View.{statement_tree}
use Rattle.mp_text.specs.InOrder.{HasRead}
use Rattle.mp_text.proofs.in_order.declarations.Given as goal

-- what was read are the declarations so far
abbrev pub invariant-loop-parser : goal.invariant-loop-parser
invariant-loop-parser l = (bytes : List ℕ) → HasRead bytes [] l.fn.parser
    → HasRead bytes (map statement_tree l.declarations.items) l.parser

abbrev pub decreases-loop-parser : goal.decreases-loop-parser
decreases-loop-parser l = length (ahead l.parser)
