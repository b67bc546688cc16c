use Rattle.std.proofs.Common.{◌≡◌, ◌≤◌, ◌+◌, ◌*◌, List, [], length, map}
use Rattle.mp_parser.specs.Syntax.{Literals, Statement}
use Rattle.mp_parser.specs.Machine.{Within, Frame, no_level, BeforeLiteral, run}
use Rattle.mp_parser.specs.View.{literal_tree, alternative_tree}
use Rattle.mp_parser.specs.Parsing.{ahead, HasRoom}
use Rattle.mp_parser.specs.ConditionParsing.{level}
use Rattle.mp_parser.proofs.parser.Parser.+condition.Given as goal

abbrev pub decreases-condition : goal.decreases-condition
decreases-condition l = 4 * l.room + 3

abbrev pub decreases-alternative : goal.decreases-alternative
decreases-alternative l = 4 * l.room + 2

abbrev pub decreases-literal : goal.decreases-literal
decreases-literal l = 4 * l.room + 1

abbrev pub decreases-bracketed : goal.decreases-bracketed
decreases-bracketed l = 4 * l.room

-- the alternatives so far stand before the next one
abbrev pub invariant-condition-loop-alternatives : goal.invariant-condition-loop-alternatives
invariant-condition-loop-alternatives l = record {
  read : (done : List Statement) (x : Within) (k : List Frame) → HasRoom k l.room
      → run done (BeforeLiteral x k no_level) (ahead l.fn.self)
      ≡ run done (BeforeLiteral x k (level (map alternative_tree l.alternatives.items) [])) (ahead l.self);
  shorter : length (ahead l.self) ≤ length (ahead l.fn.self);
}

abbrev pub decreases-condition-loop-alternatives : goal.decreases-condition-loop-alternatives
decreases-condition-loop-alternatives l = length (ahead l.self)

-- the literals so far stand before the next one
abbrev pub invariant-alternative-loop-literals : goal.invariant-alternative-loop-literals
invariant-alternative-loop-literals l = record {
  read : (done : List Statement) (x : Within) (k : List Frame) (before : List Literals) → HasRoom k l.room
      → run done (BeforeLiteral x k (level before [])) (ahead l.fn.self)
      ≡ run done (BeforeLiteral x k (level before (map literal_tree l.literals.items))) (ahead l.self);
  shorter : length (ahead l.self) ≤ length (ahead l.fn.self);
}

abbrev pub decreases-alternative-loop-literals : goal.decreases-alternative-loop-literals
decreases-alternative-loop-literals l = length (ahead l.self)
