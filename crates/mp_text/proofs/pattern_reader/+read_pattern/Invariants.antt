use Rattle.std.proofs.Common.{◌≡◌, ◌≤◌, ◌+◌, ◌*◌, ◌-◌, List, [], ◌∷◌, length, map}
use Rattle.mp_parser.specs.Syntax.{Spot, Tree, Statement}
use Rattle.mp_parser.specs.Machine.{Within, Frame, Arguments, BeforeExpr, run}
use Rattle.mp_parser.specs.Parsing.{ahead, HasRoom}
use Rattle.mp_build.specs.WildcardView.{wildcard_view}
use Rattle.mp_text.proofs.ReadPatternLaws.{ArePatterns}
use Rattle.mp_text.proofs.pattern_reader.+read_pattern.Given as goal

-- the expressions so far are those that the open bracket holds, and the patterns and wildcards are theirs
abbrev pub invariant-read_arguments-loop-patterns : goal.invariant-read_arguments-loop-patterns
invariant-read_arguments-loop-patterns l = record {
  exprs : List Tree;
  read : (done : List Statement) (x : Within) (k : List Frame) (f : Spot)
      → ((es : List Tree) → HasRoom (Arguments f es ∷ k) l.room)
      → run done (BeforeExpr x (Arguments f [] ∷ k)) (ahead l.fn.parser)
      ≡ run done (BeforeExpr x (Arguments f exprs ∷ k)) (ahead l.parser);
  built : ArePatterns l.sig (l.fn.left - l.left) exprs l.patterns (map wildcard_view l.fn.before.items)
      (map wildcard_view l.before.items);
  fewer : l.left ≤ l.fn.left;
  shorter : length (ahead l.parser) ≤ length (ahead l.fn.parser);
}

abbrev pub decreases-read_arguments-loop-patterns : goal.decreases-read_arguments-loop-patterns
decreases-read_arguments-loop-patterns l = length (ahead l.parser)

abbrev pub decreases-read_pattern : goal.decreases-read_pattern
decreases-read_pattern l = 4 * l.room + 2

abbrev pub decreases-read_name : goal.decreases-read_name
decreases-read_name l = 4 * l.room + 1

abbrev pub decreases-read_application : goal.decreases-read_application
decreases-read_application l = 4 * l.room

abbrev pub decreases-read_arguments : goal.decreases-read_arguments
decreases-read_arguments l = 4 * l.room + 3
