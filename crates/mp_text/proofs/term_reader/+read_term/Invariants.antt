use Rattle.std.proofs.Common.{◌≡◌, ◌≤◌, ◌+◌, ◌*◌, ◌-◌, List, [], ◌∷◌, length}
use Rattle.mp_parser.specs.Syntax.{Spot, Tree, Statement}
use Rattle.mp_parser.specs.Machine.{Within, Frame, Arguments, BeforeExpr, run}
use Rattle.mp_parser.specs.Parsing.{ahead, HasRoom}
use Rattle.mp_text.proofs.ReadTermLaws.{AreTerms}
use Rattle.mp_text.proofs.term_reader.+read_term.Given as goal

-- the expressions so far are those that the open bracket holds, and the terms are theirs
abbrev pub invariant-read_arguments-loop-terms : goal.invariant-read_arguments-loop-terms
invariant-read_arguments-loop-terms l = record {
  exprs : List Tree;
  read : (done : List Statement) (x : Within) (k : List Frame) (f : Spot)
      → ((es : List Tree) → HasRoom (Arguments f es ∷ k) l.room)
      → run done (BeforeExpr x (Arguments f [] ∷ k)) (ahead l.fn.parser)
      ≡ run done (BeforeExpr x (Arguments f exprs ∷ k)) (ahead l.parser);
  built : AreTerms l.sig (l.fn.left - l.left) exprs l.terms;
  fewer : l.left ≤ l.fn.left;
  shorter : length (ahead l.parser) ≤ length (ahead l.fn.parser);
}

abbrev pub decreases-read_arguments-loop-terms : goal.decreases-read_arguments-loop-terms
decreases-read_arguments-loop-terms l = length (ahead l.parser)

abbrev pub decreases-read_term : goal.decreases-read_term
decreases-read_term l = 3 * l.room + 1

abbrev pub decreases-read_application : goal.decreases-read_application
decreases-read_application l = 3 * l.room

abbrev pub decreases-read_arguments : goal.decreases-read_arguments
decreases-read_arguments l = 3 * l.room + 2
