use Rattle.std.proofs.Common.{◌≡◌, ◌≤◌, List, [], length, map}
use Rattle.mp_parser.specs.Syntax.{Spot, Statement}
use Rattle.mp_parser.specs.Machine.{BeforeChange, edited, run}
use Rattle.mp_parser.specs.View.{change_tree}
use Rattle.mp_parser.specs.Parsing.{ahead}
use Rattle.mp_parser.proofs.parser.Parser.changes.Given as goal

-- the changes so far are those that the edit holds
abbrev pub invariant-loop-changes : goal.invariant-loop-changes
invariant-loop-changes l = record {
  read : (done : List Statement) (subject : Spot)
      → run done (BeforeChange (edited subject [])) (ahead l.fn.self)
      ≡ run done (BeforeChange (edited subject (map change_tree l.changes.items))) (ahead l.self);
  shorter : length (ahead l.self) ≤ length (ahead l.fn.self);
}

abbrev pub decreases-loop-changes : goal.decreases-loop-changes
decreases-loop-changes l = length (ahead l.self)
