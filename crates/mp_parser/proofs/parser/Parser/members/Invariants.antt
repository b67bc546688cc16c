use Rattle.std.proofs.Common.{◌≡◌, ◌≤◌, List, [], length, map}
use Rattle.mp_parser.specs.Syntax.{Spot, Statement}
use Rattle.mp_parser.specs.Machine.{BeforeMember, run}
use Rattle.mp_parser.specs.View.{spot_of}
use Rattle.mp_parser.specs.Parsing.{ahead}
use Rattle.mp_parser.proofs.parser.Parser.members.Given as goal

-- the members so far are those that the declaration holds
abbrev pub invariant-loop-members : goal.invariant-loop-members
invariant-loop-members l = record {
  read : (done : List Statement) (name : Spot)
      → run done (BeforeMember name []) (ahead l.fn.self)
      ≡ run done (BeforeMember name (map spot_of l.members.items)) (ahead l.self);
  shorter : length (ahead l.self) ≤ length (ahead l.fn.self);
}

abbrev pub decreases-loop-members : goal.decreases-loop-members
decreases-loop-members l = length (ahead l.self)
