use Rattle.std.proofs.Common.{◌≡◌, ◌≤◌, List, [], length, map}
use Rattle.mp_parser.specs.Syntax.{Spot, Path, Statement}
use Rattle.mp_parser.specs.Machine.{Edited, AfterPosition, run}
use Rattle.mp_parser.specs.View.{spot_of}
use Rattle.mp_parser.specs.Parsing.{ahead}
use Rattle.mp_parser.proofs.parser.Parser.indices.Given as goal

-- the further numbers so far are those that the position holds
abbrev pub invariant-loop-self : goal.invariant-loop-self
invariant-loop-self l = record {
  read : (done : List Statement) (d : Edited) (first : Spot)
      → run done (AfterPosition d (Path first [])) (ahead l.fn.self)
      ≡ run done (AfterPosition d (Path first (map spot_of l.others.items))) (ahead l.self);
  shorter : length (ahead l.self) ≤ length (ahead l.fn.self);
}

abbrev pub decreases-loop-self : goal.decreases-loop-self
decreases-loop-self l = length (ahead l.self)
