use Rattle.std.proofs.Common.{◌≡◌, ◌≤◌, Bool, List, [], length, map}
use Rattle.mp_parser.specs.Syntax.{Spot, Statement}
use Rattle.mp_parser.specs.Machine.{AfterFlags, declared, run}
use Rattle.mp_parser.specs.View.{flag_of}
use Rattle.mp_parser.specs.Parsing.{ahead}
use Rattle.mp_parser.proofs.parser.Parser.flags.Given as goal

-- the flags so far are those that the declaration holds
abbrev pub invariant-loop-flags : goal.invariant-loop-flags
invariant-loop-flags l = record {
  read : (done : List Statement) (name least : Spot) (more : Bool)
      → run done (AfterFlags (declared name least more [])) (ahead l.fn.self)
      ≡ run done (AfterFlags (declared name least more (map flag_of l.flags.items))) (ahead l.self);
  shorter : length (ahead l.self) ≤ length (ahead l.fn.self);
}

abbrev pub decreases-loop-flags : goal.decreases-loop-flags
decreases-loop-flags l = length (ahead l.self)
