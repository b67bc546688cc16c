use Rattle.std.proofs.Common.{drop, map}
use Rattle.mp_parser.specs.View.{spot_of}
use Rattle.mp_build.specs.Checks.{symbol_faults}
use Rattle.mp_build.proofs.BuiltLists.{IsBuilt}
use Rattle.mp_build.proofs.declaration.new_members.Given as goal

-- the names so far are built of the members before those that are left
abbrev pub invariant-loop-member : goal.invariant-loop-member
invariant-loop-member l = IsBuilt (symbol_faults l.sig) (λ m. m.text) l.names
    (map spot_of (drop l.member-index l.members)) (map spot_of l.members)
