use Rattle.std.proofs.Common.{◌≡◌, drop}
use Rattle.mp_pattern.specs.View.{pattern_tree}
use Rattle.mp_ac.proofs.CandidateLaws.{goes_on}
use Rattle.mp_ac.proofs.candidates.goes_on.Given as goal

abbrev pub invariant-loop-own : goal.invariant-loop-own
invariant-loop-own l =
    goes_on l.table (pattern_tree l.child) (pattern_tree l.next) (drop l.own-index l.its) l.rank
    ≡ goes_on l.table (pattern_tree l.child) (pattern_tree l.next) l.its l.rank
