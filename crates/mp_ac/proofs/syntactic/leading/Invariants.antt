use Rattle.std.proofs.Common.{◌≡◌, ◌≤◌, ◌-◌, true, map, take, length}
use Rattle.std.specs.List.{AllByRecursion}
use Rattle.mp_pattern.specs.View.{pattern_tree}
use Rattle.mp_ac.specs.TakesOne.{takes_one}
use Rattle.mp_ac.proofs.syntactic.leading.Given as goal

abbrev pub invariant-loop-count : goal.invariant-loop-count
invariant-loop-count l = (l.count ≤ length l.children)
    × AllByRecursion (λ p. takes_one l.sig p ≡ true) (take l.count (map pattern_tree l.children))

abbrev pub decreases-loop-count : goal.decreases-loop-count
decreases-loop-count l = length l.children - l.count
