use Rattle.std.proofs.Common.{◌≡◌, length}
use Rattle.mp_ac.specs.Matcher.{IsMatcher, to_come}
use Rattle.mp_tests.proofs.matchers.has_items.Given as goal

-- the trail is the one that the matcher left
abbrev pub invariant-loop-matcher : goal.invariant-loop-matcher
invariant-loop-matcher g l = IsMatcher l.matcher × (l.trail ≡ l.matcher.trail)

-- fewer items are to come
abbrev pub decreases-loop-matcher : goal.decreases-loop-matcher
decreases-loop-matcher g l = length (to_come l.matcher)
