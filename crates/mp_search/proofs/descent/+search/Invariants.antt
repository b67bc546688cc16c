use Rattle.std.proofs.Common.{◌+◌, ◌-◌, ◌*◌, length}
use Rattle.mp_search.specs.At.{drawn_at}
use Rattle.mp_search.specs.Reading.{entry_at}
use Rattle.mp_search.specs.Tried.{to_try}
use Rattle.mp_search.proofs.TriedLaws.{IsTrying}
use Rattle.mp_search.proofs.descent.+search.Given as goal

abbrev pub decreases-descend : goal.decreases-descend
decreases-descend l = 6 * (length l.levels.now - l.k)

abbrev pub decreases-follow : goal.decreases-follow
decreases-follow l = 6 * (length l.levels.now - l.k) + 1

abbrev pub decreases-search : goal.decreases-search
decreases-search l = 6 * (length l.levels.now - l.k) + 4

abbrev pub decreases-search_within : goal.decreases-search_within
decreases-search_within l = 6 * (length l.levels.now - l.k) + 5

abbrev pub decreases-try_each : goal.decreases-try_each
decreases-try_each l = 6 * (length l.levels.now - l.k) + 2

abbrev pub decreases-visit_next : goal.decreases-visit_next
decreases-visit_next l = 6 * (length l.levels.now - l.k) + 2

abbrev pub decreases-visit : goal.decreases-visit
decreases-visit l = 6 * (length l.levels.now - l.k) + 3

-- what is still to be tried gives what was to be tried at first
abbrev pub invariant-try_each-loop-found : goal.invariant-try_each-loop-found
invariant-try_each-loop-found l =
    IsTrying l.query l.place l.k l.initial.levels l.levels l.initial.trail l.trail l.initial.from l.found

abbrev pub decreases-try_each-loop-found : goal.decreases-try_each-loop-found
decreases-try_each-loop-found l =
    length (to_try l.found (entry_at l.query.table.now l.levels l.k) (drawn_at l.query l.place l.levels l.k))
