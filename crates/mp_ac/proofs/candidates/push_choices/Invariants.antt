use Rattle.std.proofs.Common.{◌≡◌, ◌-◌, ◌++◌, ◌≤◌, List, drop, take, true}
use Rattle.std.specs.List.{AllByRecursion, filter}
use Rattle.mp_pattern.specs.View.{pattern_tree}
use Rattle.mp_table.specs.Table.{term_at}
use Rattle.mp_table.specs.declared.rank.Rank.{Rank}
use Rattle.mp_theory.specs.Shape.{shape}
use Rattle.mp_ac.proofs.CandidateLaws.{goes_on}
use Rattle.mp_ac.proofs.candidates.push_choices.Given as goal

abbrev pub invariant-loop-place : goal.invariant-loop-place
invariant-loop-place l =
    let old = l.fn.ranks.items in
    let p = pattern_tree l.child in
    let q = pattern_tree l.next in
    let its = take (l.its.1 - l.its.0) (drop l.its.0 old) in
    let later = take (l.place-end - l.place) (drop l.place old) in
    (l.fn.own.0 ≤ l.place) × (l.place ≤ l.place-end) × (l.place-end ≡ l.fn.own.1)
    × AllByRecursion (λ r. shape p (term_at l.table r) ≡ true) later
    × (rs : List Rank) × (l.ranks.items ≡ old ++ rs)
    × (rs ++ filter (goes_on l.table p q its) later
    ≡ filter (goes_on l.table p q its) (take (l.fn.own.1 - l.fn.own.0) (drop l.fn.own.0 old)))
