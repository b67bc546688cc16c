use Rattle.std.proofs.Common.{◌≡◌, ◌++◌, drop}
use Rattle.std.specs.Prelude.{None}
use Rattle.mp_pattern.specs.View.{pattern_tree}
use Rattle.mp_table.specs.Table.{term_at}
use Rattle.mp_theory.specs.Shape.{shape}
use Rattle.mp_ac.proofs.CandidateLaws.{distinct}
use Rattle.mp_ac.proofs.candidates.push_candidates.Given as goal

abbrev pub invariant-loop-rank : goal.invariant-loop-rank
invariant-loop-rank l =
    l.out.items
    ++ distinct (λ r. shape (pattern_tree l.pattern) (term_at l.table r)) l.last (drop l.rank-index l.ranks)
    ≡ l.fn.out.items ++ distinct (λ r. shape (pattern_tree l.pattern) (term_at l.table r)) None l.ranks
