use Rattle.std.proofs.Common.{◌≤◌, ◌+◌, length, drop, map}
use Rattle.mp_pattern.specs.PatternTree.{patterns}
use Rattle.mp_pattern.specs.View.{pattern_tree}
use Rattle.mp_term.specs.Pieces.{without}
use Rattle.mp_table.specs.Table.{rank_cmp, terms_at}
use Rattle.mp_theory.specs.Supply.{passing}
use Rattle.mp_search.specs.Frames.{above}
use Rattle.mp_search.specs.Lacking.{some_may_match}
use Rattle.mp_search.specs.Reading.{subst_of}
use Rattle.mp_search.proofs.supply.count.Given as goal

abbrev pub invariant-loop-rank : goal.invariant-loop-rank
invariant-loop-rank l = record {
  within : l.taken ≤ length l.take;
  few : l.count ≤ l.rank-index;
  counted : passing (some_may_match l.query.sig.now (subst_of l.query l.trail) (above l.under) l.marks
      (patterns (map pattern_tree l.children)))
      (terms_at l.query.table.now (without rank_cmp l.take l.left))
      ≤ l.count + passing (some_may_match l.query.sig.now (subst_of l.query l.trail) (above l.under)
      l.marks (patterns (map pattern_tree l.children)))
      (terms_at l.query.table.now (without rank_cmp (drop l.taken l.take) (drop l.rank-index l.left)));
}
