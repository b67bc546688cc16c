use Rattle.std.proofs.Common.{◌≡◌, ◌-◌, ◌≤◌, length}
use Rattle.std.specs.declared.cmp.Ordering.TheVariants.{Less, Greater}
use Rattle.std.specs.List.{AllWithin}
use Rattle.mp_term.specs.Order.{tree_cmp}
use Rattle.mp_table.specs.Sought.{sought_tree}
use Rattle.mp_table.proofs.table.Table.search.Given as goal

abbrev pub invariant-loop-low : goal.invariant-loop-low
invariant-loop-low l = record {
  within : l.high ≤ length l.self.terms;
  less : AllWithin (λ u. tree_cmp u (sought_tree l.self l.sought) ≡ Less) l.self.terms 0 l.low;
  greater : AllWithin (λ u. tree_cmp u (sought_tree l.self l.sought) ≡ Greater) l.self.terms l.high (length l.self.terms);
}

abbrev pub decreases-loop-low : goal.decreases-loop-low
decreases-loop-low l = l.high - l.low
