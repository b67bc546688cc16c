use Rattle.std.proofs.Common.{◌≡◌, ◌≤◌, ◌-◌, length, true, false}
use Rattle.std.specs.List.{AllWithin}
use Rattle.mp_table.specs.Table.{term_at}
use Rattle.mp_search.specs.Portion.{precedes}
use Rattle.mp_search.proofs.headed.place_between.Given as goal

abbrev pub invariant-loop-low : goal.invariant-loop-low
invariant-loop-low l = record {
  from : l.from ≤ l.low;
  order : l.low ≤ l.high;
  within : l.high ≤ length l.list;
  before : AllWithin (λ r. precedes l.table l.group l.past (term_at l.table r) ≡ true) l.list 0 l.low;
  behind : AllWithin (λ r. precedes l.table l.group l.past (term_at l.table r) ≡ false) l.list l.high (length l.list);
}

abbrev pub decreases-loop-low : goal.decreases-loop-low
decreases-loop-low l = l.high - l.low
