use Rattle.std.proofs.Common.{◌≡◌, ◌≤◌, ◌-◌, length, true}
use Rattle.std.specs.List.{AllWithin}
use Rattle.mp_table.specs.Table.{term_at}
use Rattle.mp_search.specs.Portion.{precedes}
use Rattle.mp_search.proofs.headed.place_behind.Given as goal

abbrev pub invariant-loop-end : goal.invariant-loop-end
invariant-loop-end l = record {
  from : l.first ≤ l.end;
  within : l.end ≤ length l.list;
  before : AllWithin (λ r. precedes l.table l.group true (term_at l.table r) ≡ true) l.list 0 l.end;
}

abbrev pub decreases-loop-end : goal.decreases-loop-end
decreases-loop-end l = length l.list - l.end
