use Rattle.std.proofs.Common.{◌≡◌, ◌++◌, drop}
use Rattle.std.specs.List.{AllByRecursion, filter_map}
use Rattle.mp_table.specs.Table.{subject_of}
use Rattle.mp_net.specs.Walk.{visits, tested_pair, IsFound}
use Rattle.mp_net.proofs.nets.Nets.push_tested.Given as goal

abbrev pub invariant-loop-number : goal.invariant-loop-number
invariant-loop-number l = record {
  found : AllByRecursion (IsFound l.self.rules (subject_of l.table) (visits l.table l.trace))
      (drop l.number-index l.numbers);
  pairs : l.pairs ++ filter_map (tested_pair l.self.sig (subject_of l.table) l.self.rules)
      (drop l.number-index l.numbers)
      ≡ l.fn.pairs ++ filter_map (tested_pair l.self.sig (subject_of l.table) l.self.rules) l.numbers;
}
