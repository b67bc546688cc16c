use Rattle.std.proofs.Common.{subst, arith}
use Rattle.mp_table.specs.Reading.{entry_trees}
use Rattle.mp_table.specs.Table.{IsTable}
use Rattle.mp_table.proofs.ReadingLaws.{arguments_there, length-entries}
use Rattle.mp_table.proofs.table.Table.len.Goals as goal

pub returns-clause-valid : goal.returns-clause-valid
returns-clause-valid c =
    let rs = c.self.inside.args.items in
    let es = c.self.inside.entries.items in
    let ts = entry_trees rs es in
    subst IsTable c.self.view_is (record {
      ascending = c.self.invariant.1;
      arguments = arguments_there rs ts es ts c.self.invariant.0;
      root = omega (arith, c.self.invariant.3, length-entries rs ts es ts c.self.invariant.0);
    })
