use Rattle.std.proofs.Common.{◌≡◌, ◌≤◌, ◌*◌, drop}
use Rattle.mp_term.specs.Size.{node_count}
use Rattle.mp_net.specs.Probe.{more_reads}
use Rattle.mp_table.specs.Table.{subject_of}
use Rattle.mp_net.proofs.PairsLaws.{IsAt}
use Rattle.mp_net.proofs.nets.Nets.matches.Given as goal

abbrev pub invariant-loop-net : goal.invariant-loop-net
invariant-loop-net l = record {
  at : IsAt l.self.sig (subject_of l.fn.probe.table) l.self.rules (drop l.net-index l.net-items) l.pairs;
  table : l.probe.table ≡ l.fn.probe.table;
  least : l.fn.probe.reads ≤ l.probe.reads;
  most : l.probe.reads ≤ more_reads l.fn.probe.reads (l.net-index * node_count (subject_of l.fn.probe.table));
}
