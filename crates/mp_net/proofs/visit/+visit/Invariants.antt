use Rattle.std.proofs.Common.{◌+◌, ◌*◌}
use Rattle.mp_term.specs.Size.{node_count, all_nodes}
use Rattle.mp_table.specs.Table.{term_at, terms_at}
use Rattle.mp_net.proofs.visit.+visit.Given as goal

abbrev pub decreases-visit : goal.decreases-visit
decreases-visit l = 2 * node_count (term_at l.probe.now.table l.rank)

abbrev pub decreases-visit_all : goal.decreases-visit_all
decreases-visit_all l = 2 * all_nodes (terms_at l.probe.now.table l.ranks.now) + 1
