use Rattle.std.proofs.Common.{◌≡◌, ◌<◌, length, sym, subst}
use Rattle.mp_term.specs.Size.{node_count}
use Rattle.mp_table.specs.Reading.{entry_trees}
use Rattle.mp_table.specs.Table.{term_at}
use Rattle.mp_table.proofs.ReadingLaws.{entry_read}
use Rattle.mp_table.proofs.table.Table.nodes.Goals as goal

pub returns : goal.returns
returns c =
    let rs = c.self.inside.args.items in
    let es = c.self.inside.entries.items in
    let there : c.args.rank.0 < length (entry_trees rs es) =
    subst (λ t. c.args.rank.0 < length t.terms) (sym c.self.view_is) c.requires in
    let e = entry_read rs (entry_trees rs es) es c.args.rank.0 c.index.result.now c.self.invariant.0 there
    c.index.ensures in
    subst (λ t. c.index.result.now.nodes ≡ node_count (term_at t c.args.rank)) c.self.view_is e.nodes
