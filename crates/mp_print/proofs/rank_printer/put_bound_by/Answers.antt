use Rattle.std.proofs.lemmas.Simd.{map-map}
use Rattle.mp_table.specs.Table.{term_at}
use Rattle.mp_print.specs.Printing.{term_text}
use Rattle.mp_print.proofs.rank_printer.put_bound_by.Goals as goal

pub returns-in-Seq : goal.returns-in-Seq
returns-in-Seq g c =
    rw (c.in-Seq.is, map-map (term_text c.args.sig.now) (term_at c.args.base.now.table.now) c.args.bound.now.ranks.now)
    c.put_list.ensures

pub returns-in-Bag : goal.returns-in-Bag
returns-in-Bag g c =
    rw (c.in-Bag.is, map-map (term_text c.args.sig.now) (term_at c.args.base.now.table.now) c.args.bound.now.ranks.now)
    c.put_list-in-Bag.ensures
