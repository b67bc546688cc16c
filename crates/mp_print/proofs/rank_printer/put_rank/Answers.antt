use Rattle.mp_print.proofs.rank_printer.put_rank.Goals as goal

pub put_tree-requires : goal.put_tree-requires
put_tree-requires g c = c.plain.ensures.texts c.args.sig.now
