use Rattle.mp_print.proofs.rank_printer.put_bound.Goals as goal

pub put_bound_by-requires : goal.put_bound_by-requires
put_bound_by-requires g c = c.plain.ensures.texts c.args.sig.now
