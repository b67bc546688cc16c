use Rattle.mp_print.proofs.rank_printer.write_next.Goals as goal

pub put_next-requires : goal.put_next-requires
put_next-requires g c = c.plain.ensures.texts c.args.sig.now
