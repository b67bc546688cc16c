use Rattle.mp_print.proofs.rank_texts.RankTexts.put_bound.Goals as goal

pub put_bound_by-requires : goal.put_bound_by-requires
put_bound_by-requires g c = rw (c.deref.ensures.value, c.deref-2.ensures.value) c.self.invariant
