use Rattle.mp_base_tests.proofs.trails.has_value.Goals as goal

pub to_value-requires-clause-ranks : goal.to_value-requires-clause-ranks
to_value-requires-clause-ranks g c = (c.in-Some.ensures.is_bound c.args.table.now c.requires).ranks

pub to_value-requires-clause-formed : goal.to_value-requires-clause-formed
to_value-requires-clause-formed g c = (c.in-Some.ensures.is_bound c.args.table.now c.requires).formed
