use Rattle.mp_gen.proofs.laws.a_generated_program_has_the_items_of_the_rules.Goals as goal

pub returns-clause-walkable : goal.returns-clause-walkable
returns-clause-walkable c = c.the_tree_is_of_the_prefixes.ensures.walkable

pub returns-clause-items : goal.returns-clause-items
returns-clause-items c = c.a_walk_over_the_tree_has_the_items_of_the_rules.ensures
