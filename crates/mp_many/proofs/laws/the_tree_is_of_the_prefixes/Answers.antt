use Rattle.mp_many.proofs.WalkableLaws.{walkable, length-tree, state-at}
use Rattle.mp_many.proofs.laws.the_tree_is_of_the_prefixes.Goals as goal

pub returns-clause-walkable : goal.returns-clause-walkable
returns-clause-walkable c = λ sig rules sound. walkable sig rules sound.each

pub returns-clause-states : goal.returns-clause-states
returns-clause-states c = length-tree

pub returns-clause-each : goal.returns-clause-each
returns-clause-each c = state-at
