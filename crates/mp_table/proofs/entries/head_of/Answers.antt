use Rattle.std.proofs.Common.{ap}
use Rattle.mp_term.specs.Tree.{app, trees}
use Rattle.mp_term.specs.TreeLists.{tree_list-trees}
use Rattle.mp_table.proofs.entries.head_of.Goals as goal

pub returns-in-App : goal.returns-in-App
returns-in-App c = rw c.in-App.is (ap (λ ts. app c.in-App.op.0 (trees ts)) (tree_list-trees c.in-App.field-1))
