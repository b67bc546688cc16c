use Rattle.std.proofs.Common.{drop, map}
use Rattle.mp_parser.specs.View.{change_tree}
use Rattle.mp_build.specs.Edits.{edit_of, new_term_faults}
use Rattle.mp_build.proofs.BuiltLists.{IsBuilt}
use Rattle.mp_build.proofs.edit.build_edits.Given as goal

-- the edits so far are built of the changes before those that are left
abbrev pub invariant-loop-change : goal.invariant-loop-change
invariant-loop-change l = IsBuilt (new_term_faults l.sig) (edit_of l.sig) l.edits
    (map change_tree (drop l.change-index l.changes)) (map change_tree l.changes)
