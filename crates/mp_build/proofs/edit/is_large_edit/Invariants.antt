use Rattle.std.proofs.Common.{◌≡◌, drop, map}
use Rattle.std.specs.List.{list_any}
use Rattle.mp_parser.specs.View.{change_tree}
use Rattle.mp_build.specs.Checks.{is_large_term}
use Rattle.mp_build.specs.Edits.{new_exprs}
use Rattle.mp_build.proofs.edit.is_large_edit.Given as goal

abbrev pub invariant-loop-change : goal.invariant-loop-change
invariant-loop-change l =
    list_any (λ c. list_any is_large_term (new_exprs c.terms)) (map change_tree (drop l.change-index l.changes))
    ≡ list_any (λ c. list_any is_large_term (new_exprs c.terms)) (map change_tree l.changes)
