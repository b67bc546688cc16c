use Rattle.std.proofs.Common.{◌≡◌, map, ap, sym, ◌∙◌}
use Rattle.std.specs.List.{list_any}
use Rattle.mp_parser.specs.View.{expr_tree, replacement_tree}
use Rattle.mp_parser.proofs.Trees.{tree_list-trees}
use Rattle.mp_build.specs.Checks.{is_large_term}
use Rattle.mp_build.specs.Edits.{new_exprs}
use Rattle.mp_build.proofs.edit.has_large_term.Goals as goal

pub returns-in-Listed : goal.returns-in-Listed
returns-in-Listed c =
    let same : new_exprs (replacement_tree c.args.change.now.terms) ≡ map expr_tree c.in-Listed.exprs.now =
    rw c.in-Listed.is (tree_list-trees (map expr_tree c.in-Listed.exprs.now)) in
    c.some_large_term.ensures ∙ sym (ap (list_any is_large_term) same)
