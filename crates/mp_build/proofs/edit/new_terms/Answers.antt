use Rattle.std.proofs.Common.{◌≡◌, List, map, sym, subst}
use Rattle.std.specs.Prelude.{flat_map}
use Rattle.mp_term.specs.Normal.{normal}
use Rattle.mp_parser.specs.Syntax.{Tree}
use Rattle.mp_parser.specs.View.{expr_tree, replacement_tree}
use Rattle.mp_parser.proofs.Trees.{tree_list-trees}
use Rattle.mp_build.specs.Answers.{Gives}
use Rattle.mp_build.specs.Build.{term_of}
use Rattle.mp_build.specs.Checks.{term_faults}
use Rattle.mp_build.specs.Edits.{new_exprs}
use Rattle.mp_build.proofs.edit.new_terms.Goals as goal

pub returns-in-Listed : goal.returns-in-Listed
returns-in-Listed c =
    let sig = c.args.sig.now in
    let same : new_exprs (replacement_tree c.args.replacement.now) ≡ map expr_tree c.in-Listed.exprs.now =
    rw c.in-Listed.is (tree_list-trees (map expr_tree c.in-Listed.exprs.now)) in
    let P : List Tree → Type 0 = λ es. Gives c.normal_terms.result (flat_map (term_faults sig) es)
    (λ ts. ts ≡ map (λ t. normal sig (term_of sig t)) es) in
    subst P (sym same) c.normal_terms.ensures
