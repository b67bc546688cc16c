use Rattle.std.proofs.Common.{rules, tests, sym, ◌∙◌}
use Rattle.std.proofs.lemmas.Iterator.{YieldsList-from_slice}
use Rattle.std.proofs.lemmas.Iterator.Search.{all_from_yields_List}
use Rattle.std.proofs.lemmas.List.Folds.{list_all-map}
use Rattle.mp_term.specs.View.{tree}
use Rattle.mp_term.specs.NormalTest.{has_head}
use Rattle.mp_cond.proofs.lists.have_head.Goals as goal

pub returns : goal.returns
returns c =
    let f = c.args.op.0 in
    all_from_yields_List (λ t. has_head f (tree t)) _ _ _ c.all.ensures.ran (YieldsList-from_slice c.args.terms.now cc)
    (λ x r q h. search (rules, tests))
    ∙ sym (list_all-map (has_head f) tree c.args.terms.now)
