use Rattle.std.proofs.Common.{rules, tests, sym, ◌∙◌, not}
use Rattle.std.proofs.lemmas.Iterator.{YieldsList-from_slice}
use Rattle.std.proofs.lemmas.Iterator.Search.{all_from_yields_List}
use Rattle.std.proofs.lemmas.List.Folds.{list_all-map}
use Rattle.mp_term.specs.View.{tree}
use Rattle.mp_pattern.specs.Holds.{occurs}
use Rattle.mp_cond.proofs.lists.is_free.Goals as goal

pub returns : goal.returns
returns c =
    let t = tree c.args.term.now in
    all_from_yields_List (λ u. not (occurs t (tree u))) _ _ _ c.all.ensures.ran
    (YieldsList-from_slice c.args.others.now cc) (λ x r q h. search (rules, tests))
    ∙ sym (list_all-map (λ u. not (occurs t u)) tree c.args.others.now)
