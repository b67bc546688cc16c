use Rattle.std.proofs.Common.{rules, tests, sym, ◌∙◌, not, map}
use Rattle.std.proofs.lemmas.Iterator.{YieldsList-from_slice}
use Rattle.std.proofs.lemmas.Iterator.Search.{all_from_yields_List}
use Rattle.std.proofs.lemmas.List.Folds.{list_all-map}
use Rattle.std.specs.List.{list_all}
use Rattle.mp_term.specs.View.{tree}
use Rattle.mp_pattern.specs.Holds.{occurs}
use Rattle.mp_cond.proofs.lists.are_free.Goals as goal

pub returns : goal.returns
returns c =
    let us = map tree c.args.others.now in
    all_from_yields_List (λ t. list_all (λ u. not (occurs (tree t) u)) us) _ _ _ c.all.ensures.ran
    (YieldsList-from_slice c.args.terms.now cc) (λ x r q h. search (rules, tests))
    ∙ sym (list_all-map (λ t. list_all (λ u. not (occurs t u)) us) tree c.args.terms.now)
