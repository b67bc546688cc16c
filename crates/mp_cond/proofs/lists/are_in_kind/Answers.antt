use Rattle.std.proofs.Common.{rules, tests, sym, ◌∙◌}
use Rattle.std.proofs.lemmas.Iterator.{YieldsList-from_slice}
use Rattle.std.proofs.lemmas.Iterator.Search.{all_from_yields_List}
use Rattle.std.proofs.lemmas.List.Folds.{list_all-map}
use Rattle.mp_term.specs.View.{tree}
use Rattle.mp_term.specs.Signature.{in_kind}
use Rattle.mp_cond.proofs.lists.are_in_kind.Goals as goal

pub returns : goal.returns
returns c =
    let sig = c.args.sig.now in
    let k = c.args.kind.0 in
    all_from_yields_List (λ t. in_kind sig k (tree t)) _ _ _ c.all.ensures.ran
    (YieldsList-from_slice c.args.terms.now cc) (λ x r q h. search (rules, tests))
    ∙ sym (list_all-map (in_kind sig k) tree c.args.terms.now)
