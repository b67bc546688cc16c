use Rattle.std.proofs.Common.{ap, ◌∙◌, sym}
use Rattle.mp_term.specs.Tree.{app, trees}
use Rattle.mp_term.specs.View.{tree}
use Rattle.mp_term.specs.Order.{tree_cmp}
use Rattle.mp_pattern.specs.Value.{same_terms}
use Rattle.mp_term.specs.Pieces.{same}
use Rattle.mp_one.specs.Lists.{trees_of}
use Rattle.mp_one.proofs.SameLaws.{same-same_head}
use Rattle.mp_one.proofs.trail_value.is_joined.Goals as goal

pub returns-in_ok-args-in-App : goal.returns-in_ok-args-in-App
returns-in_ok-args-in-App c =
    let us = trees_of c.args.terms.now in
    c.same_references.ensures ∙ ap (λ ts. same_terms (trees_of ts) us) c.deref.ensures.value
    ∙ ap (λ ts. same_terms ts us) (c.in_ok-args-in-App.ensures ∙ c.as_slice.ensures)
    ∙ same-same_head c.in-App.head.0 c.args.op.0 c.in-App.args us c.if-head-op.false
    ∙ ap (λ t. same tree_cmp (tree t) (app c.args.op.0 (trees us))) (sym c.in-App.is)
