use Rattle.std.proofs.Common.{◌≡◌, ◌∙◌, sym, ap, subst, true, []}
use Rattle.mp_term.specs.Normal.{IsNormal}
use Rattle.mp_term.specs.Signature.{is_comm}
use Rattle.mp_term.specs.NormalTest.{ascending}
use Rattle.mp_term.specs.View.{tree}
use Rattle.mp_term.specs.Tree.{app, trees}
use Rattle.mp_theory.specs.OneList.{one_list}
use Rattle.mp_pattern.specs.RuleView.{rule_tree}
use Rattle.mp_rewrite.specs.Cancellation.{StandsNowhere}
use Rattle.mp_rewrite.proofs.PutBack.{arguments-pass}
use Rattle.mp_rewrite.proofs.CancelledNowhere.{one_list-nowhere}
use Rattle.mp_rewrite.proofs.cancelled.cancelled_by.Goals as goal

pub places_of-requires : goal.places_of-requires
places_of-requires c =
    let sig = c.args.sig.now in
    let pass = arguments-pass sig c.in-App.op.0 c.in-App.args
    (subst (IsNormal sig) (ap tree c.in-App.is) c.requires) in
    subst (λ l. ascending l ≡ true) (sym c.as_slice.ensures)
    (pass.1 (sym c.is_comm.ensures ∙ c.if-not-is_comm.false))

pub returns-in-Nowhere : goal.returns-in-Nowhere
returns-in-Nowhere c =
    let sig = c.args.sig.now in
    let r = rule_tree c.args.rule.now in
    let d = c.in-Some.cancellation in
    let ts = c.in-App.args in
    let is : tree c.args.term.now ≡ app d.op.0 (trees ts) =
    ap tree c.in-App.is ∙ ap (λ f. app f (trees ts)) (sym c.if-cancellation-op.false) in
    subst (λ t. one_list sig r t ≡ []) (sym is)
    (one_list-nowhere sig r d ts (subst (IsNormal sig) is c.requires)
    (ap (is_comm sig) c.if-cancellation-op.false ∙ sym c.is_comm.ensures ∙ c.if-not-is_comm.false) c.in-Some.ensures
    (subst (λ us. StandsNowhere sig d.op.0 us d.taken) c.as_slice.ensures c.in-Nowhere.ensures))
