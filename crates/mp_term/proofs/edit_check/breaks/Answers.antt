use Rattle.std.proofs.Common.{◌∙◌, ap, sym, subst, not}
use Rattle.std.specs.Prelude.{Some, slice_get}
use Rattle.mp_term.specs.View.{tree}
use Rattle.mp_term.specs.Signature.{IsSignature, holds_of, allows}
use Rattle.mp_term.proofs.EditFaultLaws.{breaks-below}
use Rattle.mp_term.proofs.edit_check.breaks.Goals as goal

pub returns-in-Some-App : goal.returns-in-Some-App
returns-in-Some-App c =
    let sig = c.args.sig.now in
    let valid : IsSignature sig = subst IsSignature c.sig.view_is c.sig.invariant.0 in
    let f = c.in-Some-App.op.0 in
    let found = ap (λ (t : _). Some (tree t)) (sym c.in-Some-App.field-0-is) ∙ c.in-Some-App.ensures in
    ap not (c.allows.ensures ∙ ap (λ n. holds_of (allows n) (slice_get sig.ops f)) c.count_after.ensures)
    ∙ breaks-below sig (tree c.args.term.now) c.args.edits.now c.args.edit.now c.in-Some.above.now
    c.in-Some.field-0-0.now f c.in-Some-App.args valid.least_counts (sym c.indexes.ensures ∙ c.in-Some.ensures.cases.0)
    found
