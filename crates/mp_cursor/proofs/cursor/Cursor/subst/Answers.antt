use Rattle.std.proofs.Common.{◌≡◌, ◌∙◌, Some, ap, sym}
use Rattle.std.specs.Prelude.{option_map}
use Rattle.std.proofs.lemmas.Result.{IfOk-weaker}
use Rattle.mp_subst.specs.Trail.{subst_in}
use Rattle.mp_subst.specs.View.{subst_of}
use Rattle.mp_theory.specs.OneList.{Item}
use Rattle.mp_cursor.proofs.CursorLaws.{some-item, subst-is}
use Rattle.mp_cursor.proofs.cursor.Cursor.subst.Goals as goal

pub returns : goal.returns
returns c =
    let d = c.self.inside in
    let item = some-item c.args.self.now.item c.requires in
    IfOk-weaker c.to_subst.result
    (λ s. subst_of s ≡ subst_in d.matched.table.now d.matched.plan.now.variables d.parts.trail)
    (λ s. option_map (λ (i : Item). i.1) c.args.self.now.item ≡ Some (subst_of s))
    (λ s q. ap (option_map (λ (i : Item). i.1)) item.1
    ∙ ap Some (sym (subst-is d c.args.self.now c.self.view_is c.self.invariant item.0 item.1) ∙ sym q))
    c.to_subst.ensures
