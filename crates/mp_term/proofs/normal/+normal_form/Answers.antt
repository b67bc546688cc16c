use Rattle.std.proofs.Common.{◌≡◌, ◌∙◌, ap, sym, map}
use Rattle.std.specs.Prelude.{flat_map}
use Rattle.std.specs.Vec.Iter.{into_iter_items}
use Rattle.mp_term.specs.Tree.{trees}
use Rattle.mp_term.specs.View.{tree}
use Rattle.mp_term.specs.Normal.{parts, normals}
use Rattle.mp_term.proofs.NormalLaws.{normals-forest}
use Rattle.mp_term.proofs.normal.+normal_form.Goals as goal

pub flat_arguments-loop-arg-init : goal.flat_arguments-loop-arg-init
flat_arguments-loop-arg-init t c =
    let sig = c.args.sig.now in
    let rest = into_iter_items c.into_iter-arg-iterator.result in
    let all : map tree rest ≡ c.args.args =
    ap (map tree) c.into_iter-arg-iterator.ensures.into_iter_gives.0 ∙ c.args-2.view_is in
    rw c.in_ok-flat.ensures
    (ap (flat_map (parts sig c.args.op.0)) (sym (normals-forest sig tree rest) ∙ ap (λ us. normals sig (trees us)) all))
