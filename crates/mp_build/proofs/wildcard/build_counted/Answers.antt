use Rattle.std.proofs.lemmas.Result.{err_from_is_err_and}
use Rattle.mp_build.proofs.Fails.{fails-front, fails-behind}
use Rattle.mp_build.proofs.wildcard.build_counted.Goals as goal

pub returns-in_err-shape : goal.returns-in_err-shape
returns-in_err-shape c =
    let p = err_from_is_err_and c.from_residual.result c.from_residual.ensures.1 in
    let e = c.in_err-shape.field-0.0 in
    rw (p.1, p.2) (fails-front e _ _ (fails-front e _ _ c.in_err-shape.ensures))

pub returns-in_err-name : goal.returns-in_err-name
returns-in_err-name c =
    let p = err_from_is_err_and c.from_residual-in_err-name.result c.from_residual-in_err-name.ensures.1 in
    let e = c.in_err-name.field-0.0 in
    rw (p.1, p.2)
    (fails-front e _ _
    (fails-behind e _ _ c.in_ok-shape.ensures.0
    (rw (c.counted_extent-extent.ensures, c.count_of-number.ensures) at c.in_err-name.ensures)))
