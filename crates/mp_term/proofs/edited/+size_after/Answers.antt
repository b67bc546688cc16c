use Rattle.std.proofs.Common.{◌≡◌, ◌∙◌, ◌++◌, ◌+◌, ◌-◌, length, append_assoc, ap, map, take, drop, sym, subst}
use Rattle.std.proofs.Common.{arith}
use Rattle.mp_term.specs.Tree.{app, trees}
use Rattle.mp_term.specs.View.{tree}
use Rattle.mp_term.specs.Excess.{IsSizeOf}
use Rattle.mp_term.specs.Edited.{edited_at, edited_args}
use Rattle.mp_term.proofs.EditedLaws.{edited_at-kept}
use Rattle.mp_term.proofs.EditWalkLaws.{next-item, passed-to-end}
use Rattle.mp_term.proofs.edited.+size_after.Goals as goal

pub size_after-returns-in-App : goal.size_after-returns-in-App
size_after-returns-in-App t c =
    let es = c.args.edits.now in
    let p = c.args.position.now in
    let f = c.in-App.field-0.0 in
    rw (c.in-App.is, edited_at-kept es p (app f (trees c.in-App.args)) c.in_default.ensures)
    (c.applied.ensures f (edited_args es p 0 (trees c.in-App.args)) c.size_of_args.ensures)

pub size_of_args-loop-next-preserved : goal.size_of_args-loop-next-preserved
size_of_args-loop-next-preserved t c =
    let es = c.args.edits.now in
    let p = c.args.position.now in
    let terms = c.deref-terms.result.now in
    let i = c.loop-next.index in
    let k = c.in-Some.next in
    let q = c.in-Some.inner.now in
    let x = c.index-terms-next.result in
    let next = c.in-Some.ensures.some in
    let done = c.loop-next.invariant.sized.0 in
    let kept = map tree (take (k - i) (drop i terms)) in
    let here = edited_at es q (tree x) in
    let rest = edited_args es p (k + 1) (trees (map tree (drop (k + 1) terms))) in
    let part : IsSizeOf c.size_after.result here =
    subst (IsSizeOf c.size_after.result) (c.edits_within-below.ensures (tree x)) c.size_after.ensures in
    record {
      within = omega (arith, next.high);
      sized = (
        (done ++ kept) ++ here,
        c.beside-all.ensures (done ++ kept) here
            (c.beside.ensures done kept c.loop-next.invariant.sized.1 c.size_of_all-kept.ensures) part,
        append_assoc (done ++ kept) here rest ∙ append_assoc done kept (here ++ rest)
            ∙ ap (λ ts. done ++ ts) (sym (next-item es p tree terms i k q next x c.index-terms-next.is))
            ∙ c.loop-next.invariant.sized.2,
      );
    }

pub size_of_args-returns : goal.size_of_args-returns
size_of_args-returns t c =
    let es = c.args.edits.now in
    let p = c.args.position.now in
    let terms = c.deref-terms.result.now in
    let i = c.loop-next.index in
    let done = c.loop-next.invariant.sized.0 in
    let kept = map tree (take (length terms - i) (drop i terms)) in
    let all : map tree terms ≡ c.args.args.now = cc in
    let whole : done ++ kept ≡ edited_args es p 0 (trees c.args.args.now) =
    ap (λ ts. done ++ ts)
    (sym (passed-to-end es p tree terms i c.loop-next.invariant.within c.in_default.ensures.none))
    ∙ c.loop-next.invariant.sized.2 ∙ ap (λ ts. edited_args es p 0 (trees ts)) all in
    subst (IsSizeOf c.beside-2.result) whole
    (c.beside-2.ensures done kept c.loop-next.invariant.sized.1 c.size_of_all.ensures)
