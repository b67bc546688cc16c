use Rattle.std.proofs.Common.{◌≡◌, ◌∙◌, ◌++◌, ◌+◌, ◌-◌, append_assoc, ap, map, take, drop, sym, arith}
use Rattle.mp_term.specs.Tree.{trees}
use Rattle.mp_term.specs.View.{tree}
use Rattle.mp_term.specs.Edited.{edited_at, edited_args}
use Rattle.mp_term.proofs.EditWalkLaws.{next-item, passed-to-end}
use Rattle.mp_term.proofs.replace.+push_edited.Goals as goal

pub edited_terms-loop-next-preserved : goal.edited_terms-loop-next-preserved
edited_terms-loop-next-preserved t c =
    let es = c.args.edits.now in
    let p = c.args.position.now in
    let terms = c.deref-terms.result.now in
    let i = c.loop-next.index in
    let k = c.in-Some.next in
    let q = c.in-Some.inner.now in
    let x = c.index-terms-next.result in
    let next = c.in-Some.ensures.some in
    let done = c.loop-next.edited in
    let kept = map tree (take (k - i) (drop i terms)) in
    let here = edited_at es q (tree x) in
    let rest = edited_args es p (k + 1) (trees (map tree (drop (k + 1) terms))) in
    let more : c.push_edited.new.out ≡ (done ++ kept) ++ here =
    c.in_ok-push_edited.ensures
    ∙ (λ j. c.in_ok-push_copies.ensures j ++ c.edits_within-below.ensures (tree x) j) in
    record {
      within = omega (arith, next.high);
      rest = ap (λ ts. ts ++ rest) more ∙ append_assoc (done ++ kept) here rest
          ∙ append_assoc done kept (here ++ rest)
          ∙ ap (λ ts. done ++ ts) (sym (next-item es p tree terms i k q next x c.index-terms-next.is))
          ∙ c.loop-next.invariant.rest;
    }

pub edited_terms-returns : goal.edited_terms-returns
edited_terms-returns t c =
    let es = c.args.edits.now in
    let p = c.args.position.now in
    let terms = c.deref-terms.result.now in
    let i = c.loop-next.index in
    let all : map tree terms ≡ c.args.args.now = cc in
    c.in_ok-push_copies-2.ensures
    ∙ ap (λ ts. c.loop-next.edited ++ ts)
    (sym (passed-to-end es p tree terms i c.loop-next.invariant.within c.in_default.ensures.none))
    ∙ c.loop-next.invariant.rest ∙ ap (λ ts. edited_args es p 0 (trees ts)) all
