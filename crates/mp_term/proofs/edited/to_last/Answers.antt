use Rattle.std.proofs.Common.{◌∙◌, ◌+◌, ap, sym, take, arith}
use Rattle.std.specs.Prelude.{find, nat_eq}
use Rattle.std.specs.List.{starts_with}
use Rattle.mp_term.specs.EditWalk.{is_within, FindsSame}
use Rattle.mp_term.proofs.EditWalkLaws.{find-more, narrower-fails}
use Rattle.mp_term.proofs.edited.to_last.Goals.{then-starts_with, else-starts_with}
use Rattle.mp_term.proofs.edited.to_last.Goals as goal

pub loop-index-preserved : goal.loop-index-preserved
loop-index-preserved c =
    let es = c.args.edits.now in
    let p = c.args.position.now in
    let i = c.loop-index.index in
    let e = c.index-edits-index.result in
    let same : FindsSame p (take (i + 1) es) (take c.if-starts_with.end es) =
    elim c.if-starts_with.branch [
      | then-starts_with w ↦ λ test narrow. ap (λ n. find test (take n es)) w.end-is
      | else-starts_with w ↦ λ test narrow.
          ap (λ n. find test (take n es)) w.end-is ∙ c.loop-index.invariant.same test narrow
          ∙ sym (find-more test es i e c.loop-index-test.true c.index-edits-index.is
          (narrower-fails (test e) (is_within p e) (narrow e)
          (ap (λ q. starts_with nat_eq q p) (sym c.indexes.ensures) ∙ sym c.starts_with.ensures.value
          ∙ w.if-starts_with.false)))
    ] in
    record {
      behind = elim c.if-starts_with.branch [ then-starts_with w ↦ omega arith | else-starts_with w ↦ omega arith ];
      same = same;
    }
